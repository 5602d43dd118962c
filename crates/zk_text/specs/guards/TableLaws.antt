-- What holds of the alphabets, of the extra characters and of lower case.
use Rattle.std.specs.Prelude.{◌≡◌, ◌≤◌, ◌<◌, ◌⊎◌, ℕ, ◌+◌, ◌-◌, List, Option, Some, None, slice_get}
use Rattle.zk_mem.specs.Map.{MemoryMap}
use Rattle.zk_text.specs.declared.alphabet.Row.TheVariants.{A0, A1, A2}
use Rattle.zk_text.specs.Standard.{standard_characters, capitals}
use Rattle.zk_text.specs.Alphabets.{letter_by}
use Rattle.zk_text.specs.Extra.{ExtraTable, character, small_letter, lower_code}

-- A0 of the Standard is a to z (section 3.5.3)
abbrev pub A0IsSmall : Type 0
A0IsSmall = (m : MemoryMap) (z : ℕ) → 6 ≤ z → z < 32 → letter_by m None A0 z ≡ 97 + (z - 6)

-- A1 is A to Z
abbrev pub A1IsCapital : Type 0
A1IsCapital = (m : MemoryMap) (z : ℕ) → 6 ≤ z → z < 32 → letter_by m None A1 z ≡ 65 + (z - 6)

-- A2 has the digits from 8 on
abbrev pub A2HasDigits : Type 0
A2HasDigits = (m : MemoryMap) (z : ℕ) → 8 ≤ z → z < 18 → letter_by m None A2 z ≡ 48 + (z - 8)

-- 7 in A2 is a new line, in a story's own alphabets too (section 3.5.5.1)
abbrev pub A2HasNewLine : Type 0
A2HasNewLine = (m : MemoryMap) (table : Option ℕ) → letter_by m table A2 7 ≡ 13

-- no extra character of the Standard is one of ASCII
abbrev pub ExtraIsBeyondAscii : Type 0
ExtraIsBeyondAscii = (i c : ℕ) → slice_get standard_characters i ≡ Some c → 127 ≤ c

-- under the Standard's table no two codes have the same character
abbrev pub CodesDiffer : Type 0
CodesDiffer = (a b c : ℕ) → character None a ≡ Some c → character None b ≡ Some c → a ≡ b

-- in Unicode a small letter comes 32 after its capital, and œ right after Œ
abbrev pub SmallIsAbove : Type 0
SmallIsAbove = (c small : ℕ) → small_letter capitals c ≡ Some small →
    (small ≡ c + 32) ⊎ ((c ≡ 0x152) × (small ≡ 0x153))

-- the capitals of Latin-1 that have a code have small letters
abbrev pub CapitalHasSmall : Type 0
CapitalHasSmall = (code c : ℕ) → character None code ≡ Some c → 0xc0 ≤ c → c < 0xdf →
    small_letter capitals c ≡ Some (c + 32)

-- a capital's code in lower case is that of its small letter
abbrev pub LowerIsSmall : Type 0
LowerIsSmall = (code c small : ℕ) → character None code ≡ Some c →
    small_letter capitals c ≡ Some small → character None (lower_code None code) ≡ Some small

-- a code without a character, and one whose character is no capital, stays
abbrev pub OthersStay : Type 0
OthersStay = (code : ℕ) →
    ((c : ℕ) → character None code ≡ Some c → small_letter capitals c ≡ None) →
    lower_code None code ≡ code

-- under an own table A to Z alone change
abbrev pub OwnLowersAscii : Type 0
OwnLowersAscii = (words : List ℕ) (code : ℕ) →
    (65 ≤ code → code < 91 → lower_code (Some words) code ≡ code + 32)
    × (code < 65 → lower_code (Some words) code ≡ code)
    × (91 ≤ code → lower_code (Some words) code ≡ code)

-- the letters of A1 become those of A0
abbrev pub LowerOfA1 : Type 0
LowerOfA1 = (t : ExtraTable) (m : MemoryMap) (z : ℕ) → 6 ≤ z → z < 32 →
    lower_code t (letter_by m None A1 z) ≡ letter_by m None A0 z

-- what is in lower case stays
abbrev pub LowerTwice : Type 0
LowerTwice = (t : ExtraTable) (code : ℕ) → lower_code t (lower_code t code) ≡ lower_code t code
