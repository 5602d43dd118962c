-- What holds of the keys of words.
use Rattle.std.specs.Prelude.{◌≡◌, ◌≤◌, ◌<◌, ℕ, ◌/◌, ◌%◌, List, [], ◌∷◌, Option, Some, None, Ok, All, length, map}
use Rattle.std.specs.Prelude.{nat_lt, if◌then◌else◌}
use Rattle.zk_mem.specs.Map.{MemoryMap}
use Rattle.zk_text.specs.declared.alphabet.Row.{Row}
use Rattle.zk_text.specs.declared.alphabet.Row.TheVariants.{A0, A1, A2}
use Rattle.zk_text.specs.declared.unit.Unit.TheVariants.{Code}
use Rattle.zk_text.specs.Alphabets.{letter_of}
use Rattle.zk_mem.specs.Words.{words_in}
use Rattle.zk_text.specs.Words.{z_characters}
use Rattle.zk_text.specs.Meaning.{Units, meaning}
use Rattle.zk_text.specs.Keys.{place, a2_place, spelling, spellings, key_characters, key_of}

-- z is the first Z-character of an alphabet, from a first one to 31, whose letter is c
pub record IsFirst (m : MemoryMap) (row : Row) (c first z : ℕ) : Type 0 where
  pub from : first ≤ z
  pub within : z < 32
  pub letter : letter_of m row z ≡ c
  pub least : (y : ℕ) → first ≤ y → letter_of m row y ≡ c → z ≤ y

-- none of them has that letter
abbrev pub IsAbsent : MemoryMap → Row → ℕ → ℕ → Type 0
IsAbsent m row c first = (z : ℕ) → first ≤ z → z < 32 → letter_of m row z ≡ c → ⊥

-- what a search for a letter finds
abbrev pub Finds : MemoryMap → Row → ℕ → ℕ → Option ℕ → Type 0
Finds m row c first None = IsAbsent m row c first
Finds m row c first (Some z) = IsFirst m row c first z

-- the place of a letter in A0 and in A1
abbrev pub PlaceIsFirst : Type 0
PlaceIsFirst = (m : MemoryMap) (row : Row) (c : ℕ) → Finds m row c 6 (place m row c)

-- that in A2, where 6 begins a code
abbrev pub A2PlaceIsFirst : Type 0
A2PlaceIsFirst = (m : MemoryMap) (c : ℕ) → Finds m A2 c 7 (a2_place m c)

-- a space is 0, also where an alphabet of the story has one
abbrev pub SpaceIsZero : Type 0
SpaceIsZero = (m : MemoryMap) → spelling m 32 ≡ 0 ∷ []

-- a new line that A0 and A1 lack is 7 of A2
abbrev pub NewLineIsSeven : Type 0
NewLineIsSeven = (m : MemoryMap) → IsAbsent m A0 13 6 → IsAbsent m A1 13 6 →
    spelling m 13 ≡ 5 ∷ 7 ∷ []

-- other codes: a letter of A0 is alone, one of A1 alone comes after 4, one of A2 alone after 5, and
-- what no alphabet has is a code of ten bits
abbrev pub SpellingByCases : Type 0
SpellingByCases = (m : MemoryMap) (c : ℕ) → (c ≡ 32 → ⊥) →
    ((z : ℕ) → IsFirst m A0 c 6 z → spelling m c ≡ z ∷ [])
    × (IsAbsent m A0 c 6 →
    ((z : ℕ) → IsFirst m A1 c 6 z → spelling m c ≡ 4 ∷ z ∷ [])
    × (IsAbsent m A1 c 6 →
    ((z : ℕ) → IsFirst m A2 c 7 z → spelling m c ≡ 5 ∷ z ∷ [])
    × (IsAbsent m A2 c 7 → spelling m c ≡ 5 ∷ 6 ∷ c / 32 ∷ c % 32 ∷ [])))

-- what is spelled means its letters, whatever abbreviations stand for
abbrev pub SpellingsMean : Type 0
SpellingsMean = (m : MemoryMap) (expand : ℕ → Units) (text : List ℕ) →
    meaning m expand (spellings m text) ≡ Ok (map (λ c. Code c) text)

-- so do the Z-characters of a key that nothing is cut off from: what fills it up means nothing
abbrev pub KeyMeans : Type 0
KeyMeans = (m : MemoryMap) (expand : ℕ → Units) (most : ℕ) (text : List ℕ) →
    length (spellings m text) ≤ most →
    meaning m expand (key_characters m most text) ≡ Ok (map (λ c. Code c) text)

-- how many Z-characters a key has (sections 13.3 and 13.4)
abbrev pub characters_in_key : MemoryMap → ℕ
characters_in_key m = if nat_lt m.version 4 then 6 else 9

-- the bytes of a key are a text of its Z-characters; a code of ten bits is below 1024
abbrev pub KeyIsText : Type 0
KeyIsText = (m : MemoryMap) (text : List ℕ) → All (λ c. c < 1024) text →
    (ws : List ℕ) × (words_in (key_of m text) ≡ Some ws)
    × (z_characters ws ≡ key_characters m (characters_in_key m) text)

-- so the bytes of a key that nothing is cut off from, read as a text, mean the letters of its word
abbrev pub KeyReads : Type 0
KeyReads = (m : MemoryMap) (expand : ℕ → Units) (text : List ℕ) → All (λ c. c < 1024) text →
    length (spellings m text) ≤ characters_in_key m →
    (ws : List ℕ) × (words_in (key_of m text) ≡ Some ws)
    × (meaning m expand (z_characters ws) ≡ Ok (map (λ c. Code c) text))
