-- Worked examples of this crate's definitions. Their values come from the Standard by hand, and no definition made
-- them.
use Rattle.std.specs.Prelude.{◌≡◌, ℕ, List, [], ◌∷◌, ◌++◌, Some, None, Ok, Err, replicate, codes, map}
use Rattle.zk_mem.specs.declared.fault.Fault.TheVariants.{TextPastEnd, NestedAbbreviation}
use Rattle.zk_mem.specs.Fresh.{plain_setup}
use Rattle.zk_mem.specs.Map.{MemoryMap}
use Rattle.zk_text.specs.declared.alphabet.Row.TheVariants.{A0, A1, A2}
use Rattle.zk_text.specs.declared.pieces.Piece.TheVariants.{Letter, Code, Abbreviation}
use Rattle.zk_text.specs.declared.unit.Unit.{Unit}
use Rattle.zk_text.specs.declared.unit.Unit.TheVariants as unit
use Rattle.zk_text.specs.Alphabets.{letter_of, alphabet_table}
use Rattle.zk_text.specs.Extra.{own_characters, character, code_of, lower_code}
use Rattle.zk_text.specs.Keys.{key_of}
use Rattle.zk_text.specs.Meaning.{text_units, checked_end}
use Rattle.zk_text.specs.Pieces.{pieces}
use Rattle.zk_text.specs.Shown.{shown}
use Rattle.zk_text.specs.Words.{z_characters}

-- memory of a version with these bytes, whose header names no tables
abbrev pub memory_of : ℕ → List ℕ → MemoryMap
memory_of version bytes = record { version = version; static_base = 0; bytes = bytes; file = []; setup = plain_setup 0 }

-- the same with this file, whose header may name tables
abbrev pub memory_by : List ℕ → List ℕ → MemoryMap
memory_by file bytes = record { version = 5; static_base = 0; bytes = bytes; file = file; setup = plain_setup 0 }

-- ---- alphabets (sections 3.2 and 3.5)

-- the first and last letters of A0 and A1; of A2 the new line, the digits and the signs after them (section 3.5.3)
abbrev pub StandardLetters : Type 0
StandardLetters =
    (map (letter_of (memory_of 3 []) A0) (6 ∷ 7 ∷ 31 ∷ []) ≡ codes "abz")
    × (map (letter_of (memory_of 3 []) A1) (6 ∷ 7 ∷ 31 ∷ []) ≡ codes "ABZ")
    × (map (letter_of (memory_of 5 []) A2) (7 ∷ 8 ∷ 17 ∷ []) ≡ 13 ∷ codes "09")
    × (map (letter_of (memory_of 5 []) A2) (18 ∷ 19 ∷ 20 ∷ 21 ∷ 22 ∷ 23 ∷ 24 ∷ 25 ∷ 26 ∷ 27 ∷ 28 ∷ 29 ∷ 30 ∷ 31
    ∷ []) ≡ codes ".,!?_#'\"/\\-:()")

-- a header of version 5 with the alphabet table at 4
abbrev pub names_alphabet : List ℕ
names_alphabet = 5 ∷ [] ++ replicate 51 0 ++ 0 ∷ 4 ∷ []

-- 78 letters of a story's own: A0 backwards, then A1 backwards, then for A2 all dots
abbrev pub own_letters : List ℕ
own_letters = codes "zyxwvutsrqponmlkjihgfedcba" ++ codes "ZYXWVUTSRQPONMLKJIHGFEDCBA" ++ replicate 26 46

-- an own alphabet counts where all of it lies in data; Z-character 7 of A2 stays a new line (section 3.5.5)
abbrev pub OwnLetters : Type 0
OwnLetters =
    (alphabet_table (memory_by names_alphabet (replicate 4 0 ++ own_letters)) ≡ Some 4)
    × (letter_of (memory_by names_alphabet (replicate 4 0 ++ own_letters)) A0 6 ≡ 122)
    × (letter_of (memory_by names_alphabet (replicate 4 0 ++ own_letters)) A1 31 ≡ 65)
    × (letter_of (memory_by names_alphabet (replicate 4 0 ++ own_letters)) A2 31 ≡ 46)
    × (letter_of (memory_by names_alphabet (replicate 4 0 ++ own_letters)) A2 7 ≡ 13)
    × (alphabet_table (memory_by names_alphabet (replicate 3 0 ++ own_letters)) ≡ None)

-- ---- Z-characters and pieces (sections 3.2 to 3.4)

-- three to a word, from the high bits on; the top bit is none of them (section 3.2)
abbrev pub ThreeToAWord : Type 0
ThreeToAWord = z_characters (0x64d0 ∷ 0xa8a5 ∷ []) ≡ 25 ∷ 6 ∷ 16 ∷ 10 ∷ 5 ∷ 5 ∷ []

-- 4 and 5 shift the next letter alone, to A1 and to A2; of two shifts the later one counts (section 3.2.3)
abbrev pub ShiftsLastOneLetter : Type 0
ShiftsLastOneLetter =
    (pieces (4 ∷ 6 ∷ 6 ∷ []) ≡ Letter A1 6 ∷ Letter A0 6 ∷ [])
    × (pieces (5 ∷ 7 ∷ 8 ∷ []) ≡ Letter A2 7 ∷ Letter A0 8 ∷ [])
    × (pieces (4 ∷ 5 ∷ 8 ∷ []) ≡ Letter A2 8 ∷ [])
    × (pieces (0 ∷ 31 ∷ []) ≡ Code 32 ∷ Letter A0 31 ∷ [])

-- 5 and 6 begin a code of ten bits, high half first: 2 and 1 are 65, 31 and 31 are 1023; one that is cut off shows
-- nothing (section 3.4)
abbrev pub CodesOfTenBits : Type 0
CodesOfTenBits =
    (pieces (5 ∷ 6 ∷ 2 ∷ 1 ∷ 6 ∷ []) ≡ Code 65 ∷ Letter A0 6 ∷ [])
    × (pieces (5 ∷ 6 ∷ 31 ∷ 31 ∷ []) ≡ Code 1023 ∷ [])
    × (pieces (5 ∷ 6 ∷ 2 ∷ []) ≡ [])

-- 1, 2 and 3 with the next Z-character x name abbreviation 32 (z - 1) + x (section 3.3)
abbrev pub AbbreviationsByThirtyTwo : Type 0
AbbreviationsByThirtyTwo =
    (pieces (1 ∷ 0 ∷ []) ≡ Abbreviation 0 ∷ [])
    × (pieces (1 ∷ 5 ∷ 6 ∷ []) ≡ Abbreviation 5 ∷ Letter A0 6 ∷ [])
    × (pieces (2 ∷ 1 ∷ []) ≡ Abbreviation 33 ∷ [])
    × (pieces (3 ∷ 31 ∷ []) ≡ Abbreviation 95 ∷ [])
    × (pieces (6 ∷ 2 ∷ []) ≡ Letter A0 6 ∷ [])

-- ---- texts (sections 3.2 and 3.3)

-- the units that print codes
abbrev pub units : List ℕ → List Unit
units cs = map (λ (c : ℕ). unit.Code c) cs

-- 64 D0 A8 A5 is "take", and ends at 4; a text without a marked word has no end (section 3.2)
abbrev pub TextsMean : Type 0
TextsMean =
    (text_units (memory_of 3 (0x64 ∷ 0xd0 ∷ 0xa8 ∷ 0xa5 ∷ [])) 0 ≡ Ok (units (codes "take")))
    × (checked_end (memory_of 3 (0x64 ∷ 0xd0 ∷ 0xa8 ∷ 0xa5 ∷ [])) 0 ≡ Ok 4)
    × (text_units (memory_of 3 (0x64 ∷ 0xd0 ∷ 0x28 ∷ 0xa5 ∷ [])) 0 ≡ Err TextPastEnd)

-- at 0 a text of abbreviation 33 and an `a`; at 4 a text of one word; the table of abbreviations begins at 10, and its
-- entry 33 at 76 has the word address 2
abbrev pub abbreviating : ℕ → ℕ → MemoryMap
abbreviating high low =
    memory_by (replicate 24 0 ++ 0 ∷ 10 ∷ []) (0x88 ∷ 0x26 ∷ 0 ∷ 0 ∷ high ∷ low ∷ [] ++ replicate 70 0 ++ 0 ∷ 2 ∷ [])

-- an abbreviation is found by a table of words, which are word addresses; inside it another is a fault, a choice of
-- zkit (sections 3.3 and 1.2.2)
abbrev pub AbbreviationsExpand : Type 0
AbbreviationsExpand =
    (text_units (abbreviating 0x98 0xe8) 0 ≡ Ok (units (codes "abca")))
    × (checked_end (abbreviating 0x98 0xe8) 0 ≡ Ok 2)
    × (text_units (abbreviating 0x84 0x06) 0 ≡ Err NestedAbbreviation)

-- ---- characters (section 3.8)

-- 32 to 126 are ASCII, and the extra characters go from 155 to 223 (sections 3.8.3 and 3.8.5.3)
abbrev pub CharactersOfCodes : Type 0
CharactersOfCodes =
    (map (character None) (31 ∷ 32 ∷ 126 ∷ 127 ∷ 154 ∷ []) ≡ None ∷ Some 32 ∷ Some 126 ∷ None ∷ None ∷ [])
    × (map (character None) (155 ∷ 156 ∷ 161 ∷ 170 ∷ 201 ∷ 220 ∷ 223 ∷ []) ≡ map Some (codes "äößéåœ¿"))
    × (map (character None) (224 ∷ 251 ∷ 1023 ∷ []) ≡ None ∷ None ∷ None ∷ [])

-- and back (section 3.8.5.3)
abbrev pub CodesOfCharacters : Type 0
CodesOfCharacters =
    map (code_of None) (65 ∷ 0xe4 ∷ 0xe9 ∷ 0xbf ∷ 0x0416 ∷ [])
    ≡ Some 65 ∷ Some 155 ∷ Some 170 ∷ Some 223 ∷ None ∷ []

-- capitals become small letters: A, Z, A with two dots and OE; others stay; under an own table A to Z alone (section
-- 3.8.5.3)
abbrev pub LowerCase : Type 0
LowerCase =
    (map (lower_code None) (65 ∷ 90 ∷ 158 ∷ 221 ∷ []) ≡ 97 ∷ 122 ∷ 155 ∷ 220 ∷ [])
    × (map (lower_code None) (64 ∷ 91 ∷ 155 ∷ 161 ∷ []) ≡ 64 ∷ 91 ∷ 155 ∷ 161 ∷ [])
    × (map (lower_code (Some [])) (65 ∷ 158 ∷ []) ≡ 97 ∷ 158 ∷ [])

-- a header of version 5 with the header extension at 8
abbrev pub names_extension : List ℕ
names_extension = 5 ∷ [] ++ replicate 53 0 ++ 0 ∷ 8 ∷ []

-- an extension of so many words, whose third names the Unicode table at 16: two characters of Cyrillic
abbrev pub with_extension : ℕ → MemoryMap
with_extension count =
    memory_by names_extension (replicate 8 0 ++ 0 ∷ count ∷ 0 ∷ 0 ∷ 0 ∷ 0 ∷ 0 ∷ 16 ∷ 2 ∷ 0x04 ∷ 0x16 ∷ 0x04 ∷ 0x17 ∷ [])

-- an own table replaces the whole of the Standard's, from 155 on (section 3.8.5.2)
abbrev pub OwnCharacters : Type 0
OwnCharacters =
    (own_characters (with_extension 3) ≡ Some (0x0416 ∷ 0x0417 ∷ []))
    × (own_characters (with_extension 2) ≡ None)
    × (own_characters (memory_of 5 []) ≡ None)
    × (map (character (Some (0x0416 ∷ 0x0417 ∷ []))) (97 ∷ 155 ∷ 156 ∷ 157 ∷ []) ≡ Some 97 ∷ Some 0x0416
    ∷ Some 0x0417 ∷ None ∷ [])
    × (map (code_of (Some (0x0416 ∷ 0x0417 ∷ []))) (0x0417 ∷ 0xe4 ∷ []) ≡ Some 156 ∷ None ∷ [])

-- 0 shows nothing, 9 a space, 11 two, 13 a new line, 170 an e with an accent; what can't be shown is a question mark
-- (section 3.8.2)
abbrev pub UnitsShow : Type 0
UnitsShow =
    (map (λ (c : ℕ). shown None (unit.Code c)) (0 ∷ 9 ∷ 11 ∷ 13 ∷ 97 ∷ 170 ∷ 1 ∷ 300 ∷ [])
    ≡ [] ∷ (32 ∷ []) ∷ (32 ∷ 32 ∷ []) ∷ (10 ∷ []) ∷ (97 ∷ []) ∷ (0xe9 ∷ []) ∷ (63 ∷ []) ∷ (63 ∷ []) ∷ [])
    × (map (λ (c : ℕ). shown None (unit.Character c)) (0x0416 ∷ 7 ∷ 0x7f ∷ 0x9f ∷ 0xa0 ∷ 0xd800 ∷ 0xe000 ∷ [])
    ≡ (0x0416 ∷ []) ∷ (63 ∷ []) ∷ (63 ∷ []) ∷ (63 ∷ []) ∷ (0xa0 ∷ []) ∷ (63 ∷ []) ∷ (0xe000 ∷ []) ∷ [])

-- ---- keys (sections 3.7, 13.3 and 13.4)

-- four bytes of six Z-characters up to version 3: "take" is 64 D0 A8 A5, and of "lantern" the last letter is cut off
-- (sections 3.7 and 13.3)
abbrev pub EarlyKeys : Type 0
EarlyKeys =
    (key_of (memory_of 3 []) (codes "take") ≡ 0x64 ∷ 0xd0 ∷ 0xa8 ∷ 0xa5 ∷ [])
    × (key_of (memory_of 3 []) (codes "lantern") ≡ 0x44 ∷ 0xd3 ∷ 0xe5 ∷ 0x57 ∷ [])

-- six bytes of nine from version 4 on: "i" is 38 A5 14 A5 94 A5 (sections 3.7 and 13.4)
abbrev pub LateKeys : Type 0
LateKeys =
    (key_of (memory_of 5 []) (codes "i") ≡ 0x38 ∷ 0xa5 ∷ 0x14 ∷ 0xa5 ∷ 0x94 ∷ 0xa5 ∷ [])
    × (key_of (memory_of 4 []) (codes "lantern") ≡ 0x44 ∷ 0xd3 ∷ 0x65 ∷ 0x57 ∷ 0xcc ∷ 0xa5 ∷ [])

-- a sign is 5 and its place in A2, another code 5, 6 and two halves, and a space 0: "x1", "@" and "a b" (sections 3.4
-- and 3.7)
abbrev pub KeysOfSigns : Type 0
KeysOfSigns =
    (key_of (memory_of 5 []) (codes "x1") ≡ 0x74 ∷ 0xa9 ∷ 0x14 ∷ 0xa5 ∷ 0x94 ∷ 0xa5 ∷ [])
    × (key_of (memory_of 3 []) (codes "@") ≡ 0x14 ∷ 0xc2 ∷ 0x80 ∷ 0xa5 ∷ [])
    × (key_of (memory_of 3 []) (codes "a b") ≡ 0x18 ∷ 0x07 ∷ 0x94 ∷ 0xa5 ∷ [])

-- a capital is 4 and its place in A1, and a spelling is cut off where the key is full: "A" and "abcde@" (section 3.7)
abbrev pub KeysAreCut : Type 0
KeysAreCut =
    (key_of (memory_of 3 []) (codes "A") ≡ 0x10 ∷ 0xc5 ∷ 0x94 ∷ 0xa5 ∷ [])
    × (key_of (memory_of 3 []) (codes "abcde@") ≡ 0x18 ∷ 0xe8 ∷ 0xa5 ∷ 0x45 ∷ [])
