-- The key of a word (Standard, sections 3.7, 13.3 and 13.4).
use Rattle.std.specs.Prelude.{ℕ, zero, suc, ◌+◌, ◌*◌, ◌/◌, ◌%◌, List, [], ◌∷◌, ◌++◌, take, slice_index, Option, Some}
use Rattle.std.specs.Prelude.{None, ◌==◌, nat_lt, if◌then◌else◌}
use Rattle.zk_mem.specs.Map.{MemoryMap}
use Rattle.zk_text.specs.declared.alphabet.Row.{Row}
use Rattle.zk_text.specs.declared.alphabet.Row.TheVariants.{A0, A1, A2}
use Rattle.zk_text.specs.Alphabets.{letter_of}

-- the first of n Z-characters from z on whose letter in an alphabet is c
unfoldable pub place_from : MemoryMap → Row → ℕ → ℕ → ℕ → Option ℕ
place_from m row c zero z = None
place_from m row c (suc n) z =
    if letter_of m row z == c then Some z else place_from m row c n (z + 1)

-- the Z-character of a letter in A0 or A1
abbrev pub place : MemoryMap → Row → ℕ → Option ℕ
place m row c = place_from m row c 26 6

-- the Z-character of a letter in A2, whose 6 is none and whose 7 is a new line
unfoldable pub a2_place : MemoryMap → ℕ → Option ℕ
a2_place m c = if c == 13 then Some 7 else place_from m A2 c 24 8

-- the first that serves: a letter of A0, of A1 or of A2, else a code of ten bits
abbrev pub spelled : Option ℕ → Option ℕ → Option ℕ → ℕ → List ℕ
spelled (Some z) upper sign c = z ∷ []
spelled None (Some z) sign c = 4 ∷ z ∷ []
spelled None None (Some z) c = 5 ∷ z ∷ []
spelled None None None c = 5 ∷ 6 ∷ c / 32 ∷ c % 32 ∷ []

-- the Z-characters of a ZSCII code
unfoldable pub spelling : MemoryMap → ℕ → List ℕ
spelling m c = if c == 32 then 0 ∷ [] else spelled (place m A0 c) (place m A1 c) (a2_place m c) c

-- those of a word
unfoldable pub spellings : MemoryMap → List ℕ → List ℕ
spellings m [] = []
spellings m (c ∷ cs) = spelling m c ++ spellings m cs

-- n fives (section 3.6)
unfoldable pub fives : ℕ → List ℕ
fives zero = []
fives (suc n) = 5 ∷ fives n

-- the Z-characters of a key: those of the word, cut or filled up
abbrev pub key_characters : MemoryMap → ℕ → List ℕ → List ℕ
key_characters m most text = take most (spellings m text ++ fives most)

-- the word of three Z-characters of a list, high to low, five bits each (section 3.2)
abbrev pub packed_word : List ℕ → ℕ → ℕ
packed_word zs i =
    1024 * (slice_index zs i % 32) + 32 * (slice_index zs (i + 1) % 32) + slice_index zs (i + 2) % 32

-- high byte first
abbrev pub two_bytes : ℕ → List ℕ
two_bytes w = w / 256 ∷ w % 256 ∷ []

-- six Z-characters in two words, nine in three, the last one marked
abbrev pub two_words : List ℕ → List ℕ
two_words zs = two_bytes (packed_word zs 0) ++ two_bytes (32768 + packed_word zs 3)

-- nine Z-characters, packed three to a word
abbrev pub three_words : List ℕ → List ℕ
three_words zs =
    two_bytes (packed_word zs 0) ++ two_bytes (packed_word zs 3) ++ two_bytes (32768 + packed_word zs 6)

-- the key of a word, of ZSCII codes
unfoldable pub key_of : MemoryMap → List ℕ → List ℕ
key_of m text =
    if nat_lt m.version 4 then two_words (key_characters m 6 text) else three_words (key_characters m 9 text)
