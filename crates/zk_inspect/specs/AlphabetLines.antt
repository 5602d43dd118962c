-- The alphabets in force (Standard, sections 3.2 and 3.5), and the extra characters (section 3.8.5). What a line looks
-- like is zkit's choice.
use Rattle.std.specs.Prelude.{ℕ, ◌-◌, List, [], ◌∷◌, ◌++◌, codes, is_some, if◌then◌else◌}
use Rattle.std.specs.List.{flat_map, range_with_len}
use Rattle.zk_mem.specs.Map.{MemoryMap}
use Rattle.zk_text.specs.Alphabets.{letter_of}
use Rattle.zk_text.specs.Extra.{character, own_characters}
use Rattle.zk_text.specs.declared.alphabet.Row.{Row}
use Rattle.zk_text.specs.declared.alphabet.Row.TheVariants.{A0, A1, A2}
use Rattle.zk_text.specs.declared.unit.Unit.TheVariants.{Code}
use Rattle.zk_inspect.specs.Quoted.{quoted_units}
use Rattle.zk_inspect.specs.declared.fact.Fact.{Fact}
use Rattle.zk_inspect.specs.declared.fact.Fact.TheVariants.{Alphabet, ExtraCharacters}

-- a ZSCII code as it stands between quotes
unfoldable pub code_text : MemoryMap → ℕ → List ℕ
code_text m code = quoted_units (own_characters m) (Code code ∷ [])

-- what a Z-character stands for in an alphabet
abbrev pub letter_text : MemoryMap → Row → ℕ → List ℕ
letter_text m row z = code_text m (letter_of m row z)

-- the first Z-character that stands for a letter: 6 in A2 begins a ZSCII code of ten bits (section 3.4)
abbrev pub first_letter : Row → ℕ
first_letter A2 = 7
first_letter row = 6

abbrev pub row_name : Row → List ℕ
row_name A0 = codes "A0 \""
row_name A1 = codes "A1 \""
row_name A2 = codes "A2 \""

-- the line of an alphabet: its letters up to Z-character 31, between quotes
unfoldable pub alphabet_line : MemoryMap → Row → List ℕ
alphabet_line m row =
    row_name row ++ flat_map (letter_text m row) (range_with_len (first_letter row) (32 - first_letter row))
    ++ codes "\""

-- an extra character, where its code has one
abbrev pub extra_text : MemoryMap → ℕ → List ℕ
extra_text m code = if is_some (character (own_characters m) code) then code_text m code else []

-- the line of the extra characters, from code 155 on, of which there are 97 at most
unfoldable pub extra_line : MemoryMap → List ℕ
extra_line m = codes "extra \"" ++ flat_map (extra_text m) (range_with_len 155 97) ++ codes "\""

-- the three alphabets, and the extra characters
abbrev pub alphabet_facts : List Fact
alphabet_facts = Alphabet A0 ∷ Alphabet A1 ∷ Alphabet A2 ∷ ExtraCharacters ∷ []
