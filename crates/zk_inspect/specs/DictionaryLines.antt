-- The words of a dictionary (Standard, sections 13.2 to 13.4). What a line looks like is zkit's choice.
use Rattle.std.specs.Prelude.{ℕ, ◌+◌, ◌==◌, List, [], ◌∷◌, ◌++◌, map, Option, Some, None, Result, Ok, Err, unwrap_or}
use Rattle.std.specs.Prelude.{nat_lt, codes, decimal, if◌then◌else◌}
use Rattle.std.specs.List.{flat_map, range_with_len}
use Rattle.zk_mem.specs.declared.fault.Fault.{Fault}
use Rattle.zk_mem.specs.Faults.{fault_number}
use Rattle.zk_mem.specs.Header.{header_of}
use Rattle.zk_mem.specs.Map.{MemoryMap, cell_at, code_word_at}
use Rattle.zk_text.specs.Alphabets.{letter_of}
use Rattle.zk_text.specs.Extra.{own_characters}
use Rattle.zk_text.specs.Pieces.{pieces}
use Rattle.zk_text.specs.Words.{z_characters}
use Rattle.zk_text.specs.declared.pieces.Piece.{Piece}
use Rattle.zk_text.specs.declared.pieces.Piece.TheVariants as piece
use Rattle.zk_text.specs.declared.unit.Unit.{Unit}
use Rattle.zk_text.specs.declared.unit.Unit.TheVariants.{Code}
use Rattle.zk_tables.specs.Dictionaries.{dictionary_at, entry_start}
use Rattle.zk_tables.specs.declared.dictionary.Dictionary.{Dictionary}
use Rattle.zk_inspect.specs.declared.fact.Fact.{Fact}
use Rattle.zk_inspect.specs.declared.fact.Fact.TheVariants as fact
use Rattle.zk_term.specs.Numbers.{address_digits}
use Rattle.zk_inspect.specs.Quoted.{quoted_units}

-- ---- the word of a key

-- the word at an address; of a key it is always there
abbrev pub key_word : MemoryMap → ℕ → ℕ
key_word m a = unwrap_or (code_word_at m a) 0

-- the Z-characters of the key at an address: six up to version 3, nine from version 4 on (sections 13.3 and 13.4)
unfoldable pub key_characters : MemoryMap → ℕ → List ℕ
key_characters m a =
    if nat_lt m.version 4 then z_characters (key_word m a ∷ key_word m (a + 2) ∷ [])
    else z_characters (key_word m a ∷ key_word m (a + 2) ∷ key_word m (a + 4) ∷ [])

-- what a piece of a key stands for; an abbreviation stands for nothing there (section 3.7)
abbrev pub piece_units : MemoryMap → Option Piece → List Unit
piece_units m (Some (piece.Letter row z)) = Code (letter_of m row z) ∷ []
piece_units m (Some (piece.Code code)) = Code code ∷ []
piece_units m (Some (piece.Abbreviation n)) = []
piece_units m None = []

-- what Z-characters of a key stand for
unfoldable pub word_units : MemoryMap → List ℕ → List Unit
word_units m zs = flat_map (λ p. piece_units m (Some p)) (pieces zs)

-- ---- lines

-- the line of an entry, counted from 0: its index, its address, and its word
unfoldable pub entry_front : ℕ → ℕ → List ℕ
entry_front i a = decimal i ++ codes " " ++ address_digits a ++ codes " \""

unfoldable pub word_line : MemoryMap → ℕ → ℕ → List ℕ
word_line m i a = entry_front i a ++ quoted_units (own_characters m) (word_units m (key_characters m a)) ++ codes "\""

-- a separator, counted from 0; they stand after their count (section 13.2)
abbrev pub separator_text : MemoryMap → Dictionary → ℕ → List ℕ
separator_text m d i = quoted_units (own_characters m) (Code (unwrap_or (cell_at m (d.address + 1 + i)) 0) ∷ [])

unfoldable pub separators_text : MemoryMap → Dictionary → List ℕ
separators_text m d = flat_map (separator_text m d) (range_with_len 0 d.separators)

unfoldable pub separators_line : MemoryMap → Dictionary → List ℕ
separators_line m d = codes "separators \"" ++ separators_text m d ++ codes "\""

-- how many entries there are, and how many bytes one has
unfoldable pub size_line : Dictionary → List ℕ
size_line d = codes "entries " ++ decimal d.entries ++ codes " length " ++ decimal d.entry_length

-- why there is no dictionary
unfoldable pub fault_line : Fault → List ℕ
fault_line f = codes "! F" ++ decimal (fault_number f)

-- ---- facts

-- a word of a dictionary, counted from 0
abbrev pub word_of : Dictionary → ℕ → Fact
word_of d i = fact.Word (record { index = i; address = entry_start d i })

-- a dictionary: its separators, its size, and each word
unfoldable pub table_facts : Dictionary → List Fact
table_facts d = fact.Separators d ∷ fact.Entries d ∷ map (word_of d) (range_with_len 0 d.entries)

abbrev pub found_facts : Result Dictionary Fault → List Fact
found_facts (Ok d) = table_facts d
found_facts (Err f) = fact.NoDictionary f ∷ []

-- the dictionary that the header names, where it names one
unfoldable pub dictionary_facts : MemoryMap → List Fact
dictionary_facts m =
    if (header_of m.file).dictionary == 0 then []
    else found_facts (dictionary_at m (header_of m.file).dictionary)
