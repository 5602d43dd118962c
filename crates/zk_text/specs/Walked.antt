-- How many words are walked where a text is printed: its own, and those of each abbreviation that it uses (Standard,
-- sections 3.2 and 3.3).
use Rattle.std.specs.Prelude.{ℕ, ◌+◌, ◌*◌, List, [], ◌∷◌, length, drop, Option, Some, None, Result, Ok, Err, nat_le}
use Rattle.std.specs.Prelude.{if◌then◌else◌}
use Rattle.zk_mem.specs.Header.{header_of}
use Rattle.zk_mem.specs.Map.{MemoryMap, word_at}
use Rattle.zk_mem.specs.declared.fault.Fault.{Fault}
use Rattle.zk_text.specs.declared.pieces.Piece.{Piece}
use Rattle.zk_text.specs.declared.pieces.Piece.TheVariants as piece
use Rattle.zk_text.specs.Pieces.{pieces}
use Rattle.zk_text.specs.Words.{z_characters}

-- the words at the front of some bytes, up to the first with its top bit set, or all
unfoldable pub run_in : List ℕ → List ℕ
run_in [] = []
run_in (high ∷ []) = []
run_in (high ∷ low ∷ rest) = (256 * high + low) ∷ (if nat_le 32768 (256 * high + low) then [] else run_in rest)

-- the words from an address on, up to the last one of a text or to the story's end
unfoldable pub run_at : MemoryMap → ℕ → List ℕ
run_at m a = run_in (drop a m.bytes)

-- how many a word address of the table of abbreviations names
abbrev pub length_named : MemoryMap → Result ℕ Fault → ℕ
length_named m (Err f) = 0
length_named m (Ok w) = length (run_at m (2 * w))

-- how many words an abbreviation has
unfoldable pub abbreviation_length : MemoryMap → ℕ → ℕ
abbreviation_length m n = length_named m (word_at m ((header_of m.file).abbreviations + 2 * n))

-- and how many are walked for a piece
abbrev pub piece_length : MemoryMap → Piece → ℕ
piece_length m (piece.Letter row z) = 0
piece_length m (piece.Code code) = 0
piece_length m (piece.Abbreviation n) = abbreviation_length m n

abbrev pub some_length : MemoryMap → Option Piece → ℕ
some_length m None = 0
some_length m (Some p) = piece_length m p

-- for pieces
unfoldable pub pieces_length : MemoryMap → List Piece → ℕ
pieces_length m [] = 0
pieces_length m (p ∷ ps) = piece_length m p + pieces_length m ps

-- for what Z-characters name
abbrev pub named_length : MemoryMap → List ℕ → ℕ
named_length m zs = pieces_length m (pieces zs)

-- and for the text at an address
unfoldable pub words_walked : MemoryMap → ℕ → ℕ
words_walked m a = length (run_at m a) + named_length m (z_characters (run_at m a))
