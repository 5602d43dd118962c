-- How long the texts are that are read where a text is printed (Standard, sections 3.2 and 3.3).
use Rattle.std.specs.Prelude.{◌≡◌, ◌≤◌, ℕ, ◌+◌, ◌*◌, List, length, Some, Ok}
use Rattle.std.specs.List.{Contains}
use Rattle.zk_mem.specs.Header.{header_of}
use Rattle.zk_mem.specs.Map.{MemoryMap, word_at}
use Rattle.zk_mem.specs.Words.{words_at}
use Rattle.zk_text.specs.declared.pieces.Piece.TheVariants.{Abbreviation}
use Rattle.zk_text.specs.Pieces.{pieces}
use Rattle.zk_text.specs.Words.{z_characters}

-- the text at an address has an end, and at most half as many words as the story has bytes
pub record HasShortText (m : MemoryMap) (a : ℕ) : Type 0 where
  pub words : List ℕ
  pub are : words_at m a ≡ Some words
  pub short : 2 * length words ≤ length m.bytes

-- an abbreviation has an address in its table and such a text there (section 3.3)
pub record HasShortAbbreviation (m : MemoryMap) (n : ℕ) : Type 0 where
  pub word : ℕ
  pub is : word_at m ((header_of m.file).abbreviations + 2 * n) ≡ Ok word
  pub text : HasShortText m (2 * word)

-- the text at an address is such a text, and so is that of each abbreviation that it uses
pub record HasShortTexts (m : MemoryMap) (a : ℕ) : Type 0 where
  pub text : HasShortText m a
  pub abbreviations : (n : ℕ) → Contains (pieces (z_characters text.words)) (Abbreviation n) → HasShortAbbreviation m n
