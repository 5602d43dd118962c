-- What a text means: the units that it prints (Standard, sections 3.2 to 3.6).
use Rattle.std.specs.Prelude.{ℕ, ◌+◌, ◌*◌, List, [], ◌∷◌, ◌++◌, Option, Some, None, Result, Ok, Err}
use Rattle.zk_mem.specs.Header.{header_of}
use Rattle.zk_mem.specs.Map.{MemoryMap, word_at}
use Rattle.zk_mem.specs.Results.{◌>>=◌}
use Rattle.zk_mem.specs.Words.{words_at, text_end_at}
use Rattle.zk_mem.specs.declared.fault.Fault.{Fault}
use Rattle.zk_mem.specs.declared.fault.Fault.TheVariants.{TextPastEnd, NestedAbbreviation}
use Rattle.zk_text.specs.declared.alphabet.Row.{Row}
use Rattle.zk_text.specs.declared.pieces.Piece.{Piece}
use Rattle.zk_text.specs.declared.pieces.Piece.TheVariants as piece
use Rattle.zk_text.specs.declared.unit.Unit.{Unit}
use Rattle.zk_text.specs.declared.unit.Unit.TheVariants as unit
use Rattle.zk_text.specs.Alphabets.{letter_of}
use Rattle.zk_text.specs.Words.{z_characters}
use Rattle.zk_text.specs.Pieces.{pieces}

-- the units that a text prints, or why it has no meaning
abbrev pub Units : Type 0
Units = Result (List Unit) Fault

-- units before others; the first that are none decide
abbrev pub joined : Units → Units → Units
joined (Err f) rest = Err f
joined (Ok us) (Err f) = Err f
joined (Ok us) (Ok vs) = Ok (us ++ vs)

-- what a piece stands for, by the letters of the alphabets and by what abbreviations stand for
abbrev pub value : (Row → ℕ → ℕ) → (ℕ → Units) → Piece → Units
value letter expand (piece.Letter row z) = Ok (unit.Code (letter row z) ∷ [])
value letter expand (piece.Code code) = Ok (unit.Code code ∷ [])
value letter expand (piece.Abbreviation n) = expand n

-- what pieces stand for, one after another
unfoldable pub values : (Row → ℕ → ℕ) → (ℕ → Units) → List Piece → Units
values letter expand [] = Ok []
values letter expand (p ∷ ps) =
    joined (value letter expand p) (values letter expand ps)

-- what a list of Z-characters means, by what abbreviations stand for
abbrev pub meaning : MemoryMap → (ℕ → Units) → List ℕ → Units
meaning m expand zs = values (letter_of m) expand (pieces zs)

-- a text without an end inside the story is a fault
abbrev pub past_end : {A : Type 0} → Option A → Result A Fault
past_end None = Err TextPastEnd
past_end (Some x) = Ok x

-- what the text at an address means, by what abbreviations stand for
abbrev pub meaning_at : (ℕ → Units) → MemoryMap → ℕ → Units
meaning_at expand m a =
    past_end (words_at m a) >>= λ ws. meaning m expand (z_characters ws)

-- an abbreviation inside an abbreviation stands for nothing (section 3.3.1)
abbrev pub no_abbreviation : ℕ → Units
no_abbreviation n = Err NestedAbbreviation

-- a word of the table of abbreviations, without which there is no text
abbrev pub table_word : Result ℕ Fault → Result ℕ Fault
table_word (Ok w) = Ok w
table_word (Err f) = Err TextPastEnd

-- the byte address of an abbreviation's text, where the word of its table can be read: that is a word address (sections
-- 3.3 and 1.2.2)
abbrev pub place_of : Result ℕ Fault → Option ℕ
place_of (Ok w) = Some (2 * w)
place_of (Err f) = None

abbrev pub text_place : MemoryMap → ℕ → Option ℕ
text_place m n = place_of (word_at m ((header_of m.file).abbreviations + 2 * n))

-- what an abbreviation stands for: its table has word addresses (sections 3.3 and 1.2.2)
unfoldable pub abbreviation : MemoryMap → ℕ → Units
abbreviation m n =
    table_word (word_at m ((header_of m.file).abbreviations + 2 * n))
    >>= λ w. meaning_at no_abbreviation m (2 * w)

-- what the text at an address means
unfoldable pub text_units : MemoryMap → ℕ → Units
text_units m a = meaning_at (abbreviation m) m a

-- a text in which there is a fault is refused by it, and one without an end as such
abbrev pub refused_by : MemoryMap → ℕ → Fault → Result ℕ Fault
refused_by m a f = past_end (text_end_at m a) >>= λ end. Err f

-- the address after the text at an address, where the text has a meaning by what abbreviations stand for
abbrev pub end_by : (ℕ → Units) → MemoryMap → ℕ → Result ℕ Fault
end_by expand m a =
    past_end (text_end_at m a) >>= λ end. meaning_at expand m a >>= λ us. Ok end

-- the address after the text at an address, where the text has a meaning
unfoldable pub checked_end : MemoryMap → ℕ → Result ℕ Fault
checked_end m a = past_end (text_end_at m a) >>= λ end. text_units m a >>= λ us. Ok end
