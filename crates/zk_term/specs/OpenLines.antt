-- The line that is open while a text is wrapped.
use Rattle.std.specs.Prelude.{◌≡◌, ◌⊎◌, ℕ, ◌+◌, ◌-◌, ◌<◌, ◌≤◌, false, List, [], ◌∷◌, ◌++◌, drop, length, map}
use Rattle.std.specs.List.{AllByRecursion, join_with_byte, slice_split}
use Rattle.zk_term.specs.declared.open_line.LineKind.{LineKind}
use Rattle.zk_term.specs.declared.open_line.LineKind.TheVariants.{Empty, Row, Words, AfterSpace}
use Rattle.zk_term.specs.declared.open_line.Line.{Line}
use Rattle.zk_term.specs.Lines.{is_new_line}
use Rattle.zk_term.specs.LineWriters.{WroteSome}
use Rattle.zk_term.specs.Wrapping.{is_space, columns, all_words, words_after_space, wrapped_line}

-- no byte of a word is a space
abbrev pub HasNoSpace : List ℕ → Type 0
HasNoSpace word = AllByRecursion (λ b. is_space b ≡ false) word

-- nothing is held back, or the front of a word with the space before it
abbrev pub IsHeld : List ℕ → Type 0
IsHeld [] = Unit {0}
IsHeld (b ∷ word) = (b ≡ 32) × HasNoSpace word × (length word < 1024)

-- nothing is held back, or the front of a word whose space has gone out
abbrev pub IsHeldAfterSpace : List ℕ → Type 0
IsHeldAfterSpace word = HasNoSpace word × (length word ≤ 1024)

-- a line holds bytes back only among words
abbrev pub HoldsBy : LineKind → List ℕ → Type 0
HoldsBy Empty held = held ≡ []
HoldsBy Row held = held ≡ []
HoldsBy Words held = IsHeld held
HoldsBy AfterSpace held = IsHeldAfterSpace held

-- What a line is of which all that was held back has gone out: the word after a space may still begin a new line, and
-- a word of which something has gone out stays.
abbrev pub kind_after : LineKind → List ℕ → LineKind
kind_after Words (b ∷ []) = AfterSpace
kind_after AfterSpace (b ∷ word) = Words
kind_after kind held = kind

-- ---- what is still to come

-- of the words of a line, where so many columns are left after the bytes that are held back
abbrev pub rest_of_words : ℕ → ℕ → List ℕ → List ℕ → List ℕ
rest_of_words width room held rest =
    all_words width (room + columns held) (slice_split is_space (held ++ rest))

-- of those after a space that has gone out
abbrev pub rest_after_space : ℕ → ℕ → List ℕ → List ℕ → List ℕ
rest_after_space width room held rest =
    words_after_space width (room + columns held) (slice_split is_space (held ++ rest))

-- of any line
abbrev pub rest_by : LineKind → ℕ → ℕ → List ℕ → List ℕ → List ℕ
rest_by Empty width room held rest = wrapped_line width rest
rest_by Row width room held rest = rest
rest_by Words width room held rest = rest_of_words width room held rest
rest_by AfterSpace width room held rest = rest_after_space width room held rest

abbrev pub rest_of_line : Line → List ℕ → List ℕ
rest_of_line line rest = rest_by line.kind line.width line.room line.held.items rest

-- of lines, of which the first is open
abbrev pub from_open : (List ℕ → List ℕ) → ℕ → List (List ℕ) → List (List ℕ)
from_open first width [] = []
from_open first width (line ∷ lines) = first line ∷ map (wrapped_line width) lines

-- of a text
abbrev pub rest_of_text : Line → List ℕ → List ℕ
rest_of_text line rest =
    join_with_byte 10
    (from_open (rest_of_line line) line.width (slice_split is_new_line rest))

-- Of a text, as it is shown, these bytes have gone out, and the open line holds the rest back; and the line knows
-- enough of the text for whatever comes later.
pub record IsOpen (shown : List ℕ → List ℕ) (line : Line) (text out : List ℕ) : Type 0 where
  pub whole : shown text ≡ out ++ line.held.items
  pub later : (rest : List ℕ) → shown (text ++ rest) ≡ out ++ rest_of_text line rest
  pub held : HoldsBy line.kind line.held.items

-- ---- the line's own steps

-- bytes go out at a byte among words
pub record WordsGoOn (old new : Line) (byte : ℕ) (more : List ℕ) : Type 0 where
  pub width : new.width ≡ old.width
  pub kind : new.kind ≡ old.kind
  pub held : IsHeld new.held.items
  pub rest : (rest : List ℕ) → rest_of_words old.width old.room old.held.items (byte ∷ rest)
      ≡ more ++ rest_of_words new.width new.room new.held.items rest

-- bytes go out at a byte that is no new line
pub record GoesOn (old new : Line) (byte : ℕ) (more : List ℕ) : Type 0 where
  pub width : new.width ≡ old.width
  pub held : HoldsBy new.kind new.held.items
  pub rest : (rest : List ℕ) → rest_of_line old (byte ∷ rest) ≡ more ++ rest_of_line new rest

-- a byte is held back behind the others
pub record HoldsOn (old new : Line) (byte : ℕ) : Type 0 where
  pub width : new.width ≡ old.width
  pub kind : new.kind ≡ old.kind
  pub room : columns (byte ∷ []) ≤ old.room
  pub left : new.room ≡ old.room - columns (byte ∷ [])
  pub short : length old.held.items < 1024
  pub held : new.held.items ≡ old.held.items ++ byte ∷ []

-- nothing was done, for the columns that are left, or 1,024 bytes, are too few for another byte
pub record IsFullFor (old new : Line) (byte : ℕ) : Type 0 where
  pub same : new ≡ old
  pub full : (old.room < columns (byte ∷ [])) ⊎ (1024 ≤ length old.held.items)

-- the line has its first byte, if it had none
pub record Begins (old new : Line) (byte : ℕ) : Type 0 where
  pub width : new.width ≡ old.width
  pub held : HoldsBy new.kind new.held.items
  pub some : new.kind ≡ Empty → ⊥
  pub rest : (rest : List ℕ) → rest_of_line old (byte ∷ rest) ≡ rest_of_line new (byte ∷ rest)

-- ---- over a writer

module _ {S : Type 0} (wrote : S → S → List ℕ → Type 0) (old new : Line) (before after : S) where
  -- a new line goes out in place of the space that was held back, and the word behind it with one more byte
  pub record BreaksLine (byte : ℕ) : Type 0 where
    pub width : new.width ≡ old.width
    pub kind : new.kind ≡ old.kind
    pub room : new.room ≡ old.width - (columns (drop 1 old.held.items) + columns (byte ∷ []))
    pub held : new.held.items ≡ []
    pub wrote_all : wrote before after (10 ∷ (drop 1 old.held.items ++ byte ∷ []))

  -- what is held back goes out, and a new line after it
  pub record EndsLine : Type 0 where
    pub width : new.width ≡ old.width
    pub kind : new.kind ≡ Empty
    pub held : new.held.items ≡ []
    pub wrote_all : wrote before after (old.held.items ++ 10 ∷ [])

  -- a writer was given what goes out at a byte among words
  abbrev pub TakesAmongWords : ℕ → Type 0
  TakesAmongWords byte =
      WroteSome (λ more. IsHeld old.held.items → WordsGoOn old new byte more) wrote before after

  -- at a byte that is no new line
  abbrev pub TakesInLine : ℕ → Type 0
  TakesInLine byte =
      WroteSome (λ more. HoldsBy old.kind old.held.items → GoesOn old new byte more)
      wrote before after

  -- at any bytes
  abbrev pub Takes : List ℕ → Type 0
  Takes bytes =
      WroteSome (λ more. (shown : List ℕ → List ℕ) (text out : List ℕ)
      → IsOpen shown old text out → IsOpen shown new (text ++ bytes) (out ++ more))
      wrote before after
