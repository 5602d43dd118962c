-- What holds of pieces, of texts and of extra characters.
use Rattle.std.specs.Prelude.{◌≡◌, ◌≤◌, ◌<◌, ◌⊎◌, ℕ, ◌+◌, ◌*◌, ◌-◌, Bool, true, false, List, [], ◌∷◌, ◌++◌, Some, Ok}
use Rattle.std.specs.Prelude.{Err}
use Rattle.zk_mem.specs.Map.{MemoryMap}
use Rattle.zk_mem.specs.declared.fault.Fault.TheVariants.{NestedAbbreviation}
use Rattle.zk_text.specs.declared.alphabet.Row.TheVariants.{A0, A1, A2}
use Rattle.zk_text.specs.declared.unit.Unit.{Unit}
use Rattle.zk_text.specs.declared.pieces.Piece.{Piece}
use Rattle.zk_text.specs.declared.pieces.Piece.TheVariants.{Letter, Code, Abbreviation}
use Rattle.zk_text.specs.Pieces.{pieces}
use Rattle.zk_text.specs.Meaning.{meaning, no_abbreviation}
use Rattle.zk_text.specs.Extra.{ExtraTable, character, code_of}
use Rattle.zk_text.specs.Shown.{shown_all}

-- 0 is a space (section 3.5.1)
abbrev pub SpaceIsPiece : Type 0
SpaceIsPiece = (zs : List ℕ) → pieces (0 ∷ zs) ≡ Code 32 ∷ pieces zs

-- 6 to 31 are letters of A0 (section 3.2.3)
abbrev pub LetterIsPiece : Type 0
LetterIsPiece = (z : ℕ) (zs : List ℕ) → 6 ≤ z → pieces (z ∷ zs) ≡ Letter A0 z ∷ pieces zs

-- 4 takes one letter from A1
abbrev pub A1IsPiece : Type 0
A1IsPiece = (z : ℕ) (zs : List ℕ) → 6 ≤ z → pieces (4 ∷ z ∷ zs) ≡ Letter A1 z ∷ pieces zs

-- 5 takes one letter from A2
abbrev pub A2IsPiece : Type 0
A2IsPiece = (z : ℕ) (zs : List ℕ) → 7 ≤ z → pieces (5 ∷ z ∷ zs) ≡ Letter A2 z ∷ pieces zs

-- 5 and 6 begin a code of ten bits, the upper half first (section 3.4)
abbrev pub CodeIsPiece : Type 0
CodeIsPiece = (high low : ℕ) (zs : List ℕ) →
    pieces (5 ∷ 6 ∷ high ∷ low ∷ zs) ≡ Code (32 * high + low) ∷ pieces zs

-- 1, 2 and 3 name an abbreviation with the next Z-character (section 3.3)
abbrev pub AbbreviationIsPiece : Type 0
AbbreviationIsPiece = (z x : ℕ) (zs : List ℕ) → 1 ≤ z → z < 4 →
    pieces (z ∷ x ∷ zs) ≡ Abbreviation (32 * (z - 1) + x) ∷ pieces zs

-- a shift before 0 to 5 shows nothing (section 3.2.4)
abbrev pub ShiftShowsNothing : Type 0
ShiftShowsNothing = (s z : ℕ) (zs : List ℕ) → (s ≡ 4) ⊎ (s ≡ 5) → z < 6 →
    pieces (s ∷ z ∷ zs) ≡ pieces (z ∷ zs)

-- a construction that the end cuts off shows nothing (section 3.6.1)
abbrev pub EndIsCut : Type 0
EndIsCut = (z high : ℕ) → 1 ≤ z → z < 6 →
    (pieces [] ≡ []) × (pieces (z ∷ []) ≡ [])
    × (pieces (5 ∷ 6 ∷ []) ≡ []) × (pieces (5 ∷ 6 ∷ high ∷ []) ≡ [])

-- whether one of the pieces is an abbreviation
unfoldable pub has_abbreviation : List Piece → Bool
has_abbreviation [] = false
has_abbreviation (Abbreviation n ∷ ps) = true
has_abbreviation (Letter row z ∷ ps) = has_abbreviation ps
has_abbreviation (Code c ∷ ps) = has_abbreviation ps

-- an abbreviation's text that uses an abbreviation has no meaning (section 3.3.1)
abbrev pub NestedIsFault : Type 0
NestedIsFault = (m : MemoryMap) (zs : List ℕ) → has_abbreviation (pieces zs) ≡ true →
    meaning m no_abbreviation zs ≡ Err NestedAbbreviation

-- any other has one
abbrev pub OthersMean : Type 0
OthersMean = (m : MemoryMap) (zs : List ℕ) → has_abbreviation (pieces zs) ≡ false →
    (us : List Unit) × (meaning m no_abbreviation zs ≡ Ok us)

-- the code of a character is the least that has it
abbrev pub CodeIsLeast : Type 0
CodeIsLeast = (t : ExtraTable) (c code : ℕ) → code_of t c ≡ Some code →
    (character t code ≡ Some c) × ((other : ℕ) → character t other ≡ Some c → code ≤ other)

-- a character that a code has is found
abbrev pub CharacterHasCode : Type 0
CharacterHasCode = (t : ExtraTable) (c code : ℕ) → character t code ≡ Some c →
    (least : ℕ) × (code_of t c ≡ Some least)

-- what units show goes part by part
abbrev pub ShownInParts : Type 0
ShownInParts = (t : ExtraTable) (us vs : List Unit) →
    shown_all t (us ++ vs) ≡ shown_all t us ++ shown_all t vs
