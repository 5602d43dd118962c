-- The laws of pieces.
use Rattle.std.proofs.Common.{◌≡◌, ℕ, true, false, List, [], ◌∷◌, ◌++◌, Ok, Err, refl}
use Rattle.zk_mem.specs.declared.fault.Fault.TheVariants.{NestedAbbreviation}
use Rattle.zk_text.specs.declared.unit.Unit.{Unit}
use Rattle.zk_text.specs.declared.unit.Unit.TheVariants as unit
use Rattle.zk_text.specs.declared.alphabet.Row.{Row}
use Rattle.zk_text.specs.declared.pieces.Piece.{Piece}
use Rattle.zk_text.specs.declared.pieces.Piece.TheVariants.{Letter, Code, Abbreviation}
use Rattle.zk_text.specs.Alphabets.{letter_of}
use Rattle.zk_text.specs.Pieces.{pieces}
use Rattle.zk_text.specs.Meaning.{Units, values, joined, no_abbreviation}
use Rattle.zk_text.specs.Laws.{has_abbreviation, NestedIsFault, OthersMean}

after_ok : (us : List Unit) (r : Units) → r ≡ Err NestedAbbreviation → joined (Ok us) r ≡ Err NestedAbbreviation
after_ok us r h = rw h refl

nested : (letter : Row → ℕ → ℕ) (ps : List Piece) → has_abbreviation ps ≡ true
    → values letter no_abbreviation ps ≡ Err NestedAbbreviation
unfolding has_abbreviation values
nested letter [] h = absurd cc
nested letter (Abbreviation n ∷ ps) h = refl
nested letter (Letter row z ∷ ps) h =
    after_ok (unit.Code (letter row z) ∷ []) (values letter no_abbreviation ps) (nested letter ps h)
nested letter (Code c ∷ ps) h = after_ok (unit.Code c ∷ []) (values letter no_abbreviation ps) (nested letter ps h)

more_mean : (us : List Unit) (r : Units) → (vs : List Unit) × (r ≡ Ok vs) → (vs : List Unit)
    × (joined (Ok us) r ≡ Ok vs)
more_mean us r h = (us ++ h.0, rw h.1 refl)

mean : (letter : Row → ℕ → ℕ) (ps : List Piece) → has_abbreviation ps ≡ false
    → (us : List Unit) × (values letter no_abbreviation ps ≡ Ok us)
unfolding has_abbreviation values
mean letter [] h = ([], refl)
mean letter (Abbreviation n ∷ ps) h = absurd cc
mean letter (Letter row z ∷ ps) h =
    more_mean (unit.Code (letter row z) ∷ []) (values letter no_abbreviation ps) (mean letter ps h)
mean letter (Code c ∷ ps) h = more_mean (unit.Code c ∷ []) (values letter no_abbreviation ps) (mean letter ps h)

pub nested_is_fault : NestedIsFault
nested_is_fault m zs h = nested (letter_of m) (pieces zs) h

pub others_mean : OthersMean
others_mean m zs h = mean (letter_of m) (pieces zs) h
