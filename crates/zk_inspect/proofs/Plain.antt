-- Texts without abbreviations.
use Rattle.std.proofs.Common.{◌≡◌, ℕ, List, [], ◌∷◌, ◌++◌, Option, Some, None, refl, ap}
use Rattle.std.specs.Prelude.{Ok, Err, IsOk, ◌*◌, ◌+◌, codes, decimal}
use Rattle.zk_mem.specs.Map.{MemoryMap, word_at}
use Rattle.zk_mem.specs.Faults.{fault_number}
use Rattle.zk_mem.specs.Header.{header_of}
use Rattle.zk_mem.specs.Results.{◌>>=◌}
use Rattle.zk_mem.specs.Words.{words_at}
use Rattle.zk_mem.specs.declared.fault.Fault.{Fault}
use Rattle.zk_mem.specs.declared.fault.Fault.TheVariants.{TextPastEnd, NestedAbbreviation}
use Rattle.zk_text.specs.declared.alphabet.Row.{Row}
use Rattle.zk_text.specs.declared.pieces.Piece.{Piece}
use Rattle.zk_text.specs.declared.pieces.Piece.TheVariants as piece
use Rattle.zk_text.specs.declared.unit.Unit.{Unit}
use Rattle.zk_text.specs.declared.unit.Unit.TheVariants as unit
use Rattle.zk_text.specs.Alphabets.{letter_of}
use Rattle.zk_text.specs.Meaning.{Units, abbreviation, joined, meaning_at, no_abbreviation, past_end, text_units}
use Rattle.zk_text.specs.Meaning.{values}
use Rattle.zk_text.specs.Pieces.{pieces}
use Rattle.zk_text.specs.Words.{z_characters}
use Rattle.zk_inspect.specs.Listing.{units_text}

joined_ok : (vs : List Unit) (r : Units) → IsOk (joined (Ok vs) r) → IsOk r
joined_ok vs (Ok us) h = refl
joined_ok vs (Err f) h = absurd cc

joined_err : (f : Fault) (r : Units) → IsOk (joined (Err f) r) → ⊥
joined_err f (Ok us) h = absurd cc
joined_err f (Err e) h = absurd cc

-- what has a meaning where no abbreviation does has the same where some do
same_values : (letter : Row → ℕ → ℕ) (expand : ℕ → Units) (ps : List Piece)
    → IsOk (values letter no_abbreviation ps) → values letter expand ps ≡ values letter no_abbreviation ps
unfolding values
same_values letter expand [] h = refl
same_values letter expand (piece.Letter row z ∷ ps) h =
    ap (joined (Ok (unit.Code (letter row z) ∷ [])))
    (same_values letter expand ps (joined_ok (unit.Code (letter row z) ∷ []) (values letter no_abbreviation ps) h))
same_values letter expand (piece.Code c ∷ ps) h =
    ap (joined (Ok (unit.Code c ∷ []))) (same_values letter expand ps
    (joined_ok (unit.Code c ∷ []) (values letter no_abbreviation ps) h))
same_values letter expand (piece.Abbreviation n ∷ ps) h =
    absurd (joined_err NestedAbbreviation (values letter no_abbreviation ps) h)

same_meaning : (m : MemoryMap) (expand : ℕ → Units) (ws : Option (List ℕ))
    → IsOk (past_end ws >>= λ ws. values (letter_of m) no_abbreviation (pieces (z_characters ws)))
    → (past_end ws >>= λ ws. values (letter_of m) expand (pieces (z_characters ws)))
    ≡ (past_end ws >>= λ ws. values (letter_of m) no_abbreviation (pieces (z_characters ws)))
same_meaning m expand None h = absurd cc
same_meaning m expand (Some ws) h = same_values (letter_of m) expand (pieces (z_characters ws)) h

-- the text of an abbreviation that has a meaning is a text with that meaning
pub plain_text : (m : MemoryMap) (a : ℕ) → IsOk (meaning_at no_abbreviation m a)
    → text_units m a ≡ meaning_at no_abbreviation m a
unfolding text_units
plain_text m a h = same_meaning m (abbreviation m) (words_at m a) h

-- a fault of a text
pub faulty_text : (m : MemoryMap) (r : Units) (f : Fault) → r ≡ Err f → units_text m r ≡ codes "! F"
    ++ decimal (fault_number f)
unfolding units_text
faulty_text m r f h = rw h refl

-- the meaning of an abbreviation, by the word of its table
pub by_word : (m : MemoryMap) (n w : ℕ) → word_at m ((header_of m.file).abbreviations + 2 * n) ≡ Ok w
    → abbreviation m n ≡ meaning_at no_abbreviation m (2 * w)
unfolding abbreviation
by_word m n w h = rw h refl

pub without_word : (m : MemoryMap) (n : ℕ) (f : Fault) → word_at m ((header_of m.file).abbreviations + 2 * n)
    ≡ Err f → abbreviation m n ≡ Err TextPastEnd
unfolding abbreviation
without_word m n f h = rw h refl
