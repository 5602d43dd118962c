-- Texts with a meaning are no longer than the story, and so are those of the abbreviations that they use.
use Rattle.std.proofs.Common.{◌≡◌, ◌<◌, ℕ, zero, suc, ◌+◌, ◌*◌, List, [], ◌∷◌, length, Option, Some, None, Result, Ok}
use Rattle.std.proofs.Common.{Err, IsOk, slice_index_or, refl, arith}
use Rattle.zk_mem.specs.Header.{header_of}
use Rattle.zk_mem.specs.Map.{MemoryMap, word_at}
use Rattle.zk_mem.specs.Words.{words_at}
use Rattle.zk_mem.specs.declared.fault.Fault.{Fault}
use Rattle.zk_mem.proofs.TextWords.{text_lies_inside}
use Rattle.zk_text.specs.declared.alphabet.Row.{Row}
use Rattle.zk_text.specs.declared.pieces.Piece.{Piece}
use Rattle.zk_text.specs.declared.pieces.Piece.TheVariants.{Abbreviation}
use Rattle.zk_text.specs.Alphabets.{letter_of}
use Rattle.zk_text.specs.Lengths.{HasShortText, HasShortAbbreviation, HasShortTexts}
use Rattle.zk_text.specs.Meaning.{Units, abbreviation, joined, meaning_at, no_abbreviation, text_units, value, values}
use Rattle.zk_text.specs.Pieces.{pieces}
use Rattle.zk_text.specs.Words.{z_characters}

-- ---- one text

short_by : (m : MemoryMap) (a : ℕ) (ws : List ℕ) → words_at m a ≡ Some ws → HasShortText m a
short_by m a ws e =
    record { words = ws; are = e; short = (let fits = text_lies_inside m a ws e in omega (arith, fits.1)) }

text_by : (expand : ℕ → Units) (m : MemoryMap) (a : ℕ) (o : Option (List ℕ)) → words_at m a ≡ o
    → IsOk (meaning_at expand m a) → HasShortText m a
text_by expand m a None e h = let fault = rw e at h in absurd cc
text_by expand m a (Some ws) e h = short_by m a ws e

pub short_text : (expand : ℕ → Units) (m : MemoryMap) (a : ℕ) → IsOk (meaning_at expand m a) → HasShortText m a
short_text expand m a h = text_by expand m a (words_at m a) refl h

-- ---- abbreviations

short_at : (m : MemoryMap) (n : ℕ) (r : Result ℕ Fault) → word_at m ((header_of m.file).abbreviations + 2 * n) ≡ r
    → IsOk (abbreviation m n) → HasShortAbbreviation m n
unfolding abbreviation
short_at m n (Err f) e h = let fault = rw e at h in absurd cc
short_at m n (Ok w) e h = record { word = w; is = e; text = short_text no_abbreviation m (2 * w) (rw e at h) }

first_is_ok : (us vs : Units) → IsOk (joined us vs) → IsOk us
first_is_ok (Ok us) vs h = refl
first_is_ok (Err f) vs h = h

rest_is_ok : (us vs : Units) → IsOk (joined us vs) → IsOk vs
rest_is_ok (Ok us) (Ok vs) h = refl
rest_is_ok (Ok us) (Err f) h = h
rest_is_ok (Err f) vs h = absurd cc

expanded : (letter : Row → ℕ → ℕ) (expand : ℕ → Units) (n : ℕ) (ps : List Piece) (k : ℕ)
    → IsOk (values letter expand ps) → k < length ps → slice_index_or ps k (Abbreviation n) ≡ Abbreviation n
    → IsOk (expand n)
unfolding values
expanded letter expand n [] k h w e = absurd (omega arith)
expanded letter expand n (p ∷ ps) zero h w e = rw e at (first_is_ok (value letter expand p) (values letter expand ps) h)
expanded letter expand n (p ∷ ps) (suc k) h w e =
    expanded letter expand n ps k (rest_is_ok (value letter expand p) (values letter expand ps) h) (omega arith) e

-- ---- a text with its abbreviations

means : (m : MemoryMap) (a : ℕ) (t : HasShortText m a) → IsOk (text_units m a)
    → IsOk (values (letter_of m) (abbreviation m) (pieces (z_characters t.words)))
unfolding text_units
means m a t h = rw t.are at h

pub short_texts : (m : MemoryMap) (a : ℕ) → IsOk (text_units m a) → HasShortTexts m a
unfolding text_units
short_texts m a h =
    let t = short_text (abbreviation m) m a h in
    record {
      text = t;
      abbreviations =
          λ n c. short_at m n _ refl (expanded (letter_of m) (abbreviation m) n (pieces (z_characters t.words)) c.0
          (means m a t h) c.1 c.2);
    }
