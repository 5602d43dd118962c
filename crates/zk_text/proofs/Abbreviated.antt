-- The faults of abbreviations, by their places.
use Rattle.std.proofs.Common.{◌≡◌, ◌∙◌, ℕ, ◌+◌, ◌*◌, Option, Some, None, Result, Ok, Err, IsOk, refl}
use Rattle.std.proofs.Common.{sym, ap}
use Rattle.zk_mem.specs.declared.fault.Fault.{Fault}
use Rattle.zk_mem.specs.declared.fault.Fault.TheVariants.{TextPastEnd}
use Rattle.zk_mem.specs.Header.{header_of}
use Rattle.zk_mem.specs.Map.{MemoryMap, word_at}
use Rattle.zk_text.specs.Meaning.{Units, abbreviation, end_by, meaning_at, no_abbreviation, place_of, text_place}
use Rattle.zk_text.specs.Sweeps.{fault_of}
use Rattle.zk_text.proofs.CheckedEnds.{means_by, means_not_by}

pub at_place : (m : MemoryMap) (n a : ℕ) → text_place m n ≡ Some a
    → abbreviation m n ≡ meaning_at no_abbreviation m a
unfolding abbreviation
at_place m n a h = go (word_at m ((header_of m.file).abbreviations + 2 * n)) refl h
  where
    go : (r : Result ℕ Fault) → word_at m ((header_of m.file).abbreviations + 2 * n) ≡ r → place_of r ≡ Some a
        → abbreviation m n ≡ meaning_at no_abbreviation m a
    go (Ok w) e k = let same : 2 * w ≡ a = cc in rw (e, sym same) refl
    go (Err f) e k = absurd cc

pub nowhere : (m : MemoryMap) (n : ℕ) → text_place m n ≡ None → Some TextPastEnd ≡ fault_of (abbreviation m n)
unfolding abbreviation
nowhere m n h = go (word_at m ((header_of m.file).abbreviations + 2 * n)) refl h
  where
    go : (r : Result ℕ Fault) → word_at m ((header_of m.file).abbreviations + 2 * n) ≡ r → place_of r ≡ None
        → Some TextPastEnd ≡ fault_of (abbreviation m n)
    go (Ok w) e k = absurd cc
    go (Err f) e k = rw e refl

fault_there : (us : Units) → IsOk us → None ≡ fault_of us
fault_there (Ok us) h = refl
fault_there (Err f) h = absurd cc

pub good_end : (m : MemoryMap) (n a end : ℕ) → text_place m n ≡ Some a → Ok end ≡ end_by no_abbreviation m a
    → None ≡ fault_of (abbreviation m n)
good_end m n a end place e =
    rw (at_place m n a place) (fault_there (meaning_at no_abbreviation m a) (means_by no_abbreviation m a end (sym e)))

pub bad_end : (m : MemoryMap) (n a : ℕ) (f : Fault) → text_place m n ≡ Some a → Err f ≡ end_by no_abbreviation m a
    → Some f ≡ fault_of (abbreviation m n)
bad_end m n a f place e =
    let is = means_not_by no_abbreviation m a f (sym e) in rw (at_place m n a place, is) refl

pub fault_at : (m : MemoryMap) (n a : ℕ) (f : Option Fault) → text_place m n ≡ Some a
    → f ≡ fault_of (meaning_at no_abbreviation m a) → f ≡ fault_of (abbreviation m n)
fault_at m n a f place is = rw (at_place m n a place) is

pub fault_there_at : (m : MemoryMap) (n a : ℕ) (f : Option Fault) → text_place m n ≡ Some a
    → f ≡ fault_of (abbreviation m n) → f ≡ fault_of (meaning_at no_abbreviation m a)
fault_there_at m n a f place is = is ∙ ap fault_of (at_place m n a place)
