-- A text between quotes.
use Rattle.std.proofs.Common.{◌≡◌, ℕ, List, ◌++◌, Option, Some, None, refl, ap, subst}
use Rattle.std.specs.Prelude.{Result, Ok, Err, IsOk, codes, decimal, option_map, length, ◌+◌, ◌*◌}
use Rattle.zk_mem.specs.Faults.{fault_number}
use Rattle.zk_mem.specs.Results.{◌>>=◌}
use Rattle.zk_mem.specs.declared.fault.Fault.{Fault}
use Rattle.zk_mem.specs.declared.fault.Fault.TheVariants.{TextPastEnd}
use Rattle.zk_mem.specs.Map.{MemoryMap}
use Rattle.zk_mem.specs.Words.{text_end_at, words_at}
use Rattle.zk_text.specs.Extra.{own_characters}
use Rattle.zk_text.specs.Meaning.{Units, text_units, checked_end, past_end}
use Rattle.zk_inspect.specs.Listing.{units_text}
use Rattle.zk_inspect.specs.Quoted.{quoted_units, units_or_none}

-- what stands between the quotes
pub between : (m : MemoryMap) (r : Units) → IsOk r
    → units_text m r ≡ (codes "\"" ++ quoted_units (own_characters m) (units_or_none r)) ++ codes "\""
unfolding units_text quoted_units
between m (Ok us) i = refl
between m (Err f) i = absurd cc

-- a fault in place of it
pub fault_text : (m : MemoryMap) (r : Units) (f : Fault) (n : ℕ) → r ≡ Err f → n ≡ fault_number f
    → units_text m r ≡ codes "! F" ++ decimal n
unfolding units_text
fault_text m r f n e k = rw (e, k) refl

only_err : {A B : Type 0} (r : Result A Fault) (x : B) (f : Fault) → (r >>= λ _. Ok x) ≡ Err f → r ≡ Err f
only_err {A} {B} (Ok y) x f h = absurd cc
only_err {A} {B} (Err g) x f h = let e : g ≡ f = cc in ap (λ (k : Fault). Err k) e

same_err : (f g : Fault) (r s : Result ℕ Fault) → r ≡ Err f → s ≡ Err g → r ≡ s → f ≡ g
same_err f g r s d e h = cc

-- the fault of a text is that of its end and its units
checked_by : (m : MemoryMap) (a : ℕ) (f : Fault) (ws : Option (List ℕ)) → words_at m a ≡ ws
    → checked_end m a ≡ Err f → text_units m a ≡ Err f
unfolding checked_end text_units text_end_at
checked_by m a f None e h =
    let k : TextPastEnd ≡ f = same_err TextPastEnd f _ _ refl refl (rw e at h) in rw e (ap (λ (x : Fault). Err x) k)
checked_by m a f (Some ws) e h =
    only_err (text_units m a) (a + 2 * length ws) f
    (subst (λ (k : Option (List ℕ)). (past_end (option_map (λ us. a + 2 * length us) k) >>=
    λ end. text_units m a >>= λ us. Ok end) ≡ Err f) e h)

pub checked_fault : (m : MemoryMap) (a : ℕ) (f : Fault) → checked_end m a ≡ Err f → text_units m a ≡ Err f
checked_fault m a f h = checked_by m a f (words_at m a) refl h
