-- Codes given one after the other.
use Rattle.std.proofs.Common.{ℕ, List, ◌++◌, sym, subst}
use Rattle.std.proofs.lemmas.List.{map-append}
use Rattle.zk_text.specs.declared.unit.Unit.{Unit}
use Rattle.zk_text.specs.declared.unit.Unit.TheVariants.{Code}
use Rattle.zk_step.specs.Status.{code_units}

pub codes_twice : {K : Type 0} (gave : K → K → List Unit → Type 0)
    → ((a b c : K) (s t : List Unit) → gave a b s → gave b c t → gave a c (s ++ t)) → (a b c : K) (x y : List ℕ)
    → gave a b (code_units x) → gave b c (code_units y) → gave a c (code_units (x ++ y))
codes_twice {K} gave twice a b c x y h k =
    subst (λ (us : List Unit). gave a c us) (sym (map-append (λ (n : ℕ). Code n) x y))
    (twice a b c (code_units x) (code_units y) h k)
