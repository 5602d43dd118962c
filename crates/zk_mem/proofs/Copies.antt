-- Bytes that are written over others.
use Rattle.std.proofs.Common.{◌≡◌, ◌∙◌, ℕ, suc, ◌+◌, ◌<◌, ◌≤◌, List, [], ◌∷◌, ◌++◌, length, take, drop, get_or, ap, sym}
use Rattle.std.proofs.Common.{arith, append_assoc, add-one, drop-cons}
use Rattle.std.proofs.lemmas.List.{take_more, length-take-le, set_at}
use Rattle.std.proofs.Math.ListN.{set}

pub copy_step : (xs from old : List ℕ) (i : ℕ) → i < length from → length from ≤ length old
    → xs ≡ take i from ++ drop i old
    → set xs i (get_or from i 0) ≡ take (i + 1) from ++ drop (i + 1) old
copy_step xs from old i lt le e =
    let inside : i < length old = omega arith in
    let long : length (take i from) ≡ i = length-take-le i from (omega arith) in
    ap (λ (l : List ℕ). set l i (get_or from i 0)) (e ∙ ap (λ (l : List ℕ). take i from ++ l)
    (drop-cons old i 0 inside))
    ∙ set_at (take i from) (get_or old i 0) (drop (suc i) old) (get_or from i 0) i long
    ∙ ap (λ (l : List ℕ). take i from ++ get_or from i 0 ∷ l) (ap (λ (n : ℕ). drop n old) (sym (add-one i)))
    ∙ sym (append_assoc (take i from) (get_or from i 0 ∷ []) (drop (i + 1) old))
    ∙ ap (λ (l : List ℕ). l ++ drop (i + 1) old) (sym (take_more from i 0 lt))
