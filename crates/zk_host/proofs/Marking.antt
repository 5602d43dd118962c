-- Marks of bytes, one after the other.
use Rattle.std.proofs.Common.{◌≡◌, ◌≢◌, ◌∙◌, ◌≤◌, ◌<◌, ◌+◌, ◌-◌, ℕ, zero, suc, List, [], ◌∷◌, arith, refl, ap, drop}
use Rattle.std.proofs.Common.{get_or, length, nat_eq, take}
use Rattle.std.proofs.lemmas.Bool.{cond-false, cond-true, eq-eqb, ne_eqb}
use Rattle.std.proofs.lemmas.List.{drop_all}
use Rattle.std.proofs.Math.Seq.{drop-cons}
use Rattle.std.specs.Prelude.{replicate}
use Rattle.zk_host.specs.Marks.{so_marked}

-- one mark, and as many others as there are bytes left
pub first_marks : (n x y : ℕ) → 1 ≤ n → n ≤ 4 → take n (x ∷ y ∷ y ∷ y ∷ []) ≡ x ∷ replicate (n - 1) y
first_marks zero x y from to = absurd (omega arith)
first_marks (suc zero) x y from to = refl
first_marks (suc (suc zero)) x y from to = refl
first_marks (suc (suc (suc zero))) x y from to = refl
first_marks (suc (suc (suc (suc zero)))) x y from to = refl
first_marks (suc (suc (suc (suc (suc n))))) x y from to = absurd (omega arith)

-- a byte that has the mark, one that has another, and the end
pub same_on : (mark : ℕ) (l : List ℕ) (k d : ℕ) → k < length l → get_or l k d ≡ mark
    → so_marked mark (drop k l) ≡ so_marked mark (drop (k + 1) l) + 1
unfolding so_marked
same_on mark l k d low is =
    let next : suc k ≡ k + 1 = omega arith in
    ap (so_marked mark) (drop-cons l k d low)
    ∙ cond-true (nat_eq (get_or l k d) mark) (so_marked mark (drop (suc k) l) + 1) 0 (eq-eqb (get_or l k d) mark is)
    ∙ ap (λ (n : ℕ). so_marked mark (drop n l) + 1) next

pub same_off : (mark : ℕ) (l : List ℕ) (k d : ℕ) → k < length l → get_or l k d ≢ mark → so_marked mark (drop k l) ≡ 0
unfolding so_marked
same_off mark l k d low other =
    ap (so_marked mark) (drop-cons l k d low)
    ∙ cond-false (nat_eq (get_or l k d) mark) (so_marked mark (drop (suc k) l) + 1) 0 (ne_eqb (get_or l k d) mark other)

pub same_end : (mark : ℕ) (l : List ℕ) (k : ℕ) → length l ≤ k → so_marked mark (drop k l) ≡ 0
unfolding so_marked
same_end mark l k past = ap (so_marked mark) (drop_all k l past)
