-- Lists of what something holds of, made from the last number on.
use Rattle.std.proofs.Common.{◌≡◌, ℕ, zero, suc, ◌+◌, ◌<◌, ◌≤◌, ◌⊎◌, inl, inr, Bool, true, false, List, [], ◌∷◌, get_or}
use Rattle.std.proofs.Common.{refl, sym, subst, arith}
use Rattle.std.specs.Prelude.{◌↔◌, reverse}
use Rattle.std.specs.List.{Contains}
use Rattle.std.specs.List.Sorted.{IsStrictlyIncreasing}
use Rattle.std.proofs.lemmas.Bool.{cases_eq}
use Rattle.std.proofs.lemmas.List.{reverse-append}
use Rattle.std.proofs.lemmas.List.Elements.{Contains-get_or}
use Rattle.zk_inspect.specs.Lists.{IsLastList, IsListOf, listed_if}
use Rattle.zk_inspect.proofs.Listed.{in_first, in_rest, list_none, list_same}
use Rattle.zk_inspect.proofs.OneList.{first_or}

-- a number below all others
increasing_front : (a : ℕ) (xs : List ℕ) → IsStrictlyIncreasing xs → ((b : ℕ) → Contains xs b → a < b)
    → IsStrictlyIncreasing (a ∷ xs)
increasing_front a xs up above zero lt = above (get_or xs 0 0) (Contains-get_or xs 0 0 (omega arith))
increasing_front a xs up above (suc k) lt =
    let e : suc (k + 1) ≡ suc k + 1 = omega arith in
    subst (λ (j : ℕ). get_or xs k 0 < get_or (a ∷ xs) j 0) e (up k (omega arith))

list_front : (P R : ℕ → Type 0) (a : ℕ) (xs : List ℕ) → IsListOf P xs → ((b : ℕ) → P b → a < b)
    → ((b : ℕ) → P b → R b) → ((b : ℕ) → R b → P b ⊎ (a ≡ b)) → R a → IsListOf R (a ∷ xs)
list_front P R a xs h above up down now = record {
  listed = λ b k. elim (first_or a b xs k) [ inl e ↦ subst R e now | inr old ↦ up b (h.listed b old) ];
  whole =
      λ b r. elim (down b r) [
        | inl p ↦ in_rest a b xs (h.whole b p)
        | inr e ↦ subst (λ (x : ℕ). Contains (a ∷ xs) x)
            e (in_first a xs)
      ];
  ascending = increasing_front a xs h.ascending (λ b k. above b (h.listed b k));
}

pub descending_begin : (P : ℕ → Type 0) (end : ℕ) → ((a : ℕ) → P a → a < end) → IsLastList P end 0 []
descending_begin P end near =
    list_none (λ a. (end ≤ a + 0) × P a) (λ a p. let lt = near a p.1 in let le = p.0 in omega arith)

-- the next holds, or doesn't
by_test : (P : ℕ → Type 0) (end behind a : ℕ) (test : Bool) (xs : List ℕ) → a + behind + 1 ≡ end
    → (test ≡ true ↔ P a) → IsLastList P end behind xs → IsLastList P end (behind + 1) (listed_if test xs a)
by_test P end behind a true xs at is h =
    subst (IsListOf (λ b. (end ≤ b + (behind + 1)) × P b)) (sym (reverse-append xs (a ∷ [])))
    (list_front (λ b. (end ≤ b + behind) × P b) (λ b. (end ≤ b + (behind + 1)) × P b) a (reverse xs) h
    (λ b p. let le = p.0 in omega arith)
    (λ b p. (let le = p.0 in omega arith, p.1))
    (λ b p. elim (cases_eq a b) [ inl e ↦ inr e | inr ne ↦ inl (let le = p.0 in omega arith, p.1) ])
    (omega arith, is.0 refl))
by_test P end behind a false xs at is h =
    list_same (λ b. (end ≤ b + behind) × P b) (λ b. (end ≤ b + (behind + 1)) × P b) (reverse xs) h
    (λ b p. (let le = p.0 in omega arith, p.1))
    (λ b p. elim (cases_eq a b) [
      | inl e ↦ absurd (let yes = is.1 (subst P (sym e) p.1) in cc)
      | inr ne ↦ (let le = p.0 in omega arith, p.1)
    ])

pub descending_next : (P : ℕ → Type 0) (end behind a : ℕ) (test : Bool) (old new : List ℕ) → a + behind + 1 ≡ end
    → (test ≡ true ↔ P a) → IsLastList P end behind old → new ≡ listed_if test old a → IsLastList P end (behind + 1) new
descending_next P end behind a test old new at is h e =
    subst (IsLastList P end (behind + 1)) (sym e) (by_test P end behind a test old at is h)
