-- Marks that are set, and lists that grow.
use Rattle.std.proofs.Common.{◌≡◌, ℕ, ◌+◌, ◌<◌, ◌≤◌, ◌⊎◌, Bool, true, false, List, [], ◌∷◌, ◌++◌, length, get_or, sym}
use Rattle.std.proofs.Common.{◌∙◌, subst, arith, length-append, inl, inr, Some}
use Rattle.std.specs.Prelude.{replicate, slice_set}
use Rattle.std.specs.List.{Contains, sum_by}
use Rattle.std.specs.List.Sorted.{IsStrictlyIncreasing}
use Rattle.std.proofs.lemmas.Bool.{cases_lt, cases_eq}
use Rattle.std.proofs.lemmas.List.{get_or-replicate, get_or-set_same, get_or-set_other, get_or_past, get_or_append_left}
use Rattle.std.proofs.lemmas.List.{length-replicate}
use Rattle.std.proofs.lemmas.List.Elements.{Contains-push, Contains-append_left, Contains-push_cases, Contains-get_or}
use Rattle.std.proofs.Math.Seq.{get_or-append_seam}
use Rattle.std.proofs.lemmas.List.Sums.{sum_by-cons, sum_by-set}
use Rattle.zk_inspect.specs.Lists.{IsListOf, IsMarked}
use Rattle.zk_inspect.specs.Search.{one}

-- no more is counted than there is
pub counted_within : (bs : List Bool) → sum_by one bs ≤ length bs
counted_within [] = omega arith
counted_within (true ∷ bs) = let h = counted_within bs in let e = sum_by-cons one true bs in omega arith
counted_within (false ∷ bs) = let h = counted_within bs in let e = sum_by-cons one false bs in omega arith

-- nothing is marked at first
pub none_marked : (n a : ℕ) → IsMarked (replicate n false) a → ⊥
none_marked n a h = elim (cases_lt a n) [
  | inl lt ↦ let e = get_or-replicate n a false false lt in absurd cc
  | inr ge ↦ let e = get_or_past (replicate n false) a false (let l = length-replicate n false in omega arith) in
      absurd cc
]

-- what is marked after an address was
pub marked_cases : (bs : List Bool) (a b : ℕ) → IsMarked (slice_set bs a true) b → (b ≡ a) ⊎ IsMarked bs b
marked_cases bs a b h = elim (cases_eq b a) [
  | inl e ↦ inl e
  | inr ne ↦ inr (sym (get_or-set_other bs a b true false ne) ∙ h)
]

-- the address is
pub marked_now : (bs : List Bool) (a : ℕ) → a < length bs → IsMarked (slice_set bs a true) a
marked_now bs a lt = get_or-set_same bs a true false lt

-- and what was stays so
pub marked_still : (bs : List Bool) (a b : ℕ) → a < length bs → IsMarked bs b → IsMarked (slice_set bs a true) b
marked_still bs a b lt h = elim (cases_eq b a) [
  | inl e ↦ subst (λ x. IsMarked (slice_set bs a true) x) (sym e) (marked_now bs a lt)
  | inr ne ↦ get_or-set_other bs a b true false ne ∙ h
]

-- a mark counts one
pub marked_counts : (bs : List Bool) (a : ℕ) → a < length bs → get_or bs a false ≡ false
    → sum_by one (slice_set bs a true) ≡ sum_by one bs + 1
marked_counts bs a lt h =
    let e = sum_by-set one bs a true false lt in
    let e' : sum_by one (slice_set bs a true) + 0 ≡ sum_by one
    bs + 1 = subst (λ x. sum_by one (slice_set bs a true) + one x ≡ sum_by one bs + 1) h e in
    omega arith

-- two values of an option
pub some_same : (a b : ℕ) → Some a ≡ Some b → a ≡ b
some_same a b h = cc

-- a greater number after others
pub increasing_push : (xs : List ℕ) (i : ℕ) → IsStrictlyIncreasing xs → ((a : ℕ) → Contains xs a → a < i)
    → IsStrictlyIncreasing (xs ++ i ∷ [])
increasing_push xs i up below k lt =
    let size = length-append xs (i ∷ []) in
    let inside : k < length xs = omega arith in
    elim (cases_lt (k + 1) (length xs)) [
      | inl next ↦ rw (get_or_append_left xs (i ∷ []) 0 k inside, get_or_append_left xs (i ∷ []) 0 (k + 1) next)
          (up k next)
      | inr last ↦
          let end : k + 1 ≡ length xs = omega arith in
          let low = below (get_or xs k 0) (Contains-get_or xs k 0 inside) in
          rw (get_or_append_left xs (i ∷ []) 0 k inside, end, get_or-append_seam xs i [] 0) low
    ]

-- a marked number is listed after those before it
pub listed_more : (bs : List Bool) (xs : List ℕ) (i : ℕ) → IsListOf (λ a. (a < i) × IsMarked bs a) xs
    → IsMarked bs i → IsListOf (λ a. (a < i + 1) × IsMarked bs a) (xs ++ i ∷ [])
listed_more bs xs i h now = record {
  listed = λ a k. elim (Contains-push_cases xs i a k) [
    | inl old ↦ let o = h.listed a old in let lt = o.0 in (omega arith, o.1)
    | inr e ↦ (omega arith, subst (λ (x : ℕ). IsMarked bs x) e now)
  ];
  whole = λ a k. elim (cases_eq a i) [
    | inl e ↦ subst (λ (x : ℕ). Contains (xs ++ i ∷ []) x) (sym e) (Contains-push xs i)
    | inr ne ↦ Contains-append_left xs (i ∷ []) a (h.whole a (let lt = k.0 in omega arith, k.1))
  ];
  ascending = increasing_push xs i h.ascending (λ a k. (h.listed a k).0);
}

-- one that is not marked is left out
pub listed_still : (bs : List Bool) (xs : List ℕ) (i : ℕ) → IsListOf (λ a. (a < i) × IsMarked bs a) xs
    → get_or bs i false ≡ false → IsListOf (λ a. (a < i + 1) × IsMarked bs a) xs
listed_still bs xs i h none = record {
  listed = λ a k. let o = h.listed a k in let lt = o.0 in (omega arith, o.1);
  whole = λ a k. elim (cases_eq a i) [
    | inl e ↦ absurd (let now : get_or bs i false ≡ true = subst (λ (x : ℕ). IsMarked bs x) e k.1 in cc)
    | inr ne ↦ h.whole a (let lt = k.0 in omega arith, k.1)
  ];
  ascending = h.ascending;
}

-- nothing is marked past the end
pub marked_inside : (bs : List Bool) (a : ℕ) → IsMarked bs a → a < length bs
marked_inside bs a h =
    elim (cases_lt a (length bs)) [ inl lt ↦ lt | inr ge ↦ absurd (let e = get_or_past bs a false ge in cc) ]

-- all marked numbers are listed
pub listed_all : (bs : List Bool) (xs : List ℕ) (i : ℕ) → length bs ≤ i
    → IsListOf (λ a. (a < i) × IsMarked bs a) xs → IsListOf (IsMarked bs) xs
listed_all bs xs i le h = record {
  listed = λ a k. (h.listed a k).1;
  whole = λ a k. h.whole a (let lt = marked_inside bs a k in omega arith, k);
  ascending = h.ascending;
}
