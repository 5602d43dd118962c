-- Numbers are listed, ascending and each once, in one way.
use Rattle.std.proofs.Common.{◌≡◌, ℕ, suc, zero, ◌+◌, ◌<◌, ◌≤◌, ◌⊎◌, inl, inr, List, [], ◌∷◌, length, get_or, refl, sym}
use Rattle.std.proofs.Common.{ap₂, subst, arith}
use Rattle.std.specs.List.{Contains}
use Rattle.std.specs.List.Sorted.{IsStrictlyIncreasing}
use Rattle.std.proofs.lemmas.Grind.{get_or_default_zero}
use Rattle.zk_code.specs.Reach.{IsReached, IsCalled}
use Rattle.zk_inspect.specs.Codes.{OneCode}
use Rattle.zk_inspect.specs.Lists.{IsListOf}

-- the members of one list are members of the other
abbrev Within : List ℕ → List ℕ → Type 0
Within xs ys = (a : ℕ) → Contains xs a → Contains ys a

-- the list after the first
pub behind : (x : ℕ) (xs : List ℕ) → IsStrictlyIncreasing (x ∷ xs) → IsStrictlyIncreasing xs
behind x xs up k lt =
    let e : suc k + 1 ≡ suc (k + 1) = omega arith in
    subst (λ (j : ℕ). get_or xs k 0 < get_or (x ∷ xs) j 0) e (up (suc k) (omega arith))

-- each number of it is above the first
above : (x : ℕ) (xs : List ℕ) → IsStrictlyIncreasing (x ∷ xs) → (k : ℕ) → k < length xs → x < get_or xs k 0
above x xs up zero lt = up 0 (omega arith)
above x xs up (suc k) lt =
    let lower = above x xs up k (omega arith) in
    let e : k + 1 ≡ suc k = omega arith in
    let next : get_or xs k 0 < get_or xs (suc k) 0 = subst (λ (j : ℕ). get_or xs k 0 < get_or xs j 0) e
    (behind x xs up k (omega arith)) in
    omega arith

-- a member is the first, or one after it
pub first_or : (x a : ℕ) (xs : List ℕ) → Contains (x ∷ xs) a → (x ≡ a) ⊎ Contains xs a
first_or x a xs (zero, lt, e) = inl e
first_or x a xs (suc k, lt, e) = inr (k, omega arith, e)

-- which is above it
pub behind_above : (x a : ℕ) (xs : List ℕ) → IsStrictlyIncreasing (x ∷ xs) → Contains xs a → x < a
behind_above x a xs up (k, lt, e) =
    let low = above x xs up k lt in
    let d : get_or xs k a ≡ get_or xs k 0 = get_or_default_zero xs k a lt in
    omega arith

-- no member is below the first
least : (x a : ℕ) (xs : List ℕ) → IsStrictlyIncreasing (x ∷ xs) → Contains (x ∷ xs) a → x ≤ a
least x a xs up c =
    elim (first_or x a xs c) [ inl e ↦ omega arith | inr k ↦ let lt = behind_above x a xs up k in omega arith ]

-- the lists after equal firsts
within_behind : (x y : ℕ) (xs ys : List ℕ) → IsStrictlyIncreasing (x ∷ xs) → x ≡ y → Within (x ∷ xs) (y ∷ ys)
    → Within xs ys
within_behind x y xs ys up same within a (k, lt, e) = elim (first_or y a ys (within a (suc k, omega arith, e))) [
  | inl f ↦ absurd (let higher = behind_above x a xs up (k, lt, e) in omega arith)
  | inr c ↦ c
]

same_lists : (xs ys : List ℕ) → IsStrictlyIncreasing xs → IsStrictlyIncreasing ys → Within xs ys
    → Within ys xs → xs ≡ ys
same_lists [] [] up vp in_ys in_xs = refl
same_lists [] (y ∷ ys) up vp in_ys in_xs = let lt = (in_xs y (0, omega arith, refl)).1 in absurd (omega arith)
same_lists (x ∷ xs) [] up vp in_ys in_xs = let lt = (in_ys x (0, omega arith, refl)).1 in absurd (omega arith)
same_lists (x ∷ xs) (y ∷ ys) up vp in_ys in_xs =
    let le = least y x ys vp (in_ys x (0, omega arith, refl)) in
    let ge = least x y xs up (in_xs y (0, omega arith, refl)) in
    let same : x ≡ y = omega arith in
    ap₂ (λ (a : ℕ) (bs : List ℕ). a ∷ bs) same
    (same_lists xs ys (behind x xs up) (behind y ys vp) (within_behind x y xs ys up same in_ys)
    (within_behind y x ys xs vp (sym same) in_xs))

pub one_list : (P : ℕ → Type 0) (xs ys : List ℕ) → IsListOf P xs → IsListOf P ys → xs ≡ ys
one_list P xs ys h k =
    same_lists xs ys h.ascending k.ascending (λ a c. k.whole a (h.listed a c)) (λ a c. h.whole a (k.listed a c))

pub one_code : OneCode
one_code m c d h k =
    ap₂ (λ (bs rs : List ℕ). record { addresses = bs; routines = rs })
    (one_list (IsReached m) c.addresses d.addresses h.addresses k.addresses)
    (one_list (IsCalled m) c.routines d.routines h.routines k.routines)
