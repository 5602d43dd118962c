-- Lists of what something holds of, made number by number.
use Rattle.std.proofs.Common.{◌≡◌, ℕ, suc, ◌+◌, ◌<◌, ◌⊎◌, Bool, true, false, List, [], ◌∷◌, ◌++◌, refl, sym, subst}
use Rattle.std.proofs.Common.{arith, inl, inr, if◌then◌else◌}
use Rattle.std.specs.List.{Contains, filter}
use Rattle.std.proofs.lemmas.List.Elements.{Contains-push, Contains-append_left, Contains-push_cases}
use Rattle.std.proofs.lemmas.List.Kept.{IsStrictlyIncreasing-filter}
use Rattle.std.proofs.lemmas.Bool.{cases_eq}
use Rattle.zk_inspect.specs.Lists.{IsListOf}
use Rattle.zk_inspect.proofs.OneList.{first_or}
use Rattle.zk_inspect.proofs.Marking.{increasing_push}

-- a number after all others
pub list_more : (P R : ℕ → Type 0) (xs : List ℕ) (a : ℕ) → IsListOf P xs → ((b : ℕ) → P b → b < a)
    → ((b : ℕ) → P b → R b) → ((b : ℕ) → R b → P b ⊎ (a ≡ b)) → R a → IsListOf R (xs ++ a ∷ [])
list_more P R xs a h below up down now = record {
  listed = λ b k. elim (Contains-push_cases xs a b k) [ inl old ↦ up b (h.listed b old) | inr e ↦ subst R e now ];
  whole = λ b r. elim (down b r) [
    | inl p ↦ Contains-append_left xs (a ∷ []) b (h.whole b p)
    | inr e ↦ subst (λ (x : ℕ). Contains (xs ++ a ∷ []) x) e (Contains-push xs a)
  ];
  ascending = increasing_push xs a h.ascending (λ b k. below b (h.listed b k));
}

-- the same numbers
pub list_same : (P R : ℕ → Type 0) (xs : List ℕ) → IsListOf P xs → ((b : ℕ) → P b → R b) → ((b : ℕ) → R b → P b)
    → IsListOf R xs
list_same P R xs h up down =
    record { listed = λ b k. up b (h.listed b k); whole = λ b r. h.whole b (down b r); ascending = h.ascending }

-- a number after those below it, or none
pub list_next : (P : ℕ → Type 0) (xs : List ℕ) (i : ℕ) → IsListOf (λ a. (a < i) × P a) xs → P i
    → IsListOf (λ a. (a < i + 1) × P a) (xs ++ i ∷ [])
list_next P xs i h now = list_more (λ a. (a < i) × P a) (λ a. (a < i + 1) × P a) xs i h
    (λ b p. p.0)
    (λ b p. (let lt = p.0 in omega arith, p.1))
    (λ b p. elim (cases_eq i b) [ inl e ↦ inr e | inr ne ↦ inl (let lt = p.0 in omega arith, p.1) ])
    (omega arith, now)

pub list_skip : (P : ℕ → Type 0) (xs : List ℕ) (i : ℕ) → IsListOf (λ a. (a < i) × P a) xs → (P i → ⊥)
    → IsListOf (λ a. (a < i + 1) × P a) xs
list_skip P xs i h none = list_same (λ a. (a < i) × P a) (λ a. (a < i + 1) × P a) xs h
    (λ b p. (let lt = p.0 in omega arith, p.1))
    (λ b p. elim (cases_eq b i) [ inl e ↦ absurd (none (subst P e p.1)) | inr ne ↦ (let lt = p.0 in omega arith, p.1) ])

-- all of them
pub list_whole : (P : ℕ → Type 0) (xs : List ℕ) (i : ℕ) → IsListOf (λ a. (a < i) × P a) xs
    → ((a : ℕ) → P a → a < i) → IsListOf P xs
list_whole P xs i h near = list_same (λ a. (a < i) × P a) P xs h (λ b p. p.1) (λ b p. (near b p, p))

-- no number, and one
pub list_none : (P : ℕ → Type 0) → ((a : ℕ) → P a → ⊥) → IsListOf P []
list_none P none =
    record {
      listed = λ a k. absurd (let lt = k.1 in omega arith);
      whole = λ a p. absurd (none a p);
      ascending = λ k lt. absurd (omega arith);
    }

pub list_one : (P : ℕ → Type 0) (a : ℕ) → P a → ((b : ℕ) → P b → b ≡ a) → IsListOf P (a ∷ [])
list_one P a now only = list_more (λ b. ⊥) P [] a (list_none (λ b. ⊥) (λ b k. k)) (λ b k. absurd k)
    (λ b k. absurd k) (λ b p. inr (sym (only b p))) now

-- one where a test holds
pub list_if : (P : ℕ → Type 0) (a : ℕ) (holds : Bool) → (holds ≡ true → P a)
    → ((b : ℕ) → P b → (b ≡ a) × (holds ≡ true)) → IsListOf P (if holds then a ∷ [] else [])
list_if P a true up down = list_one P a (up refl) (λ b p. (down b p).0)
list_if P a false up down = list_none P (λ b p. absurd (let e = (down b p).1 in cc))

-- what a filter keeps
kept_cases : (p : ℕ → Bool) (x : ℕ) (xs : List ℕ) (a : ℕ) (b : Bool) → p x ≡ b
    → (Contains xs a → p a ≡ true → Contains (filter p xs) a) → (x ≡ a) ⊎ Contains xs a → p a ≡ true
    → Contains (if b then x ∷ filter p xs else filter p xs) a
kept_cases p x xs a true e rest (inl s) h = (0, omega arith, s)
kept_cases p x xs a true e rest (inr k) h = let c = rest k h in (suc c.0, (let lt = c.1 in omega arith), c.2)
kept_cases p x xs a false e rest (inl s) h = absurd (let q : p x ≡ true = subst (λ (y : ℕ). p y ≡ true) (sym s) h in cc)
kept_cases p x xs a false e rest (inr k) h = rest k h

pub in_first : (x : ℕ) (xs : List ℕ) → Contains (x ∷ xs) x
in_first x xs = (0, omega arith, refl)

pub in_rest : (x a : ℕ) (xs : List ℕ) → Contains xs a → Contains (x ∷ xs) a
in_rest x a xs k = (suc k.0, (let lt = k.1 in omega arith), k.2)

was_cases : (p : ℕ → Bool) (x : ℕ) (xs : List ℕ) (a : ℕ) (b : Bool) → p x ≡ b
    → (Contains (filter p xs) a → Contains xs a × (p a ≡ true))
    → Contains (if b then x ∷ filter p xs else filter p xs) a → Contains (x ∷ xs) a × (p a ≡ true)
was_cases p x xs a true e rest k = elim (first_or x a (filter p xs) k) [
  | inl s ↦ (subst (λ (y : ℕ). Contains (x ∷ xs) y) s (in_first x xs), subst (λ (y : ℕ). p y ≡ true) s e)
  | inr c ↦ let r = rest c in (in_rest x a xs r.0, r.1)
]
was_cases p x xs a false e rest k = let r = rest k in (in_rest x a xs r.0, r.1)

kept_by : (p : ℕ → Bool) (xs : List ℕ) (a : ℕ) → Contains xs a → p a ≡ true → Contains (filter p xs) a
kept_by p [] a k h = absurd (let lt = k.1 in omega arith)
kept_by p (x ∷ xs) a k h = kept_cases p x xs a (p x) refl (kept_by p xs a) (first_or x a xs k) h

was_in : (p : ℕ → Bool) (xs : List ℕ) (a : ℕ) → Contains (filter p xs) a → Contains xs a × (p a ≡ true)
was_in p [] a k = absurd (let lt = k.1 in omega arith)
was_in p (x ∷ xs) a k = was_cases p x xs a (p x) refl (was_in p xs a) k

pub list_filter : (Q P : ℕ → Type 0) (p : ℕ → Bool) (xs : List ℕ) → IsListOf Q xs
    → ((a : ℕ) → Q a → p a ≡ true → P a) → ((a : ℕ) → P a → Q a × (p a ≡ true)) → IsListOf P (filter p xs)
list_filter Q P p xs h up down = record {
  listed = λ a k. let was = was_in p xs a k in up a (h.listed a was.0) was.1;
  whole = λ a q. let d = down a q in kept_by p xs a (h.whole a d.0) d.1;
  ascending = IsStrictlyIncreasing-filter p xs h.ascending;
}
