-- Keys do not fall from one to the next where none is above a later one.
use Rattle.std.proofs.Common.{◌≡◌, ◌<◌, ℕ, true, false, List, [], ◌∷◌, ◌++◌, length, refl, sym, ◌∙◌, ap, subst, inl}
use Rattle.std.proofs.Common.{inr}
use Rattle.std.specs.List.{AllByRecursion}
use Rattle.std.proofs.lemmas.Bool.{cases_Bool, both_ways}
use Rattle.zk_tables.specs.Dictionaries.{is_above, do_not_fall}
use Rattle.zk_tables.specs.Halves.{IsAbove, NoneFalls, KeysAreInOrder}
use Rattle.zk_tables.proofs.Halving.{above_first, above_rest, above_cases, above_both}

-- ---- one key above another

above_behind : (front rest other_rest : List ℕ) (high low : ℕ) → low < high
    → is_above (front ++ high ∷ rest) (front ++ low ∷ other_rest) ≡ true
above_behind [] rest other_rest high low greater = above_first high low rest other_rest greater
above_behind (x ∷ front) rest other_rest high low greater =
    above_rest x x (front ++ high ∷ rest) (front ++ low ∷ other_rest) true
    refl (above_behind front rest other_rest high low greater)

above_of : (k l : List ℕ) → IsAbove k l → is_above k l ≡ true
above_of k l a = rw (a.is, a.other_is) (above_behind a.front a.rest a.other_rest a.high a.low a.greater)

is_above_of : (k l : List ℕ) → is_above k l ≡ true → IsAbove k l
unfolding is_above
is_above_of [] l h = absurd cc
is_above_of (k ∷ ks) [] h = absurd cc
is_above_of (k ∷ ks) (l ∷ ls) h = elim (above_cases k l ks ls h) [
  | inl greater ↦ record {
    front = [];
    high = k;
    low = l;
    rest = ks;
    other_rest = ls;
    is = refl;
    other_is = refl;
    greater = greater;
  }
  | inr same ↦ (let a = is_above_of ks ls same.1 in record {
    front = k ∷ a.front;
    high = a.high;
    low = a.low;
    rest = a.rest;
    other_rest = a.other_rest;
    is = ap (λ xs. k ∷ xs) a.is;
    other_is = rw (sym same.0) (ap (λ xs. k ∷ xs) a.other_is);
    greater = a.greater;
  })
]

-- ---- keys in order

fall_parts : (k l : List ℕ) (ks : List (List ℕ)) → do_not_fall (k ∷ l ∷ ks) ≡ true
    → (is_above k l ≡ false) × (do_not_fall (l ∷ ks) ≡ true)
unfolding do_not_fall
fall_parts k l ks h = elim (cases_Bool (is_above k l)) [
  | inl t ↦ (let g = rw t at h in absurd cc)
  | inr t ↦ (t, rw t at h)
]

fall_behind : (k : List ℕ) (ks : List (List ℕ)) → do_not_fall (k ∷ ks) ≡ true → do_not_fall ks ≡ true
unfolding do_not_fall
fall_behind k [] h = refl
fall_behind k (l ∷ ks) h = (fall_parts k l ks h).1

-- what all keep to, those after some keep to
rest_all : (n : ℕ) (xs ys : List (List ℕ)) → AllByRecursion (λ k. length k ≡ n) (xs ++ ys)
    → AllByRecursion (λ k. length k ≡ n) ys
rest_all n [] ys all = all
rest_all n (x ∷ xs) ys all = rest_all n xs ys all.1

later_not_below : (n : ℕ) (key later : List ℕ) (between behind : List (List ℕ))
    → AllByRecursion (λ k. length k ≡ n) (between ++ later ∷ behind)
    → do_not_fall (key ∷ (between ++ later ∷ behind)) ≡ true → is_above key later ≡ false
later_not_below n key later [] behind all h = (fall_parts key later behind h).0
later_not_below n key later (b ∷ between) behind all h =
    let parts = fall_parts key b (between ++ later ∷ behind) h in
    let next = later_not_below n b later between behind all.1 parts.1 in
    let last = rest_all n between (later ∷ behind) all.1 in
    elim (cases_Bool (is_above key later)) [
      | inl t ↦ absurd (both_ways _ parts.0 (above_both key later b (all.0 ∙ sym last.0) t next))
      | inr t ↦ t
    ]

none_above : (n : ℕ) (key later : List ℕ) (before between behind : List (List ℕ))
    → AllByRecursion (λ k. length k ≡ n) (before ++ key ∷ (between ++ later ∷ behind))
    → do_not_fall (before ++ key ∷ (between ++ later ∷ behind)) ≡ true → is_above key later ≡ false
none_above n key later [] between behind all h = later_not_below n key later between behind all.1 h
none_above n key later (b ∷ before) between behind all h =
    none_above n key later before between behind all.1 (fall_behind b (before ++ key ∷ (between ++ later ∷ behind)) h)

none_falls : (n : ℕ) (keys : List (List ℕ)) → AllByRecursion (λ k. length k ≡ n) keys → do_not_fall keys ≡ true
    → NoneFalls keys
none_falls n keys all h before between behind key later same a =
    let low = none_above n key later before between behind
    (subst (λ xs. AllByRecursion (λ k. length k ≡ n) xs) same all) (rw same at h) in
    both_ways _ low (above_of key later a)

all_rise : (keys : List (List ℕ)) → NoneFalls keys → do_not_fall keys ≡ true
unfolding do_not_fall
all_rise [] none = refl
all_rise (k ∷ []) none = refl
all_rise (k ∷ l ∷ ks) none = elim (cases_Bool (is_above k l)) [
  | inl t ↦ absurd (none [] [] ks k l refl (is_above_of k l t))
  | inr t ↦ rw t (all_rise (l ∷ ks) (λ before between behind key later same a. none (k ∷ before) between behind
      key later (ap (λ xs. k ∷ xs) same) a))
]

pub keys_are_in_order : KeysAreInOrder
keys_are_in_order n keys all = (none_falls n keys all, all_rise keys)
