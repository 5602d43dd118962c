-- Items of a list of numbers.
use Rattle.std.proofs.Common.{◌≡◌, ◌≤◌, ◌<◌, ◌⊎◌, inl, inr, ℕ, ◌+◌, List, ◌∷◌, length, drop, get_or, slice_get}
use Rattle.std.proofs.Common.{unwrap_or, Some, None, drop-cons, add-one, refl}
use Rattle.std.proofs.lemmas.Option.{slice_get_within, get_or_from_slice_get, slice_get_cases, unwrap_or-slice_get}

-- an item that is there is the head of the rest
pub drop_item : (xs : List ℕ) (i x : ℕ) → slice_get xs i ≡ Some x → drop i xs ≡ x ∷ drop (i + 1) xs
drop_item xs i x h =
    let within : i < length xs = slice_get_within xs i x h in
    let here : get_or xs i x ≡ x = get_or_from_slice_get xs i x x h in
    rw (add-one, drop-cons xs i x, here) refl

-- an item that is not there lies past the end
pub past : (xs : List ℕ) (i : ℕ) → slice_get xs i ≡ None → length xs ≤ i
past xs i h = go (slice_get_cases xs i).1
  where
    go : (((x : ℕ) × (i < length xs) × (slice_get xs i ≡ Some x) × (get_or xs i x ≡ x))
        ⊎ ((length xs ≤ i) × (slice_get xs i ≡ None))) → length xs ≤ i
    go (inl p) = let there : slice_get xs i ≡ Some p.0 = p.2 in absurd cc
    go (inr p) = p.0

-- an item, or a default
pub read_or : (xs : List ℕ) (i d : ℕ) → unwrap_or (slice_get xs i) d ≡ get_or xs i d
read_or xs i d = unwrap_or-slice_get xs i d
