-- Lines by their numbers, one after another.
use Rattle.std.specs.List.{filter, flat_map, range_with_len}
use Rattle.std.proofs.Common.{◌≡◌, ◌∙◌, ◌<◌, ◌≤◌, ◌+◌, ℕ, zero, suc, List, [], ◌∷◌, ◌++◌, Bool, arith, length, get_or}
use Rattle.std.proofs.Common.{map, take, append-nil, refl, sym, ap, subst}
use Rattle.std.specs.Prelude.{if◌then◌else◌}
use Rattle.std.proofs.lemmas.List.Elements.{filter_more}
use Rattle.std.proofs.lemmas.Grind.{flat_map-append}
use Rattle.std.proofs.lemmas.List.{map-append, take_more}
use Rattle.std.proofs.lemmas.List.FromFn.{length-range_with_len, get_or-range_with_len}

-- the lines of the first numbers, and one more
more_lines : {A : Type 0} (f : ℕ → List A) (a n i : ℕ) → i < n
    → flat_map f (take (i + 1) (range_with_len a n)) ≡ flat_map f (take i (range_with_len a n)) ++ f (a + i)
more_lines {A} f a n i lt =
    let within : i < length (range_with_len a n) = omega (arith, length-range_with_len a n) in
    let item : get_or (range_with_len a n) i 0 ≡ a + i = get_or-range_with_len a n i 0 lt in
    ap (flat_map f) (take_more (range_with_len a n) i 0 within) ∙ flat_map-append f (take i (range_with_len a n))
    (get_or (range_with_len a n) i 0 ∷ [])
    ∙ ap (λ (l : List A). flat_map f (take i (range_with_len a n)) ++ l)
    (append-nil (f (get_or (range_with_len a n) i 0)) ∙ ap f item)

-- the line of the next number was written after the others
pub numbered_more : {S A : Type 0} (wrote : S → S → List A → Type 0) (twice : (x y z : S) (s t : List A)
    → wrote x y s → wrote y z t → wrote x z (s ++ t)) (x y z : S) (f : ℕ → List A) (a n i j : ℕ) → i < n → a + i ≡ j
    → wrote x y (flat_map f (take i (range_with_len a n))) → wrote y z (f j)
    → wrote x z (flat_map f (take (i + 1) (range_with_len a n)))
numbered_more {S} {A} wrote twice x y z f a n i j lt is h k =
    let line : wrote y z (f (a + i)) = subst (λ (w : ℕ). wrote y z (f w)) (sym is) k in
    subst (λ (l : List A). wrote x z l) (sym (more_lines f a n i lt)) (twice x y z _ _ h line)

take_past : {X : Type 0} (xs : List X) (i : ℕ) → length xs ≤ i → take i xs ≡ xs
take_past {X} [] zero le = refl
take_past {X} [] (suc i) le = refl
take_past {X} (x ∷ xs) zero le = absurd (omega arith)
take_past {X} (x ∷ xs) (suc i) le = ap (λ (l : List X). x ∷ l) (take_past xs i (omega arith))

-- the lines of all numbers were written
pub numbered_all : {S A : Type 0} (wrote : S → S → List A → Type 0) (x y : S) (f : ℕ → List A) (a n i : ℕ) → n ≤ i
    → wrote x y (flat_map f (take i (range_with_len a n))) → wrote x y (flat_map f (range_with_len a n))
numbered_all {S} {A} wrote x y f a n i le h =
    subst (λ (l : List ℕ). wrote x y (flat_map f l))
    (take_past (range_with_len a n) i (omega (arith, length-range_with_len a n))) h

-- the first numbers with what they stand for, and one more
more_numbers : {A : Type 0} (f : ℕ → A) (a n i : ℕ) → i < n → map f (take (i + 1) (range_with_len a n)) ≡ map f
    (take i (range_with_len a n)) ++ f (a + i) ∷ []
more_numbers {A} f a n i lt =
    let within : i < length (range_with_len a n) = omega (arith, length-range_with_len a n) in
    let item : get_or (range_with_len a n) i 0 ≡ a + i = get_or-range_with_len a n i 0 lt in
    ap (map f) (take_more (range_with_len a n) i 0 within) ∙ map-append f (take i (range_with_len a n))
    (get_or (range_with_len a n) i 0 ∷ [])
    ∙ ap (λ (x : ℕ). map f (take i (range_with_len a n)) ++ f x ∷ []) item

-- what the next number stands for was given after the others
pub listed_more : {S A : Type 0} (wrote : S → S → List A → Type 0) (twice : (x y z : S) (s t : List A)
    → wrote x y s → wrote y z t → wrote x z (s ++ t)) (x y z : S) (f : ℕ → A) (a n i j : ℕ) → i < n → a + i ≡ j
    → wrote x y (map f (take i (range_with_len a n))) → wrote y z (f j ∷ [])
    → wrote x z (map f (take (i + 1) (range_with_len a n)))
listed_more {S} {A} wrote twice x y z f a n i j lt is h k =
    let one : wrote y z (f (a + i) ∷ []) = subst (λ (w : ℕ). wrote y z (f w ∷ [])) (sym is) k in
    subst (λ (l : List A). wrote x z l) (sym (more_numbers f a n i lt)) (twice x y z _ _ h one)

pub listed_all : {S A : Type 0} (wrote : S → S → List A → Type 0) (x y : S) (f : ℕ → A) (a n i : ℕ) → n ≤ i
    → wrote x y (map f (take i (range_with_len a n))) → wrote x y (map f (range_with_len a n))
listed_all {S} {A} wrote x y f a n i le h =
    subst (λ (l : List ℕ). wrote x y (map f l)) (take_past (range_with_len a n) i
    (omega (arith, length-range_with_len a n))) h

-- the numbers that are kept, of one more
pub filter_more_numbers : (p : ℕ → Bool) (a n i j : ℕ) → i < n → a + i ≡ j
    → filter p (take (i + 1) (range_with_len a n)) ≡ filter p (take i (range_with_len a n))
    ++ (if p j then j ∷ [] else [])
filter_more_numbers p a n i j lt is =
    let within : i < length (range_with_len a n) = omega (arith, length-range_with_len a n) in
    let item : get_or (range_with_len a n) i 0 ≡ a + i = get_or-range_with_len a n i 0 lt in
    filter_more p (range_with_len a n) i 0 within ∙ ap (λ (x : ℕ). filter p (take i (range_with_len a n))
    ++ (if p x then x ∷ [] else [])) (item ∙ is)

-- all of them
pub filter_all : (p : ℕ → Bool) (a n i : ℕ) → n ≤ i → filter p (take i (range_with_len a n)) ≡ filter p
    (range_with_len a n)
filter_all p a n i le = ap (filter p) (take_past (range_with_len a n) i (omega (arith, length-range_with_len a n)))
