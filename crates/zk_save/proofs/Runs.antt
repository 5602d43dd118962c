-- Runs that can't be longer.
use Rattle.std.specs.Prelude.{replicate}
use Rattle.std.specs.List.{flat_map}
use Rattle.std.proofs.Common.{◌≡◌, ◌∙◌, ℕ, zero, suc, ◌<◌, List, [], ◌∷◌, ◌++◌, refl, ap, arith, add-one}
use Rattle.zk_save.specs.Packing.{Run, Zeros, Byte, bytes_of, with_zero, runs_of, zero_before, without_last_zeros}
use Rattle.zk_save.specs.Packing.{BeginsOtherwise, AreLongest, CutsIntoLongest, CutsInOneWay, EndsOtherwise}
use Rattle.zk_save.specs.Packing.{DropsLastZeros}

joined_zero : (rs : List Run) → flat_map bytes_of (with_zero rs) ≡ 0 ∷ flat_map bytes_of rs
joined_zero [] = refl
joined_zero (Zeros n ∷ rs) = rw (add-one n) refl
joined_zero (Byte b ∷ rs) = refl

pub joined : (xs : List ℕ) → flat_map bytes_of (runs_of xs) ≡ xs
unfolding runs_of
joined [] = refl
joined (zero ∷ xs) = joined_zero (runs_of xs) ∙ ap (λ (l : List ℕ). 0 ∷ l) (joined xs)
joined (suc b ∷ xs) = ap (λ (l : List ℕ). suc b ∷ l) (joined xs)

longest_zero : (rs : List Run) → AreLongest rs → AreLongest (with_zero rs)
unfolding AreLongest
longest_zero [] h = (omega arith, tt, tt)
longest_zero (Zeros n ∷ rs) h = (omega arith, h.1, h.2)
longest_zero (Byte b ∷ rs) h = (omega arith, tt, h)

longest : (xs : List ℕ) → AreLongest (runs_of xs)
unfolding runs_of AreLongest
longest [] = tt
longest (zero ∷ xs) = longest_zero (runs_of xs) (longest xs)
longest (suc b ∷ xs) = ((λ e. omega arith), longest xs)

pub cuts_into_longest : CutsIntoLongest
cuts_into_longest xs = (joined xs, longest xs)

-- zeros in front of runs that begin otherwise
zeros_before : (n : ℕ) (xs : List ℕ) (rs : List Run) → runs_of xs ≡ rs → BeginsOtherwise rs
    → runs_of (replicate (suc n) 0 ++ xs) ≡ Zeros (suc n) ∷ rs
unfolding runs_of
zeros_before zero xs [] e other = ap with_zero e
zeros_before zero xs (Zeros n ∷ rs) e other = absurd other
zeros_before zero xs (Byte b ∷ rs) e other = ap with_zero e
zeros_before (suc n) xs rs e other =
    ap with_zero (zeros_before n xs rs e other) ∙ ap (λ (k : ℕ). Zeros k ∷ rs) (add-one (suc n))

pub cuts_in_one_way : CutsInOneWay
unfolding runs_of AreLongest
cuts_in_one_way [] h = refl
cuts_in_one_way (Zeros zero ∷ rs) h = absurd (let some : 0 < 0 = h.0 in omega arith)
cuts_in_one_way (Zeros (suc n) ∷ rs) h = zeros_before n (flat_map bytes_of rs) rs (cuts_in_one_way rs h.2) h.1
cuts_in_one_way (Byte zero ∷ rs) h = absurd (h.0 refl)
cuts_in_one_way (Byte (suc b) ∷ rs) h = ap (λ (l : List Run). Byte (suc b) ∷ l) (cuts_in_one_way rs h.1)

ends_zero : (xs : List ℕ) → EndsOtherwise xs → EndsOtherwise (zero_before xs)
ends_zero [] h = tt
ends_zero (x ∷ xs) h = h

ends_byte : (b : ℕ) (xs : List ℕ) → EndsOtherwise xs → EndsOtherwise (suc b ∷ xs)
ends_byte b [] h = λ e. omega arith
ends_byte b (x ∷ xs) h = h

ends : (xs : List ℕ) → EndsOtherwise (without_last_zeros xs)
unfolding without_last_zeros
ends [] = tt
ends (zero ∷ xs) = ends_zero (without_last_zeros xs) (ends xs)
ends (suc b ∷ xs) = ends_byte b (without_last_zeros xs) (ends xs)

filled_zero : (ys xs : List ℕ) (n : ℕ) → ys ++ replicate n 0 ≡ xs → (k : ℕ) × (zero_before ys ++ replicate k 0 ≡ 0 ∷ xs)
filled_zero [] xs n e = (suc n, ap (λ (l : List ℕ). 0 ∷ l) e)
filled_zero (y ∷ ys) xs n e = (n, ap (λ (l : List ℕ). 0 ∷ l) e)

fills : (xs : List ℕ) → (n : ℕ) × (without_last_zeros xs ++ replicate n 0 ≡ xs)
unfolding without_last_zeros
fills [] = (0, refl)
fills (zero ∷ xs) = let rest = fills xs in filled_zero (without_last_zeros xs) xs rest.0 rest.1
fills (suc b ∷ xs) = let rest = fills xs in (rest.0, ap (λ (l : List ℕ). suc b ∷ l) rest.1)

pub drops_last_zeros : DropsLastZeros
drops_last_zeros xs = (ends xs, fills xs)

-- ---- zeros in front of bytes

pub none_left : (z : ℕ) → without_last_zeros (replicate z 0) ≡ []
unfolding without_last_zeros
none_left zero = refl
none_left (suc z) = rw (none_left z) refl

pub kept_before : (z b : ℕ) (xs : List ℕ) → without_last_zeros (replicate z 0 ++ suc b ∷ xs) ≡ replicate z 0
    ++ suc b ∷ without_last_zeros xs
unfolding without_last_zeros
kept_before zero b xs = refl
kept_before (suc zero) b xs = refl
kept_before (suc (suc z)) b xs = ap zero_before (kept_before (suc z) b xs)

pub run_before : (z b : ℕ) (xs : List ℕ) → runs_of (replicate (suc z) 0 ++ suc b ∷ xs) ≡ Zeros (suc z)
    ∷ Byte (suc b) ∷ runs_of xs
unfolding runs_of
run_before z b xs = zeros_before z (suc b ∷ xs) (Byte (suc b) ∷ runs_of xs) refl tt
