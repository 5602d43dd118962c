-- The sum of bytes, one after another.
use Rattle.std.proofs.Common.{◌≡◌, ℕ, ◌+◌, ◌-◌, ◌%◌, ◌<◌, ◌≤◌, List, length, take, drop, get_or, sum, refl, arith}
use Rattle.std.proofs.lemmas.List.{take_all}
use Rattle.std.proofs.lemmas.List.Sums.{sum_by_more}
use Rattle.zk_mem.specs.Checksum.{summed_end, file_sum}

pub sum_start : (xs : List ℕ) → 0 ≡ sum (take 0 xs) % 65536
sum_start xs = refl

pub sum_step : (xs : List ℕ) (i total : ℕ) → i < length xs → total ≡ sum (take i xs) % 65536
    → (total + get_or xs i 0) % 65536 ≡ sum (take (i + 1) xs) % 65536
sum_step xs i total lt e =
    let more : sum (take (i + 1) xs) ≡ sum (take i xs) + get_or xs i 0 = sum_by_more (λ x. x) xs i 0 lt in
    omega (arith, more, e)

pub sum_end : (xs : List ℕ) (i : ℕ) → length xs ≤ i → sum (take i xs) % 65536 ≡ sum xs % 65536
sum_end xs i le = rw (take_all i xs le) refl

-- no byte is summed where the end lies in the header
pub sum_none : (file : List ℕ) (end : ℕ) → end ≡ summed_end file → end < 64 → 0 ≡ file_sum file
unfolding file_sum
sum_none file end e low =
    let none : summed_end file - 64 ≡ 0 = omega arith in
    rw none refl

pub sum_is : (file : List ℕ) (end : ℕ) → end ≡ summed_end file
    → sum (take (end - 64) (drop 64 file)) % 65536 ≡ file_sum file
unfolding file_sum
sum_is file end e = rw (← e) refl
