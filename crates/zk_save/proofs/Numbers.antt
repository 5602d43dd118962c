-- Numbers that bytes spell, and bits that are counted.
use Rattle.std.specs.Int.{trailing_ones, w8}
use Rattle.std.proofs.Common.{◌≡◌, ◌∙◌, ℕ, zero, suc, ◌+◌, ◌*◌, ◌^◌, ◌<◌, ◌≤◌, true, ◌==◌, List, ◌∷◌, length, drop}
use Rattle.std.proofs.Common.{get_or, refl, ap, sym, arith, add-one, drop-cons}
use Rattle.std.proofs.lemmas.Bool.Decides.{nat_tests}
use Rattle.std.proofs.lemmas.List.{drop_all}
use Rattle.zk_mem.proofs.Below.{all_below, each_below}
use Rattle.zk_save.specs.Reading.{number_behind, number_of, arguments_in}

-- a byte more
pub number_step : (bs : List ℕ) (n i b : ℕ) → i < length bs → get_or bs i 0 ≡ b
    → number_behind n (drop i bs) ≡ number_of bs → number_behind (256 * n + b) (drop (i + 1) bs) ≡ number_of bs
unfolding number_behind
number_step bs n i b lt e h =
    let here : drop i bs ≡ b ∷ drop (i + 1) bs = drop-cons bs i 0 lt ∙ ap (λ (x : ℕ). x ∷ drop (suc i) bs) e
    ∙ ap (λ (k : ℕ). b ∷ drop k bs) (sym (add-one i)) in
    rw here at h

pub number_end : (bs : List ℕ) (n i : ℕ) → length bs ≤ i → number_behind n (drop i bs) ≡ number_of bs → n ≡ number_of bs
unfolding number_behind
number_end bs n i le h = rw (drop_all i bs le) at h

-- so many bytes spell no larger number
pub number_small : (n i b : ℕ) → n < 256 ^ i → b < 256 → 256 * n + b < 256 ^ (i + 1)
number_small n i b h lt = rw (add-one i) (omega (arith, h, lt))

pub number_fits : (n i : ℕ) → n < 256 ^ i → i < 4 → n < 2 ^ 24
number_fits n zero h lt = omega (arith, h)
number_fits n (suc zero) h lt = omega (arith, h)
number_fits n (suc (suc zero)) h lt = omega (arith, h)
number_fits n (suc (suc (suc zero))) h lt = omega (arith, h)
number_fits n (suc (suc (suc (suc i)))) h lt = absurd (omega arith)

pub arguments_are : (k : ℕ) → k < 128 → trailing_ones w8 k ≡ arguments_in 7 k
unfolding all_below arguments_in lib.Count.count_trailing_zeros
arguments_are k low =
    let test : (trailing_ones w8 k == arguments_in 7 k) ≡ true = each_below
    (λ n. trailing_ones w8 n == arguments_in 7 n) 128 refl k low in
    grind (arith, nat_tests)
