-- The sum of bytes, one after another. The two sums of those before count by what they leave modulo 65,521.
use Rattle.std.proofs.Common.{◌≡◌, ◌≤◌, ◌<◌, ◌∙◌, ℕ, ◌+◌, ◌*◌, ◌%◌, List, length, drop, get_or, ap, sym}
use Rattle.std.proofs.Math.Nat.{add-mod-mod, mod-add-mod, mod-mod}
use Rattle.std.proofs.lemmas.List.{drop_more, drop_all}
use Rattle.zk_snapshot.specs.Sums.{sum_from}

sum_one : (total a b : ℕ) (xs : List ℕ) (i d : ℕ) → i < length xs → sum_from a b (drop i xs) ≡ total
    → sum_from ((a + get_or xs i d) % 65521) ((b + (a + get_or xs i d) % 65521) % 65521) (drop (i + 1) xs) ≡ total
unfolding sum_from
sum_one total a b xs i d h e = sym (ap (sum_from a b) (drop_more xs i d h)) ∙ e

pub more : (total a b : ℕ) (xs : List ℕ) (i d : ℕ) → i < length xs
    → sum_from (a % 65521) (b % 65521) (drop i xs) ≡ total
    → sum_from ((a + get_or xs i d) % 65521) ((b + (a + get_or xs i d)) % 65521) (drop (i + 1) xs) ≡ total
more total a b xs i d h e =
    let x : ℕ = get_or xs i d in
    let first = mod-add-mod a 65521 x in
    let second = mod-add-mod b 65521 ((a + x) % 65521) ∙ add-mod-mod b (a + x) 65521 in
    let one = sum_one total (a % 65521) (b % 65521) xs i d h e in
    rw (first, second) at one

pub reduced : (total a b : ℕ) (ys : List ℕ) → sum_from (a % 65521) (b % 65521) ys ≡ total
    → sum_from (a % 65521 % 65521) (b % 65521 % 65521) ys ≡ total
reduced total a b ys e = rw (mod-mod a 65521, mod-mod b 65521) e

pub ended : (total a b : ℕ) (xs : List ℕ) (i : ℕ) → length xs ≤ i → sum_from a b (drop i xs) ≡ total
    → b * 65536 + a ≡ total
unfolding sum_from
ended total a b xs i h e = sym (ap (sum_from a b) (drop_all i xs h)) ∙ e
