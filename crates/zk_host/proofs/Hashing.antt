-- The hash of bytes, one after another.
use Rattle.std.proofs.Common.{◌≡◌, ◌≤◌, ◌<◌, ◌∙◌, ℕ, ◌+◌, ◌*◌, ◌%◌, ◌^◌, List, length, drop, get_or, ap, sym}
use Rattle.std.specs.Prelude.{bit_xor}
use Rattle.std.proofs.lemmas.List.{drop_more, drop_all}
use Rattle.zk_host.specs.Hashes.{hash_from}

pub hash_more : (total h : ℕ) (xs : List ℕ) (i d : ℕ) → i < length xs → hash_from h (drop i xs) ≡ total
    → hash_from (bit_xor h (get_or xs i d) * 1099511628211 % 2 ^ 64) (drop (i + 1) xs) ≡ total
unfolding hash_from
hash_more total h xs i d inside e = sym (ap (hash_from h) (drop_more xs i d inside)) ∙ e

pub hash_end : (total h : ℕ) (xs : List ℕ) (i : ℕ) → length xs ≤ i → hash_from h (drop i xs) ≡ total → h ≡ total
unfolding hash_from
hash_end total h xs i past e = sym (ap (hash_from h) (drop_all i xs past)) ∙ e
