-- The hash of bytes: FNV-1a in 64 bits, by Fowler, Noll and Vo.
use Rattle.std.specs.Prelude.{ℕ, ◌*◌, ◌%◌, ◌^◌, List, [], ◌∷◌, bit_xor}

-- from the hash of the bytes before them: each byte is put in by exclusive or, and the hash multiplied by the prime
unfoldable pub hash_from : ℕ → List ℕ → ℕ
hash_from h [] = h
hash_from h (b ∷ bs) = hash_from (bit_xor h b * 1099511628211 % 2 ^ 64) bs

-- from the offset basis on
abbrev pub hash_of : List ℕ → ℕ
hash_of bytes = hash_from 14695981039346656037 bytes
