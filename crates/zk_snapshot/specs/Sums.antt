-- Adler-32, a sum of bytes (RFC 1950, section 8.2).
use Rattle.std.specs.Prelude.{ℕ, ◌+◌, ◌*◌, ◌%◌, List, [], ◌∷◌}

-- the sum of bytes, from the two sums of those before them
unfoldable pub sum_from : ℕ → ℕ → List ℕ → ℕ
sum_from a b [] = b * 65536 + a
sum_from a b (x ∷ xs) = sum_from ((a + x) % 65521) ((b + (a + x) % 65521) % 65521) xs

abbrev pub sum_of : List ℕ → ℕ
sum_of bytes = sum_from 1 0 bytes
