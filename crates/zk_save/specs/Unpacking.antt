-- What packed bytes give (Quetzal 1.4, section 3).
use Rattle.std.specs.Prelude.{◌≡◌, ℕ, zero, suc, ◌+◌, ◌-◌, ◌<◌, ◌≤◌, List, [], ◌∷◌, ◌++◌, length, replicate}
use Rattle.std.specs.Prelude.{slice_index, nat_le, if◌then◌else◌, bit_xor, Option, Some, None}
use Rattle.zk_save.specs.Packing.{packed}

-- bytes before others, where there are others
abbrev pub before : List ℕ → Option (List ℕ) → Option (List ℕ)
before xs None = None
before xs (Some ys) = Some (xs ++ ys)

-- what packed bytes give: a zero and n are n + 1 zeros, another byte is itself; none where they end in a lone zero
unfoldable pub given : List ℕ → Option (List ℕ)
given [] = Some []
given (zero ∷ []) = None
given (zero ∷ n ∷ cs) = before (replicate (n + 1) 0) (given cs)
given (suc b ∷ cs) = before (suc b ∷ []) (given cs)

-- so many bytes, with zeros after these; none where they are more
abbrev pub filled : ℕ → Option (List ℕ) → Option (List ℕ)
filled n None = None
filled n (Some xs) = if nat_le (length xs) n then Some (xs ++ replicate (n - length xs) 0) else None

-- the n bytes that packed bytes give, with zeros where these may be missing
unfoldable pub unpacked : ℕ → List ℕ → Option (List ℕ)
unpacked n cs = filled n (given cs)

-- bytes with those of a difference turned, as far as it goes
unfoldable pub xored : List ℕ → List ℕ → List ℕ
xored bytes [] = bytes
xored [] (d ∷ ds) = []
xored (b ∷ bytes) (d ∷ ds) = bit_xor b d ∷ xored bytes ds

-- bytes from one index up to another are as a file has them
abbrev pub AreAlike : List ℕ → List ℕ → ℕ → ℕ → Type 0
AreAlike bytes file first last = (k : ℕ) → first ≤ k → k < last → bit_xor (slice_index bytes k) (slice_index file k) ≡ 0

-- ---- laws

-- what is packed comes back
abbrev pub ComesBack : Type 0
ComesBack = (xs : List ℕ) → unpacked (length xs) (packed xs) ≡ Some xs

-- what differs from a file gives back what it was, where it is put over the file
abbrev pub TurnsBack : Type 0
TurnsBack = (file bytes : List ℕ) → length bytes ≡ length file → xored file (xored bytes file) ≡ bytes
