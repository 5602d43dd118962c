-- Bytes with their runs of zeros written short (Quetzal 1.4, section 3).
use Rattle.std.specs.Prelude.{◌≡◌, ◌≢◌, ℕ, zero, suc, ◌+◌, ◌-◌, ◌*◌, ◌/◌, ◌%◌, ◌<◌, ◌≤◌, List, [], ◌∷◌, ◌++◌, length}
use Rattle.std.specs.Prelude.{replicate}
use Rattle.std.specs.List.{flat_map}

-- a run of bytes: so many zeros, or one other byte
pub data Run : Type 0 where
  Zeros : ℕ → Run
  Byte : ℕ → Run

-- the bytes of a run
abbrev pub bytes_of : Run → List ℕ
bytes_of (Zeros n) = replicate n 0
bytes_of (Byte b) = b ∷ []

-- runs with a zero in front, which belongs to the first of them where that has zeros
abbrev pub with_zero : List Run → List Run
with_zero [] = Zeros 1 ∷ []
with_zero (Zeros n ∷ rs) = Zeros (n + 1) ∷ rs
with_zero (Byte b ∷ rs) = Zeros 1 ∷ Byte b ∷ rs

-- bytes cut into runs, each as long as can be
unfoldable pub runs_of : List ℕ → List Run
runs_of [] = []
runs_of (zero ∷ xs) = with_zero (runs_of xs)
runs_of (suc b ∷ xs) = Byte (suc b) ∷ runs_of xs

-- a zero before bytes, where there are some
abbrev pub zero_before : List ℕ → List ℕ
zero_before [] = []
zero_before (x ∷ xs) = 0 ∷ x ∷ xs

-- bytes without the zeros at their end
unfoldable pub without_last_zeros : List ℕ → List ℕ
without_last_zeros [] = []
without_last_zeros (zero ∷ xs) = zero_before (without_last_zeros xs)
without_last_zeros (suc b ∷ xs) = suc b ∷ without_last_zeros xs

-- a pair for some zeros, up to 256: a zero, and how many come after it
abbrev pub pair : ℕ → List ℕ
pair n = 0 ∷ (n - 1) ∷ []

-- so many pairs for 256 zeros each
unfoldable pub pairs : ℕ → List ℕ
pairs zero = []
pairs (suc q) = pair 256 ++ pairs q

-- a pair for what is left of a run, if anything
abbrev pub last_pair : ℕ → List ℕ
last_pair zero = []
last_pair (suc n) = pair (suc n)

-- a run as it is written: zeros as pairs for 256 of them as often as these fit, and then one for the rest; another
-- byte as it is
unfoldable pub spelled : Run → List ℕ
spelled (Zeros n) = pairs (n / 256) ++ last_pair (n % 256)
spelled (Byte b) = b ∷ []

-- the bytes without the zeros at their end, cut into runs as long as can be, each as it is written
unfoldable pub packed : List ℕ → List ℕ
packed xs = flat_map spelled (runs_of (without_last_zeros xs))

-- ---- laws

-- no zeros begin these runs
abbrev pub BeginsOtherwise : List Run → Type 0
BeginsOtherwise [] = Unit {0}
BeginsOtherwise (Zeros n ∷ rs) = ⊥
BeginsOtherwise (Byte b ∷ rs) = Unit {0}

-- runs that can't be longer: each has something, no zero stands alone, and no zeros stand after zeros
unfoldable pub AreLongest : List Run → Type 0
AreLongest [] = Unit {0}
AreLongest (Zeros n ∷ rs) = (0 < n) × BeginsOtherwise rs × AreLongest rs
AreLongest (Byte b ∷ rs) = (b ≢ 0) × AreLongest rs

-- bytes are cut into runs that can't be longer
abbrev pub CutsIntoLongest : Type 0
CutsIntoLongest = (xs : List ℕ) → (flat_map bytes_of (runs_of xs) ≡ xs) × AreLongest (runs_of xs)

-- and in this way alone
abbrev pub CutsInOneWay : Type 0
CutsInOneWay = (rs : List Run) → AreLongest rs → runs_of (flat_map bytes_of rs) ≡ rs

-- the last byte is no zero
abbrev pub EndsOtherwise : List ℕ → Type 0
EndsOtherwise [] = Unit {0}
EndsOtherwise (x ∷ []) = x ≢ 0
EndsOtherwise (x ∷ y ∷ xs) = EndsOtherwise (y ∷ xs)

-- zeros at the end are dropped, all of them and nothing else
abbrev pub DropsLastZeros : Type 0
DropsLastZeros =
    (xs : List ℕ) → EndsOtherwise (without_last_zeros xs) × ((n : ℕ) × (without_last_zeros xs ++ replicate n 0 ≡ xs))

-- at most half as much again
abbrev pub PacksShort : Type 0
PacksShort = (xs : List ℕ) → 2 * length (packed xs) ≤ 3 * length xs
