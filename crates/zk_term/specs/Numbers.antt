-- Numbers as they are shown.
use Rattle.std.specs.Prelude.{ℕ, ◌+◌, ◌/◌, ◌%◌, ◌^◌, List, [], ◌∷◌, map, drop, nat_lt, if◌then◌else◌}

-- the hexadecimal digit of a number below 16: 0 to 9 (48 on) and a to f (97 on)
abbrev pub hex_digit : ℕ → ℕ
hex_digit n = if nat_lt n 10 then 48 + n else 87 + n

-- the eight hexadecimal digits of a number of 32 bits
unfoldable pub hex_digits : ℕ → List ℕ
hex_digits n = map (λ k. hex_digit (n / 16 ^ k % 16)) (7 ∷ 6 ∷ 5 ∷ 4 ∷ 3 ∷ 2 ∷ 1 ∷ 0 ∷ [])

-- how many zeros are left out of eight digits, so that five are left at least
abbrev pub zeros_left_out : ℕ → ℕ
zeros_left_out n =
    if nat_lt n 0x10_0000 then 3 else if nat_lt n 0x100_0000 then 2 else if nat_lt n 0x1000_0000 then 1 else 0

-- an address: its hexadecimal digits, at least five
unfoldable pub address_digits : ℕ → List ℕ
address_digits a = drop (zeros_left_out a) (hex_digits a)

-- a word: four hexadecimal digits
unfoldable pub word_digits : ℕ → List ℕ
word_digits n = drop 4 (hex_digits n)

-- a byte: two hexadecimal digits
unfoldable pub byte_digits : ℕ → List ℕ
byte_digits n = drop 6 (hex_digits n)
