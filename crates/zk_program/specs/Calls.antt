-- Which calls are told, where more are open than are told.
use Rattle.std.specs.Prelude.{ℕ, ◌-◌, ◌||◌, Bool, nat_lt, nat_le}

-- of at most sixteen all are told, and of more the eight innermost ones, whose numbers are lowest, and the first eight
abbrev pub is_told : ℕ → ℕ → Bool
is_told number depth = nat_le depth 16 || (nat_lt number 8 || nat_le (depth - number) 8)
