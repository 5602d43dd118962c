-- Signed words.
use Rattle.std.specs.Prelude.{◌-◌, ℕ, nat_lt, if◌then◌else◌}

-- a signed word without its sign (section 2.2)
abbrev pub magnitude : ℕ → ℕ
magnitude word = if nat_lt word 32768 then word else 65536 - word
