-- The numbers that reports name limits by.
use Rattle.std.specs.Prelude.{ℕ}
use Rattle.zk_state.specs.declared.refusal.Limit.{Limit}
use Rattle.zk_state.specs.declared.refusal.Limit.TheVariants.{Frames, Words, Steps, Reads}

-- the number of a limit
abbrev pub limit_number : Limit → ℕ
limit_number Frames = 1
limit_number Words = 2
limit_number Steps = 3
limit_number Reads = 4
