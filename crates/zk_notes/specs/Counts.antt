-- Findings, counted by their kinds.
use Rattle.std.specs.Prelude.{ℕ, ◌-◌, ◌^◌, ◌==◌, Bool, true, false, min}
use Rattle.zk_inspect.specs.FindingLines.{finding_number}
use Rattle.zk_inspect.specs.declared.fact.Fact.{Fact}
use Rattle.zk_inspect.specs.declared.fact.Fact.TheVariants as fact

-- a count stays at the greatest number of 64 bits
abbrev pub capped : ℕ → ℕ
capped n = min n (2 ^ 64 - 1)

-- a fact is a finding of the kind of a number
abbrev pub is_of : ℕ → Fact → Bool
is_of n (fact.Finding f) = finding_number f.number == n
is_of n _ = false

-- a fact is a finding
abbrev pub is_finding : Fact → Bool
is_finding (fact.Finding f) = true
is_finding _ = false
