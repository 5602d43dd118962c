use Rattle.std.proofs.Common.{◌≡◌, ◌+◌, ℕ}
use Rattle.zk_text.specs.Sweeps.{IsSweptTo}
use Rattle.zk_inspect.specs.declared.check.finding.Number.TheVariants.{TextPastTheEnd, NestedAbbreviation}
use Rattle.zk_inspect.specs.Findings.{Finds}
use Rattle.zk_inspect.specs.Lists.{IsLastList}
use Rattle.zk_inspect.proofs.check.text_faults.list_failing.Given as goal

abbrev pub invariant-loop-behind : goal.invariant-loop-behind
invariant-loop-behind l = record {
  swept : (a : ℕ) → a + l.behind ≡ 524289 → IsSweptTo l.memory a l.sweep;
  past_end : IsLastList (Finds l.memory TextPastTheEnd) 524289 l.behind l.failing.past_end;
  nested : IsLastList (Finds l.memory NestedAbbreviation) 524289 l.behind l.failing.nested;
}
