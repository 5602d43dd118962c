use Rattle.std.proofs.Common.{◌≡◌, false, take}
use Rattle.std.specs.List.{list_any}
use Rattle.zk_notes.specs.Counts.{is_finding}
use Rattle.zk_notes.proofs.counts.has_finding.Given as goal

abbrev pub invariant-loop-fact : goal.invariant-loop-fact
invariant-loop-fact l = list_any is_finding (take l.fact-index l.facts) ≡ false
