use Rattle.std.proofs.Common.{◌≡◌, take, count_by}
use Rattle.zk_notes.specs.Counts.{capped, is_of}
use Rattle.zk_notes.proofs.counts.count_of.Given as goal

abbrev pub invariant-loop-fact : goal.invariant-loop-fact
invariant-loop-fact l = l.count ≡ capped (count_by (is_of l.number) (take l.fact-index l.facts))
