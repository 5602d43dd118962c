use Rattle.std.proofs.Common.{◌≡◌, take, map}
use Rattle.zk_coverage.specs.Coverage.{placed}
use Rattle.zk_coverage.proofs.tally.placed_texts.Given as goal

abbrev pub invariant-loop-text : goal.invariant-loop-text
invariant-loop-text l = l.placed.items ≡ map (placed l.names) (take l.text-index l.texts)
