use Rattle.std.proofs.Common.{◌≡◌, length}
use Rattle.zk_code.specs.Ends.{AreEnds}
use Rattle.zk_code.proofs.ends.TextEnds.find.Given as goal

abbrev pub invariant-loop-behind : goal.invariant-loop-behind
invariant-loop-behind l = record {
  known : AreEnds l.memory l.blocks.items;
  size : length l.blocks.items ≡ l.count;
}
