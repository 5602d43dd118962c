use Rattle.std.proofs.Common.{◌≡◌, ◌+◌, ◌-◌}
use Rattle.zk_tables.specs.Tree.{naming_among}
use Rattle.zk_tables.proofs.ChainSteps.{naming_from}
use Rattle.zk_tables.proofs.chain.find_naming.Given as goal

abbrev pub invariant-loop-i : goal.invariant-loop-i
invariant-loop-i l = record {
  rest : naming_from l.memory (l.most - l.i) l.named l.place l.fn.object ≡ naming_among l.memory l.fn.parent
      l.fn.object;
  counted : l.links ≡ l.fn.links + 1 + l.i;
}
