use Rattle.std.proofs.Common.{◌≡◌, ◌+◌, ◌-◌}
use Rattle.zk_tables.specs.Chain.{chain_from, how_many}
use Rattle.zk_tables.proofs.ChainSteps.{after_them}
use Rattle.zk_tables.proofs.chain.count_chain.Given as goal

-- those that were met and those that are left are the whole chain, and one link was read for each that was met
abbrev pub invariant-loop-i : goal.invariant-loop-i
invariant-loop-i l = record {
  whole : after_them l.i (chain_from l.memory (l.most - l.i) l.at) ≡ how_many
      (chain_from l.memory l.fn.most l.fn.first);
  counted : l.links ≡ l.fn.links + l.i;
}
