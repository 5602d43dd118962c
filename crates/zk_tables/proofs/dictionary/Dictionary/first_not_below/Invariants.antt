use Rattle.std.proofs.Common.{◌≡◌, ◌≤◌, ◌+◌, ◌-◌}
use Rattle.zk_tables.specs.Halves.{halved}
use Rattle.zk_tables.proofs.dictionary.Dictionary.first_not_below.Given as goal

abbrev pub invariant-loop-compared : goal.invariant-loop-compared
invariant-loop-compared l = record {
  rest : halved l.memory l.self l.key (15 - l.compared) l.compared l.first l.left ≡ halved l.memory l.self l.key
      15 0 0 l.self.entries;
  inside : l.first + l.left ≤ l.self.entries;
}
