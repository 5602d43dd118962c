use Rattle.std.proofs.Common.{◌≡◌, ◌+◌, drop}
use Rattle.zk_tables.specs.Tokens.{run}
use Rattle.zk_tables.proofs.tokens.run_length.Given as goal

abbrev pub invariant-loop-at : goal.invariant-loop-at
invariant-loop-at l =
    l.position + run l.separators (drop l.position l.text) ≡ l.at + run l.separators (drop l.at l.text)
