use Rattle.std.proofs.Common.{◌≡◌, ◌+◌, ◌-◌, ◌*◌, ◌++◌, length, drop}
use Rattle.zk_step.specs.Routines.{initial_values, with_arguments}
use Rattle.zk_step.proofs.state.call.locals_of.Given as goal

abbrev pub invariant-loop-k : goal.invariant-loop-k
invariant-loop-k l = record {
  so_far : l.locals.items ++ with_arguments (initial_values l.memory l.at (l.count - l.k))
      (drop l.k l.arguments) ≡ with_arguments (initial_values l.memory l.values l.count) l.arguments;
  many : length l.locals.items ≡ l.k;
  pc : l.at ≡ l.values + 2 * l.k;
}
