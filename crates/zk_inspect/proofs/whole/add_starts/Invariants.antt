use Rattle.std.proofs.Common.{◌≡◌, ◌++◌, take}
use Rattle.std.specs.Prelude.{option_to_list}
use Rattle.std.specs.List.{flat_map}
use Rattle.zk_code.specs.Routines.{code_start}
use Rattle.zk_inspect.proofs.whole.add_starts.Given as goal

abbrev pub invariant-loop-routine : goal.invariant-loop-routine
invariant-loop-routine l =
    l.roots ≡ l.fn.roots ++ flat_map (λ r. option_to_list (code_start l.memory r)) (take l.routine-index l.routines)
