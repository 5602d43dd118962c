use Rattle.std.proofs.Common.{◌≡◌, ◌++◌, ◌∷◌, [], take}
use Rattle.std.specs.Prelude.{reverse}
use Rattle.std.specs.List.{flat_map}
use Rattle.zk_save.specs.States.{states_in, AreOf}
use Rattle.zk_snapshot.specs.Snapshots.{kept_bytes}
use Rattle.zk_snapshot.proofs.states.put_states.Given as goal

abbrev pub invariant-loop-k : goal.invariant-loop-k
invariant-loop-k l = record {
  written : l.out.items ≡ (l.fn.out.items ++ l.count ∷ []) ++ flat_map (kept_bytes l.memory.file)
      (take l.k (reverse (take l.count (states_in l.memory.file l.undo))));
  are_of : AreOf l.memory l.frames l.undo;
}
