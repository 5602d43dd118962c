use Rattle.std.proofs.Common.{◌≡◌, ◌++◌, take, drop}
use Rattle.zk_save.specs.States.{states_in, AreOf}
use Rattle.zk_state.specs.Frames.{bounds_of}
use Rattle.zk_snapshot.specs.Snapshots.{fitting}
use Rattle.zk_snapshot.proofs.states.fitting.Given as goal

abbrev pub invariant-loop-count : goal.invariant-loop-count
invariant-loop-count l = record {
  fit : take l.count (states_in l.memory.file l.undo) ++ fitting l.memory.file l.left
      (drop l.count (states_in l.memory.file l.undo)) ≡ fitting l.memory.file l.fn.most
      (states_in l.memory.file l.undo);
  bounds : bounds_of l.frames ≡ bounds_of l.fn.frames;
  are_of : AreOf l.memory l.frames l.undo;
}
