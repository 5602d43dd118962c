use Rattle.std.proofs.Common.{◌≡◌}
use Rattle.zk_save.specs.States.{AreOf}
use Rattle.zk_state.specs.Frames.{bounds_of}
use Rattle.zk_snapshot.proofs.reading.fill_states.Given as goal

abbrev pub invariant-loop-i : goal.invariant-loop-i
invariant-loop-i l = record {
  story : (l.memory.file ≡ l.fn.memory.file) × (l.memory.setup ≡ l.fn.memory.setup);
  bounds : bounds_of l.frames ≡ bounds_of l.fn.frames;
  most : l.undo.most ≡ l.fn.undo.most;
  are_of : AreOf l.memory l.frames l.undo;
}
