use Rattle.std.proofs.Common.{◌≡◌}
use Rattle.zk_state.specs.Frames.{bounds_of}
use Rattle.zk_snapshot.proofs.reading.fill_frame.Given as goal

abbrev pub invariant-loop-k : goal.invariant-loop-k
invariant-loop-k l = bounds_of l.frames ≡ bounds_of l.fn.frames

abbrev pub invariant-loop-i : goal.invariant-loop-i
invariant-loop-i l = bounds_of l.frames ≡ bounds_of l.fn.frames
