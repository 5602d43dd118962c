use Rattle.std.proofs.Common.{◌≡◌}
use Rattle.zk_state.specs.Frames.{bounds_of}
use Rattle.zk_snapshot.proofs.reading.fill_frames.Given as goal

abbrev pub invariant-loop-number : goal.invariant-loop-number
invariant-loop-number l = bounds_of l.frames ≡ bounds_of l.fn.frames
