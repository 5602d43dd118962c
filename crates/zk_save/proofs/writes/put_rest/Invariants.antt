use Rattle.std.proofs.Common.{◌≡◌, ◌++◌, List, Some, length}
use Rattle.std.specs.Prelude.{reverse}
use Rattle.zk_state.specs.Frames.{Frame, frames_of, bounds_of}
use Rattle.zk_save.specs.Counted.{frames_rest, FindRoom}
use Rattle.zk_save.proofs.Filling.{Left}
use Rattle.zk_save.proofs.writes.put_rest.Given as goal

-- what is left finds room, and makes the whole after what there is
abbrev pub invariant-loop-rest : goal.invariant-loop-rest
invariant-loop-rest l = record {
  room : FindRoom (frames_rest l.rest) l.frames;
  bounds : bounds_of l.frames ≡ bounds_of l.fn.frames;
  left : (fs : List Frame) → frames_rest l.bytes ≡ Some fs → Left (frames_rest l.rest) l.frames
      (reverse fs ++ frames_of l.fn.frames);
}

abbrev pub decreases-loop-rest : goal.decreases-loop-rest
decreases-loop-rest l = length l.rest
