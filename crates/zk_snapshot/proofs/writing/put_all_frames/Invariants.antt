use Rattle.std.proofs.Common.{◌≡◌, ◌++◌, take}
use Rattle.std.specs.Prelude.{reverse}
use Rattle.std.specs.List.{flat_map}
use Rattle.zk_state.specs.Frames.{frames_of}
use Rattle.zk_snapshot.specs.Snapshots.{frame_bytes}
use Rattle.zk_snapshot.proofs.writing.put_all_frames.Given as goal

abbrev pub invariant-loop-number : goal.invariant-loop-number
invariant-loop-number l =
    l.out.items ≡ l.fn.out.items ++ flat_map frame_bytes (take l.number (reverse (frames_of l.frames)))
