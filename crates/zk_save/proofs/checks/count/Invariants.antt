use Rattle.std.proofs.Common.{◌≡◌, ◌+◌, ◌*◌, ◌≤◌, length}
use Rattle.std.specs.Prelude.{option_map}
use Rattle.zk_save.specs.Reading.{frames_read}
use Rattle.zk_save.specs.Counted.{frames_rest, sizes_in}
use Rattle.zk_save.proofs.FrameRuns.{sizes_after}
use Rattle.zk_save.proofs.checks.count.Given as goal

-- what was counted and what the rest has are the whole
abbrev pub invariant-loop-rest : goal.invariant-loop-rest
invariant-loop-rest l = record {
  whole : option_map (sizes_after l.frames l.words) (frames_rest l.rest) ≡ option_map sizes_in (frames_read l.stack);
  few : 8 * l.frames + l.words + length l.rest ≤ length l.stack;
}

abbrev pub decreases-loop-rest : goal.decreases-loop-rest
decreases-loop-rest l = length l.rest
