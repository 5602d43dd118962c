use Rattle.std.proofs.Common.{◌≡◌, ◌+◌, take}
use Rattle.std.specs.Prelude.{reverse}
use Rattle.zk_state.specs.Frames.{frames_of}
use Rattle.zk_save.specs.Quetzal.{stack_content}
use Rattle.zk_save.proofs.save.stack_of.Given as goal

abbrev pub invariant-loop-number : goal.invariant-loop-number
invariant-loop-number l = l.out.items ≡ stack_content (take (l.number + 1) (reverse (frames_of l.frames)))
