use Rattle.std.proofs.Common.{◌∙◌, ◌+◌, ◌≤◌, List, length, ap, arith}
use Rattle.std.specs.Prelude.{reverse}
use Rattle.std.proofs.lemmas.List.{length-reverse}
use Rattle.zk_state.specs.Frames.{Frame, frames_of}
use Rattle.zk_save.proofs.Saves.{stack_end, length_stack, sizes_reversed}
use Rattle.zk_save.proofs.save.stack_of.Goals as goal

pub returns-clause-len : goal.returns-clause-len
returns-clause-len c =
    let fs : List Frame = frames_of c.args.frames.now in
    let all : length (reverse fs) ≤ c.loop-number.number + 1 = omega (
      arith,
      length-reverse fs,
      c.depth-depth.ensures.value,
      c.loop-number-test.false,
    ) in
    let out = c.loop-number.invariant ∙ stack_end (reverse fs) c.loop-number.number all in
    omega (
      arith,
      ap length out,
      length_stack (reverse fs),
      sizes_reversed fs,
      length-reverse fs,
      c.depth-depth.ensures.bounded.frames,
    )
