use Rattle.std.proofs.Common.{arith, ◌<◌, length}
use Rattle.zk_host.proofs.Seeing.{no_frame}
use Rattle.zk_host.proofs.looking.put_stack.Goals as goal

pub returns-then-number-depth : goal.returns-then-number-depth
returns-then-number-depth c =
    let past : length c.args.machine.now.state.game.frames.callers < c.args.number = omega (
      arith,
      c.depth.ensures,
      c.if-number-depth.true,
    ) in
    rw (no_frame c.args.machine.now c.args.number past) c.put_words.ensures
