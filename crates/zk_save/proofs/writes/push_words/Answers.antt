use Rattle.zk_save.proofs.Filling.{push_start, push_step, push_end}
use Rattle.zk_save.proofs.writes.push_words.Goals as goal

pub loop-i-init : goal.loop-i-init
loop-i-init c = push_start c.args.frames.now

pub loop-i-preserved : goal.loop-i-preserved
loop-i-preserved c = push_step c.push.result c.args.frames.now c.loop-i.frames c.push.new.self c.args.bytes.now
    c.loop-i.i c.is_bounded.ensures.frames c.requires c.loop-i-test.true c.loop-i.invariant c.push.ensures

pub returns : goal.returns
returns c =
    push_end c.args.frames.now c.loop-i.frames c.args.bytes.now c.loop-i.i c.loop-i-test.false c.loop-i.invariant
