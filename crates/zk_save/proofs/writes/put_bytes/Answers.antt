use Rattle.std.proofs.Common.{arith}
use Rattle.zk_save.proofs.Filling.{bytes_step}
use Rattle.zk_save.proofs.writes.put_bytes.Goals as goal

pub loop-i-preserved : goal.loop-i-preserved
loop-i-preserved c =
    bytes_step c.set_byte.result c.args.memory.now c.loop-i.memory c.set_byte.new.self c.args.bytes.now c.loop-i.i
    c.loop-i-test.true c.requires
    (omega (arith, c.dynamic.ensures.within, c.len.ensures.same)) c.dynamic.ensures.small c.loop-i.invariant
    c.set_byte.ensures
