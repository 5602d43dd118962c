use Rattle.std.proofs.Common.{length, arith, ap}
use Rattle.zk_save.specs.Packing.{packed}
use Rattle.zk_save.proofs.Packs.{pack_start, pack_end}
use Rattle.zk_save.proofs.RoundTrip.{packs_short}
use Rattle.zk_save.proofs.packing.pack.Goals as goal

pub loop-byte-init : goal.loop-byte-init
loop-byte-init c =
    record { whole = pack_start c.args.bytes.now c.new-out.result.items c.new-out.ensures.items; few = omega arith }

pub returns-clause-value : goal.returns-clause-value
returns-clause-value c = pack_end c.args.bytes.now c.loop-byte.out.items (packed c.args.bytes.now)
    c.loop-byte.zeros c.loop-byte.byte-index c.loop-byte-test.false c.loop-byte.invariant.whole

pub returns-clause-short : goal.returns-clause-short
returns-clause-short c =
    let whole = pack_end c.args.bytes.now c.loop-byte.out.items (packed c.args.bytes.now) c.loop-byte.zeros
    c.loop-byte.byte-index c.loop-byte-test.false c.loop-byte.invariant.whole in
    omega (arith, ap length whole, packs_short c.args.bytes.now)
