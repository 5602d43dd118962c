use Rattle.std.proofs.Common.{refl, arith}
use Rattle.zk_save.proofs.Numbers.{number_step, number_small, number_fits}
use Rattle.zk_save.proofs.reading.number.Goals as goal

pub overflow_mul-number : goal.overflow_mul-number
overflow_mul-number c =
    omega (
      arith,
      number_fits c.loop-byte.number c.loop-byte.byte-index c.loop-byte.invariant.small
          (omega (arith, c.requires, c.loop-byte-test.true)),
    )

pub loop-byte-preserved : goal.loop-byte-preserved
loop-byte-preserved c = record {
  whole = number_step c.args.bytes.now c.loop-byte.number c.loop-byte.byte-index _ c.loop-byte-test.true
      refl c.loop-byte.invariant.whole;
  small = number_small c.loop-byte.number c.loop-byte.byte-index _ c.loop-byte.invariant.small (omega arith);
}
