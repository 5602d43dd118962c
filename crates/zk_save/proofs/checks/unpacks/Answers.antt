use Rattle.std.proofs.Common.{refl, arith}
use Rattle.std.specs.Prelude.{is_some}
use Rattle.zk_save.specs.Unpacking.{unpacked}
use Rattle.zk_save.proofs.Stories.{room_start, room_run, room_zero, room_byte, room_past, room_end, room_lone}
use Rattle.zk_save.proofs.checks.unpacks.Goals as goal

pub loop-byte-init : goal.loop-byte-init
loop-byte-init c = record { rest = room_start c.args.most c.args.packed.now; low = omega arith }

pub returns-then-at-most : goal.returns-then-at-most
returns-then-at-most c = room_past (is_some (unpacked c.args.most c.args.packed.now)) c.args.packed.now
    c.loop-byte.byte-index c.args.most c.loop-byte.at c.loop-byte.run c.if-at-most.true c.loop-byte.invariant.rest

pub loop-byte-preserved-then-run : goal.loop-byte-preserved-then-run
loop-byte-preserved-then-run c = record {
  rest =
      let rest = rw c.if-run.true at c.loop-byte.invariant.rest in
      room_run (is_some (unpacked c.args.most c.args.packed.now)) c.args.packed.now c.loop-byte.byte-index
      c.args.most c.loop-byte.at _ c.loop-byte-test.true refl rest;
  low = omega (arith, c.if-at-most.false);
}

pub loop-byte-preserved-then-byte-eq0 : goal.loop-byte-preserved-then-byte-eq0
loop-byte-preserved-then-byte-eq0 c = record {
  rest =
      let rest = rw c.if-run.false at c.loop-byte.invariant.rest in
      room_zero (is_some (unpacked c.args.most c.args.packed.now)) c.args.packed.now c.loop-byte.byte-index
      c.args.most c.loop-byte.at _ c.loop-byte-test.true refl c.if-byte-eq0.true rest;
  low = c.loop-byte.invariant.low;
}

pub loop-byte-preserved : goal.loop-byte-preserved
loop-byte-preserved c = record {
  rest =
      let rest = rw c.if-run.false at c.loop-byte.invariant.rest in
      rw c.if-run.false (room_byte (is_some (unpacked c.args.most c.args.packed.now)) c.args.packed.now
      c.loop-byte.byte-index c.args.most c.loop-byte.at _ c.loop-byte-test.true refl c.if-byte-eq0.false rest);
  low = omega (arith, c.if-at-most.false);
}

pub returns-then-not-run : goal.returns-then-not-run
returns-then-not-run c =
    let rest = rw c.if-not-run.true at c.loop-byte.invariant.rest in
    room_end (is_some (unpacked c.args.most c.args.packed.now)) c.args.packed.now c.loop-byte.byte-index
    c.args.most c.loop-byte.at c.loop-byte-test.false rest

pub returns-else-not-run : goal.returns-else-not-run
returns-else-not-run c =
    let rest = rw c.if-not-run.false at c.loop-byte.invariant.rest in
    rw c.if-not-run.false (room_lone (is_some (unpacked c.args.most c.args.packed.now)) c.args.packed.now
    c.loop-byte.byte-index c.args.most c.loop-byte.at c.loop-byte-test.false rest)
