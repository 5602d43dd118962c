use Rattle.std.proofs.Common.{sym}
use Rattle.zk_step.proofs.Terminators.{ended, found, none_left, passed_over}
use Rattle.zk_step.proofs.input.terminating.is_among.Goals as goal

pub returns-then-byte-eq0 : goal.returns-then-byte-eq0
returns-then-byte-eq0 c = ended _ _ _ c.loop-byte-test.true c.if-byte-eq0.true c.loop-byte.invariant.so_far

pub returns-then-stands_for : goal.returns-then-stands_for
returns-then-stands_for c = found _ _ _ c.loop-byte-test.true c.if-byte-eq0.false (sym c.if-stands_for.ensures)
    c.loop-byte.invariant.so_far

pub loop-byte-preserved : goal.loop-byte-preserved
loop-byte-preserved c = record {
  so_far = passed_over _ _ _ c.loop-byte-test.true c.if-byte-eq0.false
      (sym c.if-stands_for.ensures) c.loop-byte.invariant.so_far;
}

pub returns : goal.returns
returns c = none_left _ _ _ c.loop-byte-test.false c.loop-byte.invariant.so_far
