use Rattle.std.proofs.Common.{arith}
use Rattle.zk_names.proofs.Pieces.{last_one, last_piece, one_more}
use Rattle.zk_names.proofs.document.read_pieces.Goals as goal

pub loop-end-preserved : goal.loop-end-preserved
loop-end-preserved c = record {
  end = c.length_before-end-in-loop-end.ensures.value;
  goes = λ after more. c.loop-end.invariant.goes after (one_more c.loop-end.rest.now c.loop-end.end _ _ after
      c.loop-end.invariant.end (omega (arith, c.loop-end-test.true)) c.in_ok-take.ensures more);
  within = omega (arith, c.loop-end.invariant.within);
}

pub returns : goal.returns
returns c = c.loop-end.invariant.goes _ (last_one c.loop-end.rest.now _ _ (last_piece c.loop-end.rest.now
    (omega (arith, c.loop-end.invariant.end, c.loop-end-test.false))) c.in_ok-take-2.ensures)
