use Rattle.std.proofs.Common.{◌∙◌, refl}
use Rattle.std.proofs.lemmas.List.{take_all, take_more}
use Rattle.zk_term.proofs.Wraps.{takes_nothing, takes_twice}
use Rattle.zk_term.proofs.open_line.Line.take_all.Goals as goal

pub loop-byte-init : goal.loop-byte-init
loop-byte-init g c = record { width = refl; taken = takes_nothing g.P.LineWriter.wrote g.met.P.LineWriter.nothing _ _ }

pub loop-byte-preserved : goal.loop-byte-preserved
loop-byte-preserved g c = record {
  width = c.take.ensures.width ∙ c.loop-byte.invariant.width;
  taken = rw (take_more c.args.bytes.now c.loop-byte.byte-index 0 c.loop-byte-test.true)
      (takes_twice g.P.LineWriter.wrote g.met.P.LineWriter.twice _ _ _ _ _ _ _ _ c.loop-byte.invariant.taken
      c.take.ensures.taken);
}

pub returns-clause-taken : goal.returns-clause-taken
returns-clause-taken g c =
    rw (take_all c.loop-byte.byte-index c.args.bytes.now c.loop-byte-test.false) at c.loop-byte.invariant.taken
