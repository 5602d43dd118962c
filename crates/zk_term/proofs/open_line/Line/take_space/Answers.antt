use Rattle.std.proofs.Common.{arith, refl}
use Rattle.zk_term.proofs.Wraps.{space_breaks, space_is_held}
use Rattle.zk_term.proofs.open_line.Line.take_space.Goals as goal

pub returns-then-self-eq0-clause-taken : goal.returns-then-self-eq0-clause-taken
returns-then-self-eq0-clause-taken g c = record {
  text = _;
  is = space_breaks _ _ c.if-self-eq0.true refl refl refl c.clear.ensures;
  given =
      rw c.as_slice.ensures.value at (g.met.P.LineWriter.twice _ _ _ _ _ c.write.ensures c.write-then-self-eq0.ensures);
}

pub returns-clause-taken : goal.returns-clause-taken
returns-clause-taken g c = record {
  text = _;
  is = space_is_held _ _ (omega arith) refl refl refl (rw c.clear.ensures at c.push.ensures.items);
  given = rw c.as_slice.ensures.value at c.write.ensures;
}
