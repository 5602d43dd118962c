use Rattle.std.proofs.Common.{◌∙◌, sym, refl}
use Rattle.zk_term.proofs.Wraps.{letter_goes_out, letter_is_held, letter_breaks_line, no_bytes, some_bytes}
use Rattle.zk_term.proofs.open_line.Line.take_letter.Goals as goal

pub returns-then-is_empty-clause-taken : goal.returns-then-is_empty-clause-taken
returns-then-is_empty-clause-taken g c e =
    let none = no_bytes _ (sym c.is_empty.ensures ∙ c.if-is_empty.true) in record {
      text = _;
      is =
          λ h. letter_goes_out _ _ c.args.byte none refl refl (rw c.columns_of.ensures.value at
          c.saturating_sub-self.ensures) none e;
      given = c.write.ensures;
    }

pub returns-then-not-hold-clause-taken : goal.returns-then-not-hold-clause-taken
returns-then-not-hold-clause-taken g c e =
    letter_breaks_line g.P.LineWriter.wrote _ _ _ _ _ c.args.byte
    (some_bytes _ (sym c.is_empty.ensures ∙ c.if-is_empty.false)) (c.hold.ensures.full c.if-not-hold.true)
    c.break_line.ensures e

pub returns-else-not-hold-clause-taken : goal.returns-else-not-hold-clause-taken
returns-else-not-hold-clause-taken g c e = record {
  text = _;
  is = letter_is_held _ _ c.args.byte (some_bytes _ (sym c.is_empty.ensures ∙ c.if-is_empty.false))
      (c.hold.ensures.held c.if-not-hold.false) e;
  given = g.met.P.LineWriter.nothing _;
}
