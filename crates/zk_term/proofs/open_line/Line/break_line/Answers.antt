use Rattle.std.proofs.Common.{◌≡◌, ◌∙◌, ◌-◌, ap, drop, take, length, refl}
use Rattle.std.proofs.lemmas.List.{take_rest}
use Rattle.zk_term.proofs.open_line.Line.break_line.Goals as goal

pub returns : goal.returns
returns g c =
    let word : take (length c.as_slice.result.now - 1) (drop 1 c.as_slice.result.now) ≡ drop 1
    c.args.self.now.held.items =
    take_rest c.as_slice.result.now 1 ∙ ap (drop 1) c.as_slice.ensures.value in
    let both = g.met.P.LineWriter.twice _ _ _ _ _ (g.met.P.LineWriter.twice _ _ _ _ _ c.write.ensures
    c.write-2.ensures) c.write-3.ensures in record {
      width = refl;
      kind = refl;
      room = c.saturating_sub-self.ensures ∙ rw (c.all_columns_of.ensures.value, c.columns_of.ensures.value, word) refl;
      held = c.clear.ensures;
      wrote_all = rw word at both;
    }
