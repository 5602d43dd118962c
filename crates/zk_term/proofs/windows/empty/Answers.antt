use Rattle.std.proofs.Common.{◌∙◌, ap, arith, Bool, cond, get_or, length, sym, inl, inr}
use Rattle.std.proofs.lemmas.Bool.{cases_lt}
use Rattle.std.proofs.lemmas.List.{get_or_past}
use Rattle.zk_term.specs.Grid.{blank}
use Rattle.zk_term.proofs.Blanks.{either}
use Rattle.zk_term.proofs.Grids.{emptied_end, reached_end}
use Rattle.zk_term.proofs.windows.empty.Goals as goal

pub returns-clause-value : goal.returns-clause-value
returns-clause-value c = λ k. elim (cases_lt k (length c.args.cells.now.items)) [
  | inl within ↦
      c.loop-k.invariant.value k
      ∙ ap (λ (b : Bool). cond b blank (get_or c.args.cells.now.items k blank))
      (emptied_end c.args.from c.min-end.result c.args.to c.loop-k.k k c.len.result c.min-end.ensures
      c.loop-k-test.false (reached_end c.args.from c.min-end.result c.loop-k.k c.loop-k.auto.k-end
      c.loop-k.invariant.none) (omega (arith, c.len.ensures, c.args.cells.now.ok.0)))
  | inr past ↦
      let e = get_or_past c.args.cells.now.items k blank past in
      c.loop-k.invariant.value k ∙ (either _ (get_or c.args.cells.now.items k blank) e
      ∙ sym (either _ (get_or c.args.cells.now.items k blank) e))
]
