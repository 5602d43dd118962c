use Rattle.std.proofs.Common.{◌≡◌, ◌∙◌, true, sym, ap, eqb}
use Rattle.std.proofs.lemmas.Iterator.Consumers.{YieldsList-turn, YieldsList-end}
use Rattle.std.proofs.lemmas.Iterator.Splits.{YieldsList-from_lines}
use Rattle.std.proofs.lemmas.List.Filters.{dedup_is}
use Rattle.std.proofs.lemmas.List.Folds.{list_any_at}
use Rattle.std.specs.List.{list_any}
use Rattle.std.specs.Str.Lines.{lines}
use Rattle.zk_notes.specs.Union.{address_on, is_foreign}
use Rattle.zk_notes.proofs.LineLoops.{picked_on, none_on}
use Rattle.zk_notes.proofs.Unions.{union_is}
use Rattle.zk_notes.proofs.cover.addresses_in.Goals as goal

pub returns-then-is_foreign-clause-none : goal.returns-then-is_foreign-clause-none
returns-then-is_foreign-clause-none c =
    let t = YieldsList-turn (YieldsList-from_lines c.args.text.now cc) c.loop-line.yielded _
    c.loop-line.yielded_by _ _ c.in-Some.line c.in-Some.is c.next.ensures.steps in
    let e : is_foreign c.args.story.now c.in-Some.line.now ≡ true = sym c.is_foreign.ensures ∙ c.if-is_foreign.true in
    sym (list_any_at (is_foreign c.args.story.now) (lines c.args.text.now) _ _ t.0
    (ap (is_foreign c.args.story.now) (sym t.1) ∙ e))

pub loop-line-preserved : goal.loop-line-preserved
loop-line-preserved c = (
  rw (
    picked_on (λ x. x.now) address_on c.loop-line.yielded c.in-Some.line,
    sym c.loop-line.invariant.0,
    sym c.address_on.ensures,
  ) c.in_ok-push_found.ensures,
  none_on (λ x. x.now) (is_foreign c.args.story.now) c.loop-line.yielded c.in-Some.line c.loop-line.invariant.1
      (sym c.is_foreign.ensures ∙ c.if-is_foreign.false),
)

pub returns-clause-none : goal.returns-clause-none
returns-clause-none c =
    let t = YieldsList-end (YieldsList-from_lines c.args.text.now cc) c.loop-line.yielded _ c.loop-line.yielded_by
    _ _ c.in-None.is c.next.ensures.steps in
    sym (ap (list_any (is_foreign c.args.story.now)) (sym t.0) ∙ c.loop-line.invariant.1)

pub returns-clause-union : goal.returns-clause-union
returns-clause-union c =
    let t = YieldsList-end (YieldsList-from_lines c.args.text.now cc) c.loop-line.yielded _ c.loop-line.yielded_by
    _ _ c.in-None.is c.next.ensures.steps in
    rw (dedup_is eqb c.sort_unstable.new.self.items c.dedup.new.self.items c.dedup.ensures.filtered)
    (union_is c.loop-line.addresses.items c.sort_unstable.new.self.items (lines c.args.text.now)
    (rw t.0 at c.loop-line.invariant.0) c.sort_unstable.ensures.permutation c.sort_unstable.ensures.sorted)
