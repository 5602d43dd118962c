use Rattle.std.proofs.Common.{◌∙◌, inl, inr, sym, refl}
use Rattle.std.proofs.lemmas.Bool.{leb-true, leb-false}
use Rattle.zk_host.proofs.Collecting.{collects_lost, collects_marked, collects_screen_part, lost_screen}
use Rattle.zk_host.proofs.collected.CollectedScreen.text.Goals as goal

pub returns-then-is_lost : goal.returns-then-is_lost
returns-then-is_lost c =
    collects_lost _ _ _ (sym c.is_lost.ensures ∙ c.if-is_lost.true) refl refl refl refl refl (λ e. inl e)

pub returns-then-is_overfull : goal.returns-then-is_overfull
returns-then-is_overfull c =
    collects_lost _ _ _ refl refl refl refl refl refl
    (λ e. inr (leb-true _ _ (sym c.is_overfull.ensures ∙ c.if-is_overfull.true)))

pub returns-in-Ok : goal.returns-in-Ok
returns-in-Ok c =
    let works = sym c.is_lost.ensures ∙ c.if-is_lost.false in
    let few = leb-false _ _ (sym c.is_overfull.ensures ∙ c.if-is_overfull.false) in
    collects_marked _ _ _ _ _ _ works few c.in-Ok.ensures.all c.mark.ensures.same c.mark.ensures.marked
    c.keep_screen_room.ensures

pub returns-in-Err : goal.returns-in-Err
returns-in-Err c =
    let works = sym c.is_lost.ensures ∙ c.if-is_lost.false in
    let few = leb-false _ _ (sym c.is_overfull.ensures ∙ c.if-is_overfull.false) in
    let lost = lost_screen _ _ _ c.in-Err.ensures.failed in
    record {
      texts = collects_screen_part _ _ c.args.c works lost refl refl refl few c.in-Err.ensures.part;
      marks = λ kept. let never = sym kept ∙ lost in absurd cc;
      kept = refl;
      told = refl;
    }
