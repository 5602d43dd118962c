use Rattle.std.proofs.Common.{◌∙◌, ap, sym, refl}
use Rattle.zk_text.specs.Extra.{own_characters}
use Rattle.zk_step.specs.Printing.{characters_of}
use Rattle.zk_step.specs.Routing.{stored_all}
use Rattle.zk_step.proofs.HalfStarts.{for_screen, for_table, for_upper, whole_stands, whole_units, whole_upper}
use Rattle.zk_step.proofs.output.routing.begin_half.Goals as goal

pub returns-in-Some-clause-ok : goal.returns-in-Some-clause-ok
returns-in-Some-clause-ok c =
    let m = c.args.game.now.memory in
    let o = c.args.begun.now.effect.output in (
      whole_stands m o c.args.rest c.requires.whole c.requires.ready,
      c.requires.plain,
      for_table _ _ c.in-Some.field-0 _ _ _ _ _ _ (sym c.newest.ensures ∙ c.in-Some.is)
          (rw c.clear.ensures (ap (stored_all (own_characters m)) (whole_units m o c.args.rest c.requires.whole))),
    )

pub returns-in-Ok-clause-ok : goal.returns-in-Ok-clause-ok
unfolding characters_of
returns-in-Ok-clause-ok c =
    let w = c.args.game.now in
    let o = c.args.begun.now.effect.output in (
      whole_stands w.memory o c.args.rest c.requires.whole c.requires.ready,
      c.requires.plain,
      for_screen _ _ _ _ _ _ _ _ (sym c.newest.ensures ∙ c.in-None.is) (sym c.selected.ensures ∙ c.in-Lower.is)
          (rw (whole_units w.memory o c.args.rest c.requires.whole) refl) c.in-Ok.ensures.ok,
    )

pub returns-in-Upper-clause-ok : goal.returns-in-Upper-clause-ok
returns-in-Upper-clause-ok c =
    let w = c.args.game.now in
    let o = c.args.begun.now.effect.output in (
      whole_stands w.memory o c.args.rest c.requires.whole c.requires.ready,
      c.requires.plain,
      for_upper _ _ _ _ _ _ _ _ (sym c.newest.ensures ∙ c.in-None.is) (sym c.selected.ensures ∙ c.in-Upper.is)
          (rw c.copy_from.ensures (whole_upper w.streams.screen w.memory o c.args.rest w.windows c.requires.whole)),
    )
