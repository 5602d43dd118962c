use Rattle.std.proofs.Common.{[], ◌∷◌, ◌++◌}
use Rattle.zk_text.specs.declared.unit.Unit.TheVariants.{Code}
use Rattle.zk_step.specs.Status.{code_units, figures}
use Rattle.zk_step.proofs.output.giving.give_status.Goals as goal

pub returns : goal.returns
returns g c = λ units named.
    let twice = g.met.K.Sink.twice in
    let figs = code_units (figures c.args.line.is_time c.args.line.first c.args.line.second) in
    let last = twice c.give_name.new.sink c.give_all-2.new.sink c.give_figures.new.sink (Code 93 ∷ Code 32 ∷ [])
    figs c.give_all-2.ensures c.give_figures.ensures in
    let middle = twice c.give_all.new.sink c.give_name.new.sink c.give_figures.new.sink units
    (Code 93 ∷ Code 32 ∷ figs) (c.give_name.ensures units named) last in
    twice c.args.sink.now c.give_all.new.sink c.give_figures.new.sink (Code 91 ∷ [])
    (units ++ Code 93 ∷ Code 32 ∷ figs) c.give_all.ensures middle
