use Rattle.std.proofs.Common.{rules}
use Rattle.zk_text.specs.Extra.{own_characters}
use Rattle.zk_step.specs.Halves.{rest_units}
use Rattle.zk_step.proofs.HalfTexts.{codes_on}
use Rattle.zk_step.proofs.output.parts.collect_part.Goals as goal

pub returns-in-Ok-clause-on : goal.returns-in-Ok-clause-on
returns-in-Ok-clause-on c = λ more.
    let here = rw more at c.in-Ok.ensures.ok in
    let name = here.gives.0 in
    let on = codes_on (own_characters c.args.memory.now) c.args.codes.now _ here.units
    (rest_units c.args.memory.now c.args.rest.now) (rest_units c.args.memory.now c.give_part.new.rest)
    (rw c.of-extra.ensures at here.gives.2) here.is in
    search (rules, name, on)
