use Rattle.std.proofs.Common.{◌∙◌, sym}
use Rattle.zk_text.specs.Extra.{own_characters}
use Rattle.zk_step.specs.Halves.{rest_units, upper_rest}
use Rattle.zk_step.proofs.HalfRows.{units_on, upper_end}
use Rattle.zk_step.proofs.output.parts.print_upper_part.Goals as goal

pub returns-else-not-on-clause-on : goal.returns-else-not-on-clause-on
unfolding rest_units upper_rest
returns-else-not-on-clause-on c = λ more.
    rw (c.in-Text.is, c.if-not-on.false) (units_on (own_characters c.args.memory.now) c.args.windows.now
    c.print_text_part-more.new.windows _ _ (c.print_text_part-more.ensures.on more))

pub returns-else-not-on-clause-off : goal.returns-else-not-on-clause-off
unfolding rest_units upper_rest
returns-else-not-on-clause-off c =
    λ over. rw (c.in-Text.is, c.if-not-on.false) (c.print_text_part-more.ensures.off over)

pub returns-in-Rows-clause-off : goal.returns-in-Rows-clause-off
unfolding rest_units upper_rest
returns-in-Rows-clause-off c = λ over.
    let stands = rw c.in-Rows.is at c.requires.stands in
    let end = upper_end c.args.on (own_characters c.args.memory.now) c.args.column c.print_some_rows-more.new.row
    c.args.memory.now c.in-Rows.rectangle c.print_some_rows-more.new.windows stands.0
    (c.print_some_rows-more.ensures.off over) in
    rw c.in-Rows.is (sym end ∙ c.print_some_rows-more.ensures.value)
