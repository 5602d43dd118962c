use Rattle.std.proofs.Common.{arith, ap, ◌∙◌, slice_get, None}
use Rattle.std.specs.Str.{chars}
use Rattle.zk_term.proofs.Spelling.{first_found, none_more, none_found, steps_on}
use Rattle.zk_term.proofs.lines.first_character.Goals as goal

pub returns-in-Ok : goal.returns-in-Ok
returns-in-Ok c =
    let first = first_found c.args.bytes.now c.in-Ok.text.now c.loop-count.count c.next.result
    c.loop-count.invariant (omega arith) (omega arith) (omega arith) c.in-Ok.ensures.cases.0
    c.in-Ok.ensures.cases.1 (c.next.ensures.steps.2 ∙ ap (λ l. slice_get (chars l) 0) c.chars.ensures.rest) in
    record { value = first; within = (steps_on c.args.bytes.now c.next.result c.requires first).within }

pub loop-count-preserved : goal.loop-count-preserved
loop-count-preserved c =
    none_more c.args.bytes.now c.loop-count.count c.loop-count.invariant c.in_default.ensures.cases.0

pub returns-in_default : goal.returns-in_default
returns-in_default c =
    let none = none_found c.args.bytes.now c.loop-count.count
    (none_more c.args.bytes.now c.loop-count.count c.loop-count.invariant c.in_default.ensures.cases.0)
    (omega arith) in
    record { value = none; within = (steps_on c.args.bytes.now None c.requires none).within }
