use Rattle.zk_step.specs.Halves.{rest_units}
use Rattle.zk_step.proofs.HalfTexts.{all_rows, on_or_off}
use Rattle.zk_step.proofs.output.parts.give_part.Goals as goal

pub returns-in-Ok-clause-ok : goal.returns-in-Ok-clause-ok
unfolding rest_units
returns-in-Ok-clause-ok g c =
    rw c.in-Text.is (on_or_off g.K.Sink.gave c.args.sink.now c.give_text_part.new.sink c.args.memory.now c.in-Ok.on
    _ _ c.in-Ok.ensures.on c.in-Ok.ensures.off)

pub returns-in-Err-clause-err : goal.returns-in-Err-clause-err
unfolding rest_units
returns-in-Err-clause-err g c = rw c.in-Text.is c.in-Err.ensures.err

pub returns-in-Ok-give_some_rows-clause-ok : goal.returns-in-Ok-give_some_rows-clause-ok
unfolding rest_units
returns-in-Ok-give_some_rows-clause-ok g c =
    let stands = rw c.in-Rows.is at c.requires in
    rw c.in-Rows.is (on_or_off g.K.Sink.gave c.args.sink.now c.give_some_rows.new.sink c.args.memory.now
    c.in-Ok-give_some_rows.on _ _ (λ on. c.in-Ok-give_some_rows.ensures.ok)
    (λ off. all_rows g.K.Sink.gave c.args.sink.now c.give_some_rows.new.sink _ c.args.memory.now
    c.in-Rows.rectangle c.give_some_rows.new.row stands.0 (c.in-Ok-give_some_rows.ensures.off off)
    c.in-Ok-give_some_rows.ensures.ok))

pub returns-in-Err-give_some_rows-clause-err : goal.returns-in-Err-give_some_rows-clause-err
unfolding rest_units
returns-in-Err-give_some_rows-clause-err g c = rw c.in-Rows.is c.in-Err-give_some_rows.ensures.err
