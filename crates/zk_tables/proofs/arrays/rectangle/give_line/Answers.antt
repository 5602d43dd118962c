use Rattle.std.proofs.Common.{[], ◌∷◌, ◌++◌}
use Rattle.std.proofs.lemmas.Result.{on_ok_weaker, on_err_weaker}
use Rattle.zk_text.specs.declared.unit.Unit.TheVariants.{Code}
use Rattle.zk_tables.specs.Rectangles.{row_units}
use Rattle.zk_tables.proofs.arrays.rectangle.give_line.Goals as goal

pub returns-clause-ok : goal.returns-clause-ok
returns-clause-ok g c =
    on_ok_weaker c.give_row.result (λ gives codes h. g.met.S.Sink.twice c.args.sink.now c.put.new.self
    c.give_row.new.sink (Code 13 ∷ []) (row_units codes) c.in_ok-put.ensures.ok (gives codes h))
    c.give_row.ensures.ok

pub returns-clause-err : goal.returns-clause-err
returns-clause-err g c =
    on_err_weaker c.give_row.result (λ refuses codes more h. g.met.S.Sink.late c.args.sink.now c.put.new.self
    c.give_row.new.sink (Code 13 ∷ []) (row_units codes ++ more) c.in_ok-put.ensures.ok
    (refuses codes more h)) c.give_row.ensures.ends
