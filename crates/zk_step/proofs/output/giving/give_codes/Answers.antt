use Rattle.std.proofs.Common.{get_or, refl}
use Rattle.std.proofs.lemmas.Result.{err_from_is_err_and}
use Rattle.zk_tables.proofs.Units.{refused_there}
use Rattle.zk_step.proofs.output.giving.give_codes.Goals as goal

pub returns-in_err-put-clause-err : goal.returns-in_err-put-clause-err
returns-in_err-put-clause-err g c =
    let p = err_from_is_err_and c.from_residual.result c.from_residual.ensures.1 in
    rw p.1 (λ more. refused_there g.K.Sink.gave g.K.Sink.refused g.met.K.Sink.late c.args.sink.now
    c.loop-code.sink c.put.new.self c.args.codes.now more c.loop-code.code-index
    (get_or c.args.codes.now c.loop-code.code-index 0) c.loop-code-test.true refl c.loop-code.invariant
    c.in_err-put.ensures.err)
