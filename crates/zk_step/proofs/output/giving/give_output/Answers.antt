use Rattle.std.proofs.Common.{[], append-nil}
use Rattle.std.proofs.lemmas.Result.{on_err_weaker}
use Rattle.zk_step.specs.Printing.{units_of}
use Rattle.zk_step.proofs.output.giving.give_output.Goals as goal

pub returns-in-Number-clause-err : goal.returns-in-Number-clause-err
unfolding units_of
returns-in-Number-clause-err g c =
    rw c.in-Number.is (on_err_weaker c.give_number.result (λ refuses. let all = refuses [] in
    rw append-nil at all) c.give_number.ensures.err)
