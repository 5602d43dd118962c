use Rattle.std.proofs.Common.{rules}
use Rattle.zk_step.specs.Routing.{with_line_start}
use Rattle.zk_step.proofs.Plain.{plain_by}
use Rattle.zk_step.proofs.Steps.{goes_on_next}
use Rattle.zk_step.proofs.WithinBounds.{pc_refused}
use Rattle.zk_step.specs.Finish.{finished}
use Rattle.zk_step.proofs.state.finish.check_finish.Goals as goal

pub returns-in_default : goal.returns-in_default
returns-in_default c =
    let ending = plain_by c.args.ending c.requires c.in_default.not-Return in
    record {
      ok =
          λ b. rw (
            ending,
            goes_on_next (with_line_start b c.args.game.now) c.args.i.now c.args.values.now
                c.is_bounded.ensures,
          ) (search rules);
      err = tt;
    }

pub returns-in-Err-clause-err : goal.returns-in-Err-clause-err
unfolding finished
returns-in-Err-clause-err c = λ b. rw c.in-Return.is (pc_refused _ _ (c.in-Err.ensures.err c.in-Return.field-0 b))
