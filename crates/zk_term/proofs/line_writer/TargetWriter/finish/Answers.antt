use Rattle.zk_term.proofs.LineWriters.{ended_all, ended_before, ended_part}
use Rattle.zk_term.proofs.line_writer.TargetWriter.finish.Goals as goal

pub returns-then-self-clause-ended : goal.returns-then-self-clause-ended
returns-then-self-clause-ended g c start text none sound given =
    ended_before start _ text sound c.if-self.true none given

pub returns-in-Ok-clause-ended : goal.returns-in-Ok-clause-ended
returns-in-Ok-clause-ended g c start text none sound given =
    ended_all start _ _ _ text sound c.if-self.false none given
    (rw c.as_slice.ensures.value at c.in-Ok.ensures.all) c.in-Ok.ensures.failed

pub returns-in-Err-clause-ended : goal.returns-in-Err-clause-ended
returns-in-Err-clause-ended g c start text none sound given =
    ended_part start _ _ _ text sound c.if-self.false none given
    (rw c.as_slice.ensures.value at c.in-Err.ensures.part) c.in-Err.ensures.failed
