use Rattle.std.proofs.Common.{append-nil, subst, []}
use Rattle.zk_text.proofs.Giving.{all_given}
use Rattle.zk_text.proofs.WordWalks.{first_left}
use Rattle.zk_text.proofs.text.print_text.Goals as goal

pub print_rest-requires-clause-means : goal.print_rest-requires-clause-means
print_rest-requires-clause-means g c = rw (c.at.ensures, first_left c.args.memory.now c.args.address) c.requires

pub returns-in-Ok-clause-ok : goal.returns-in-Ok-clause-ok
returns-in-Ok-clause-ok g c = λ us e.
    all_given g.S.Sink.gave _ _ _ us c.in-Ok.ensures.ok
    (rw (c.at.ensures, first_left c.args.memory.now c.args.address) e)

pub returns-in-Err-clause-err : goal.returns-in-Err-clause-err
returns-in-Err-clause-err g c = λ us e.
    subst (g.S.Sink.refused _ _) (append-nil us)
    (c.in-Err.ensures.err us [] (rw (c.at.ensures, first_left c.args.memory.now c.args.address) e))
