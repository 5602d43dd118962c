use Rattle.zk_text.proofs.Sweeping.{pass_by}
use Rattle.zk_text.proofs.sweep.pass.Goals as goal

pub returns-clause-fault : goal.returns-clause-fault
returns-clause-fault g c = λ zs.
    pass_by (g.A.Abbreviations.stands c.args.memory.now) c.args.memory.now c.args.held c.advance-next.result.0
    c.args.character c.advance-next.result.1 c.piece_fault.result zs (c.advance-next.ensures.pieces zs)
    c.piece_fault.ensures.value
