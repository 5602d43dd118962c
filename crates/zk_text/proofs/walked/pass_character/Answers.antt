use Rattle.zk_text.proofs.Walking.{passed}
use Rattle.zk_text.proofs.walked.pass_character.Goals as goal

pub returns-clause-left : goal.returns-clause-left
returns-clause-left c = λ zs.
    passed c.args.memory.now c.args.left c.left_of.result c.args.held c.advance-next.result.0 c.args.character
    c.advance-next.result.1 zs (c.advance-next.ensures.pieces zs) c.left_of.ensures
