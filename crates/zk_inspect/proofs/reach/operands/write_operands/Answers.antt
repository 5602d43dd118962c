use Rattle.zk_inspect.proofs.Outputs.{first_operand, wrote_on}
use Rattle.zk_inspect.proofs.reach.operands.write_operands.Goals as goal

pub returns-in-len1-up : goal.returns-in-len1-up
returns-in-len1-up g c =
    wrote_on g.P.LineWriter.wrote g.met.P.LineWriter.twice _ _ _ _ _ _
    (first_operand c.args.memory.now c.args.instr.now c.args.instr.now.operands c.as_slice.result.now _
    c.as_slice.ensures.value c.in-len1-up.len_at_least)
    c.write_first.ensures c.write_further.ensures
