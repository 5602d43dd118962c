use Rattle.zk_code.proofs.Whole.{is_only}
use Rattle.zk_code.proofs.decode.decode_by.Goals as goal

pub returns-clause-only : goal.returns-clause-only
returns-clause-only c = is_only c.args.memory.now c.args.address c.read_instr.result c.read_instr.ensures.value
