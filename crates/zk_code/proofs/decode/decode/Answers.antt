use Rattle.zk_code.proofs.Whole.{is_only}
use Rattle.zk_code.proofs.Cut.{is_refusing}
use Rattle.zk_code.proofs.decode.decode.Goals as goal

pub returns-clause-only : goal.returns-clause-only
returns-clause-only c = is_only c.args.memory.now c.args.address c.read_instr.result c.read_instr.ensures.value

pub returns-clause-refuses : goal.returns-clause-refuses
returns-clause-refuses c =
    is_refusing c.args.memory.now c.args.address c.read_instr.result c.has_bytes.ensures c.read_instr.ensures.value
