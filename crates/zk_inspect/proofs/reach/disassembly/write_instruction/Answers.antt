use Rattle.zk_inspect.specs.Listing.{instruction_text}
use Rattle.zk_inspect.proofs.reach.disassembly.write_instruction.Goals as goal

pub returns : goal.returns
unfolding instruction_text
returns g c = search (g.met.P.LineWriter.twice)
