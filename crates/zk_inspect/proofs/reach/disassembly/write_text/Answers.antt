use Rattle.zk_inspect.specs.Listing.{text_text}
use Rattle.zk_inspect.proofs.reach.disassembly.write_text.Goals as goal

pub returns-in-Some : goal.returns-in-Some
unfolding text_text
returns-in-Some g c = rw c.in-Some.is (search (g.met.P.LineWriter.twice))
