use Rattle.std.proofs.Common.{false}
use Rattle.zk_inspect.specs.Lines.{lines_one}
use Rattle.zk_host.proofs.listing.put_line.Goals as goal

pub returns : goal.returns
returns g c = lines_one g.P.LineWriter.wrote g.met.P.LineWriter.twice _ _ _ false c.args.memory.now c.args.fact
    c.write_fact.ensures c.write.ensures
