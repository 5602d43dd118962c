use Rattle.zk_text.specs.Meaning.{text_units}
use Rattle.zk_inspect.proofs.Quotes.{between}
use Rattle.zk_inspect.proofs.listing.quoting.write_meaning.Goals as goal

pub returns : goal.returns
returns g c = rw (between c.args.memory.now (text_units c.args.memory.now c.args.address) c.requires)
    (search (g.met.P.LineWriter.twice))
