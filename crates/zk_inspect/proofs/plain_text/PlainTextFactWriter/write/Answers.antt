use Rattle.std.proofs.Common.{refl}
use Rattle.zk_inspect.specs.Lines.{lines_one}
use Rattle.zk_inspect.proofs.plain_text.PlainTextFactWriter.write.Goals as goal

pub returns : goal.returns
returns g c = (
  refl,
  refl,
  refl,
  lines_one g.P.LineWriter.wrote g.met.P.LineWriter.twice _ _ _ c.args.self.now.notes
      c.args.self.now.memory.now c.args.fact c.write_fact.ensures c.write.ensures,
)
