use Rattle.zk_inspect.specs.LyingTexts.{text_line}
use Rattle.zk_inspect.proofs.texts.write_text_line.Goals as goal

pub returns : goal.returns
unfolding text_line
returns g c = search (g.met.P.LineWriter.twice)
