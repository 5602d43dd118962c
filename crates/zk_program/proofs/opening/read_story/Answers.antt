use Rattle.zk_program.proofs.Readings.{read_through}
use Rattle.std.proofs.Common.{rules}
use Rattle.zk_program.proofs.opening.read_story.Goals as goal

pub returns : goal.returns
returns g c = read_through g.R.Read.remaining c.take.result c.args.reader _ _ c.take.ensures.limit
    c.take.ensures.inner (search rules) c.in_ok-read_pieces.ensures
