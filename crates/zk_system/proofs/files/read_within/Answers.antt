use Rattle.std.proofs.Common.{rules, arith}
use Rattle.zk_system.proofs.Bounded.{all_within}
use Rattle.zk_system.proofs.files.read_within.Goals as goal

pub returns-else-len-most : goal.returns-else-len-most
returns-else-len-most g c = all_within g.R.Read.remaining c.take.result c.args.reader c.args.most _ _
    c.take.ensures.limit c.take.ensures.inner (search rules) c.in_ok-read_to_end.ensures.bytes
    (omega (arith, c.len.ensures, c.if-len-most.false))
