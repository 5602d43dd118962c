use Rattle.std.specs.Prelude.{decimal}
use Rattle.zk_inspect.proofs.Outputs.{wrote_on}
use Rattle.zk_inspect.proofs.PropertyLines.{first_separated}
use Rattle.zk_inspect.proofs.listing.object_lines.write_numbers.Goals as goal

pub returns : goal.returns
returns g c = wrote_on g.P.LineWriter.wrote g.met.P.LineWriter.twice _ _ _ _ _ _
    (first_separated decimal c.args.numbers.now _ c.in-len1-up.len_at_least) c.write_decimal.ensures
    c.write_further_numbers.ensures
