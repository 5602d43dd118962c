use Rattle.std.proofs.Common.{take, codes, ◌++◌}
use Rattle.std.specs.Prelude.{decimal}
use Rattle.std.specs.List.{flat_map}
use Rattle.zk_inspect.proofs.listing.object_lines.write_further_numbers.Given as goal

abbrev pub invariant-loop-number : goal.invariant-loop-number
invariant-loop-number g l =
    g.P.LineWriter.wrote l.fn.writer l.writer (flat_map (λ n. codes "," ++ decimal n) (take l.number-index l.numbers))
