use Rattle.std.proofs.Common.{map, take}
use Rattle.std.specs.List.{range_with_len}
use Rattle.zk_inspect.specs.declared.fact.Fact.TheVariants as fact
use Rattle.zk_inspect.proofs.listing.abbreviation_lines.list_all.Given as goal

abbrev pub invariant-loop-number : goal.invariant-loop-number
invariant-loop-number g l =
    g.F.FactWriter.wrote l.fn.facts l.facts (map fact.Abbreviation (take l.number (range_with_len 0 96)))
