use Rattle.std.proofs.Common.{map, take}
use Rattle.std.specs.List.{range_with_len}
use Rattle.zk_inspect.specs.declared.fact.Fact.TheVariants as fact
use Rattle.zk_inspect.proofs.listing.extension_lines.list_words.Given as goal

abbrev pub invariant-loop-before : goal.invariant-loop-before
invariant-loop-before g l =
    g.F.FactWriter.wrote l.fn.facts l.facts (map fact.ExtensionWord (take l.before (range_with_len 1 l.count)))
