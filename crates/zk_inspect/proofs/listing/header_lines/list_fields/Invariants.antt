use Rattle.std.proofs.Common.{map, take}
use Rattle.zk_inspect.specs.declared.fact.Fact.TheVariants as fact
use Rattle.zk_inspect.proofs.listing.header_lines.list_fields.Given as goal

abbrev pub invariant-loop-field : goal.invariant-loop-field
invariant-loop-field g l = g.F.FactWriter.wrote l.fn.facts l.facts (map fact.Field (take l.field-index l.fields))
