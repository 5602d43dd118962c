use Rattle.std.proofs.Common.{map, take}
use Rattle.zk_inspect.specs.declared.fact.Fact.TheVariants as fact
use Rattle.zk_inspect.proofs.check.finding_lines.list_findings.Given as goal

abbrev pub invariant-loop-finding : goal.invariant-loop-finding
invariant-loop-finding g l =
    g.F.FactWriter.wrote l.fn.facts l.facts (map fact.Finding (take l.finding-index l.findings))
