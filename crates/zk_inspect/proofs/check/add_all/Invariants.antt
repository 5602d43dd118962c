use Rattle.std.proofs.Common.{take}
use Rattle.zk_inspect.specs.Parts.{AddsAll}
use Rattle.zk_inspect.proofs.check.add_all.Given as goal

abbrev pub invariant-loop-number : goal.invariant-loop-number
invariant-loop-number l = AddsAll l.memory (take l.number-index l.numbers) l.initial.findings.items l.findings.items
