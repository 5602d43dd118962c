use Rattle.std.proofs.Common.{take}
use Rattle.zk_step.specs.Status.{code_units}
use Rattle.zk_step.proofs.output.giving.give_codes.Given as goal

abbrev pub invariant-loop-code : goal.invariant-loop-code
invariant-loop-code g l = g.K.Sink.gave l.fn.sink l.sink (code_units (take l.code-index l.codes))
