use Rattle.std.proofs.Common.{refl}
use Rattle.zk_term.specs.Lines.{while_short, heard}
use Rattle.zk_term.proofs.examples.lines_by_example.Goals as goal

pub returns-clause-too_many_bytes : goal.returns-clause-too_many_bytes
unfolding while_short heard
returns-clause-too_many_bytes c = (refl, refl, refl)
