use Rattle.zk_inspect.proofs.FindingLaw.{findings_are_all}
use Rattle.zk_inspect.proofs.laws.findings_are_all.Goals as goal

pub returns : goal.returns
returns c = findings_are_all
