use Rattle.zk_inspect.proofs.FindingLaw.{one_list_of_findings}
use Rattle.zk_inspect.proofs.laws.one_list_of_findings.Goals as goal

pub returns : goal.returns
returns c = one_list_of_findings
