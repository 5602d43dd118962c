use Rattle.zk_inspect.proofs.OneList.{one_code}
use Rattle.zk_inspect.proofs.laws.one_code.Goals as goal

pub returns : goal.returns
returns c = one_code
