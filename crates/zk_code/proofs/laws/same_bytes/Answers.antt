use Rattle.zk_code.proofs.Same.{same_bytes}
use Rattle.zk_code.proofs.laws.same_bytes.Goals as goal

pub returns : goal.returns
returns c = same_bytes
