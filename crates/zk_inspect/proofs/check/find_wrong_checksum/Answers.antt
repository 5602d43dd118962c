use Rattle.std.proofs.lemmas.Result.{IfOk-weaker}
use Rattle.zk_inspect.proofs.Checks.{wrong_checksum}
use Rattle.zk_inspect.proofs.check.find_wrong_checksum.Goals as goal

pub returns : goal.returns
returns c =
    IfOk-weaker _ _ _ (λ list is. wrong_checksum c.args.memory.now list _ c.checksum_ok.ensures is) c.only_if.ensures
