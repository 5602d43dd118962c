use Rattle.std.proofs.lemmas.Result.{IfOk-weaker}
use Rattle.zk_inspect.proofs.Answered.{objects_found}
use Rattle.zk_inspect.proofs.check.find_objects_by.Goals as goal

pub returns : goal.returns
returns c =
    IfOk-weaker _ _ _ (λ list is. objects_found c.args.question c.args.memory.now c.args.parts.now.objects.count
    list c.has_bytes.ensures c.requires.objects.counted is) c.list_objects.ensures
