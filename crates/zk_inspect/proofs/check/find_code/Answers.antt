use Rattle.std.proofs.lemmas.Result.{IfOk-weaker}
use Rattle.std.proofs.Common.{◌∙◌, ap}
use Rattle.std.specs.List.{filter}
use Rattle.zk_inspect.specs.Tests.{code_answer}
use Rattle.zk_inspect.proofs.Checks.{code_found}
use Rattle.zk_inspect.proofs.check.find_code.Goals as goal

pub returns : goal.returns
returns c =
    let m = c.args.memory.now in
    IfOk-weaker _ _ _ (λ list is. code_found c.args.question m c.args.parts.now.code list c.has_bytes.ensures
    c.requires.code (is ∙ ap (filter (code_answer m c.args.question)) c.as_slice.ensures)) c.list_code.ensures
