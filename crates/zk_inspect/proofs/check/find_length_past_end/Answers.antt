use Rattle.std.proofs.lemmas.Result.{IfOk-weaker}
use Rattle.std.proofs.Common.{◌∙◌, ◌*◌, ap₂, sym}
use Rattle.zk_mem.specs.Header.{unit_length}
use Rattle.zk_mem.specs.declared.header.Header.{Header}
use Rattle.zk_inspect.proofs.Checks.{length_past_end}
use Rattle.zk_inspect.proofs.check.find_length_past_end.Goals as goal

pub returns : goal.returns
returns c = IfOk-weaker _ _ _ (λ list is.
    let stated = c.unpack-stated.ensures.value ∙ ap₂ (λ v (h : Header). unit_length v * h.file_length)
    (c.version.ensures.value ∙ c.version.ensures.file) c.header.ensures in
    length_past_end c.args.memory.now list c.len.result c.unpack-stated.result
    (c.len.ensures.value ∙ sym c.len.ensures.same) stated is) c.only_if.ensures
