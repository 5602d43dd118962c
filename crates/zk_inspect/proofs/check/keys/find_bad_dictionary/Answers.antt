use Rattle.std.proofs.lemmas.Result.{IfOk-weaker}
use Rattle.std.proofs.Common.{◌∙◌, ap}
use Rattle.std.specs.Prelude.{is_err, not}
use Rattle.std.proofs.lemmas.Bool.{eq-eqb}
use Rattle.zk_mem.specs.declared.header.Header.{Header}
use Rattle.zk_inspect.proofs.Falling.{bad_dictionary, unnamed_dictionary}
use Rattle.zk_inspect.proofs.check.keys.find_bad_dictionary.Goals as goal
use Rattle.zk_inspect.proofs.check.keys.find_bad_dictionary.Goals.{then-address-ne0, else-address-ne0}

pub returns : goal.returns
returns c = IfOk-weaker _ _ _ (λ list is.
    let named = ap (λ (h : Header). h.dictionary) c.header-address.ensures in
    elim c.if-address-ne0.branch [
      | then-address-ne0 w ↦ bad_dictionary c.args.memory.now c.header-address.result.dictionary
          c.if-address-ne0.is_bad list c.has_bytes.ensures named w.if-address-ne0.true
          (w.is_bad-is ∙ w.is_err-is_bad.ensures.value ∙ ap is_err w.at.ensures.value) is
      | else-address-ne0 w ↦ unnamed_dictionary c.args.memory.now c.header-address.result.dictionary
          c.if-address-ne0.is_bad list named w.if-address-ne0.false
          (w.is_bad-is ∙ ap not (eq-eqb c.header-address.result.dictionary 0 w.if-address-ne0.false)) is
    ]) c.only_if.ensures
