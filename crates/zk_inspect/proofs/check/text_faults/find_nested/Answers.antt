use Rattle.std.proofs.Common.{sym, subst}
use Rattle.std.proofs.lemmas.Result.{IfOk-weaker}
use Rattle.zk_inspect.specs.declared.check.finding.Number.TheVariants.{NestedAbbreviation}
use Rattle.zk_inspect.specs.Findings.{Finds}
use Rattle.zk_inspect.specs.Lists.{IsListOf}
use Rattle.zk_inspect.proofs.check.text_faults.find_nested.Goals as goal

pub returns : goal.returns
returns c =
    IfOk-weaker _ _ _ (λ list is. subst (IsListOf (Finds c.args.memory.now NestedAbbreviation)) (sym is)
    c.requires.nested) c.reversed.ensures
