use Rattle.std.proofs.Common.{sym, subst}
use Rattle.std.proofs.lemmas.Result.{IfOk-weaker}
use Rattle.zk_inspect.specs.declared.check.finding.Number.TheVariants.{TextPastTheEnd}
use Rattle.zk_inspect.specs.Findings.{Finds}
use Rattle.zk_inspect.specs.Lists.{IsListOf}
use Rattle.zk_inspect.proofs.check.text_faults.find_past_end.Goals as goal

pub returns : goal.returns
returns c =
    IfOk-weaker _ _ _ (λ list is. subst (IsListOf (Finds c.args.memory.now TextPastTheEnd)) (sym is)
    c.requires.past_end) c.reversed.ensures
