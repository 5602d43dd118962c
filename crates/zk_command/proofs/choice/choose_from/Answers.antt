use Rattle.std.proofs.Common.{rules, ◌≡◌, ◌∙◌, ap, subst, sym, map, Err, IfErr, inl}
use Rattle.std.proofs.lemmas.Result.{IfErr-weaker, IfOk-weaker}
use Rattle.clap.specs.Words.{App, HasKind, fault_of, is_simple_and_free}
use Rattle.zk_command.specs.CommandLine.{IsRefusedWith}
use Rattle.zk_command.proofs.CommandLines.{command_line_is_free, met_asks, refused_by}
use Rattle.zk_command.proofs.choice.choose_from.Goals as goal

pub returns-in_err-matches-clause-refused : goal.returns-in_err-matches-clause-refused
returns-in_err-matches-clause-refused c =
    let arguments = map (λ s. s.now) c.args.arguments.now in
    let error = c.in_err-matches.field-0.0 in
    let same : c.from_residual.result ≡ Err error = search rules in
    let kinds = subst (λ (a : App). HasKind (fault_of a arguments) error) c.requires
    (c.in_err-matches.ensures.kinds (ap is_simple_and_free c.requires ∙ command_line_is_free)) in
    subst (λ r. IfErr r (λ e. IsRefusedWith arguments e)) (sym same) (inl kinds)

pub returns-clause-asks : goal.returns-clause-asks
returns-clause-asks c =
    IfOk-weaker c.choose_met.result _ _ (met_asks c.in_ok-matches.matches _ _ c.requires
    c.in_ok-matches.ensures.ok.2) c.choose_met.ensures.says

pub returns-clause-refused : goal.returns-clause-refused
returns-clause-refused c =
    IfErr-weaker c.choose_met.result _ _ (refused_by c.in_ok-matches.matches _ _ c.requires
    c.in_ok-matches.ensures.ok.2) c.choose_met.ensures.refused
