use Rattle.std.proofs.Common.{◌∙◌, ◌==◌, ap, sym, ℕ}
use Rattle.zk_command.proofs.CommandLines.{header_said, others_said}
use Rattle.zk_command.proofs.choice.sections_of.Goals as goal
use Rattle.zk_command.proofs.choice.sections_of.Goals.{then-is_empty+in_ok-push, else-is_empty}

pub returns : goal.returns
returns c =
    let counted = ap (λ (n : ℕ). n == 0) c.in_ok-sections.sections.ok.0 in
    elim c.if-is_empty.branch [
      | then-is_empty+in_ok-push w ↦ header_said _ _ _ c.in_ok-sections.ensures
          (sym counted ∙ sym c.is_empty.ensures ∙ w.if-is_empty.true)
          (ap (λ v. v.items) w.sections-is ∙ w.in_ok-push.ensures.items)
      | else-is_empty w ↦ others_said _ _ _ c.in_ok-sections.ensures
          (sym counted ∙ sym c.is_empty.ensures ∙ w.if-is_empty.false) (ap (λ v. v.items) w.sections-is)
    ]
