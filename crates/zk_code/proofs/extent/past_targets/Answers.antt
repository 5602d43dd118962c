use Rattle.std.proofs.Common.{inl, inr, sym, ◌∙◌}
use Rattle.zk_code.proofs.extent.past_targets.Goals as goal

pub returns : goal.returns
returns c = λ e. let first = c.past_target-past.ensures e in let second = c.past_target.ensures e in (
  λ le. let k = second.0 le in let j = first.0 k.0 in (
    j.0,
    λ t h. elim h [
      | inl b ↦ j.1 t (c.branch_address.ensures ∙ b)
      | inr b ↦ k.1 t (c.jump_address.ensures ∙ b)
    ],
  ),
  λ h. second.1 (
    first.1 (h.0, λ t b. h.1 t (inl (sym c.branch_address.ensures ∙ b))),
    λ t b. h.1 t (inr (sym c.jump_address.ensures ∙ b)),
  ),
)
