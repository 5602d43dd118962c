use Rattle.std.proofs.Common.{◌∙◌, Bool, true, false, refl, sym, subst}
use Rattle.zk_code.specs.Extent.{IsRoutine, next_packed}
use Rattle.zk_code.proofs.Extents.{not_following}
use Rattle.zk_code.proofs.extent.routine_after.Goals as goal

pub returns-in_default-clause-none : goal.returns-in_default-clause-none
returns-in_default-clause-none c = λ _ n h. c.in_default.ensures.none refl h.end h.extent

pub returns-else-is_routine-clause-none : goal.returns-else-is_routine-clause-none
returns-else-is_routine-clause-none c =
    λ _. not_following c.args.memory.now c.args.start c.in-Some.end c.in-Some.ensures.found
    (λ r. absurd (let yes = c.is_routine.ensures.1
    (subst (IsRoutine c.args.memory.now) (sym c.next_packed-next.ensures) r) in let no = c.if-is_routine.false in cc))
