use Rattle.std.proofs.Common.{◌≡◌, ◌∙◌, sym, subst, Some}
use Rattle.zk_inspect.proofs.Marking.{some_same}
use Rattle.zk_code.specs.Routines.{code_start}
use Rattle.zk_inspect.specs.Lists.{IsMarked}
use Rattle.zk_inspect.proofs.reach.Search.follow_call.Goals as goal

pub returns-in_ok-follow_routine-in-Some-clause-found : goal.returns-in_ok-follow_routine-in-Some-clause-found
returns-in_ok-follow_routine-in-Some-clause-found c = λ r s g h.
    let same = some_same _ _ (c.in-Some.ensures.value ∙ g) in
    let found = c.in_ok-follow_routine-in-Some.ensures.found s
    (subst (λ x. code_start c.args.memory.now x ≡ Some s) (sym same) h) in
    (subst (λ x. IsMarked c.follow_routine.new.self.routines x) same found.0, found.1)
