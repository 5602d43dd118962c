use Rattle.std.proofs.Common.{arith, refl, sym, subst, ◌∙◌, ◌<◌, length}
use Rattle.zk_inspect.proofs.Marking.{some_same}
use Rattle.zk_inspect.proofs.Inside.{reached_call, called_by, routine_inside}
use Rattle.zk_inspect.proofs.Marking.{marked_now}
use Rattle.zk_inspect.proofs.Searching.{called_new, grows_called, grows_twice}
use Rattle.zk_inspect.specs.Lists.{IsMarked}
use Rattle.zk_inspect.proofs.reach.Search.follow_routine.Goals as goal

pub mark-requires : goal.mark-requires
mark-requires c =
    let lt = (routine_inside c.args.memory.now c.args.routine _ (sym c.in-Some.ensures.value)).0 in
    omega (arith, c.requires.search.routine_size)

pub find-requires-clause-search : goal.find-requires-clause-search
find-requires-clause-search c =
    called_new c.args.memory.now c.args.roots.now c.args.self.now _ c.args.routine c.requires.search
    (called_by c.args.memory.now c.args.roots.now c.args.address c.args.instr.now _ c.args.routine _
    c.requires.reached c.requires.stands c.requires.called (sym c.in-Some.ensures.value)) refl c.mark.ensures refl

pub find-requires-clause-reached : goal.find-requires-clause-reached
find-requires-clause-reached c = reached_call c.args.memory.now c.args.roots.now c.args.address c.args.instr.now _
    c.args.routine _ c.requires.reached c.requires.stands c.requires.called (sym c.in-Some.ensures.value)

pub find-requires-clause-within : goal.find-requires-clause-within
find-requires-clause-within c =
    let le = (routine_inside c.args.memory.now c.args.routine _ (sym c.in-Some.ensures.value)).1 in
    omega (arith, c.requires.search.size)

pub returns-clause-grows : goal.returns-clause-grows
returns-clause-grows c =
    let inside = (routine_inside c.args.memory.now c.args.routine _ (sym c.in-Some.ensures.value)).0 in
    let lt : c.args.routine < length c.args.self.now.routines = omega (arith, c.requires.search.routine_size) in
    grows_twice c.args.self.now _ _ (grows_called c.args.self.now _ c.args.routine lt refl c.mark.ensures refl)
    c.in_ok-find.ensures.grows

pub returns-clause-found : goal.returns-clause-found
returns-clause-found c = λ s h.
    let inside = (routine_inside c.args.memory.now c.args.routine _ (sym c.in-Some.ensures.value)).0 in
    let lt : c.args.routine < length c.args.self.now.routines = omega (arith, c.requires.search.routine_size) in
    let now = subst (λ bs. IsMarked bs c.args.routine) (sym c.mark.ensures)
    (marked_now c.args.self.now.routines c.args.routine lt) in (
      c.in_ok-find.ensures.grows.routines c.args.routine now,
      subst (λ x. IsMarked c.find.new.self.marks x)
          (some_same _ _ (c.in-Some.ensures.value ∙ h)) c.in_ok-find.ensures.found,
    )
