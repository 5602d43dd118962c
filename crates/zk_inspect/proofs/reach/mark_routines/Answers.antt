use Rattle.std.proofs.Common.{◌∙◌, ◌≡◌, sym, subst, take, List, ℕ}
use Rattle.std.proofs.lemmas.List.{take_all, take_more}
use Rattle.zk_inspect.proofs.Searching.{AlsoMarked, also_one}
use Rattle.zk_inspect.proofs.reach.mark_routines.Goals as goal

pub loop-routine-preserved : goal.loop-routine-preserved
loop-routine-preserved c = record {
  size = c.mark_routine.ensures.size ∙ c.loop-routine.invariant.size;
  exact = subst (λ (xs : List ℕ). AlsoMarked c.args.memory.now xs c.args.marks.now c.mark_routine.new.marks)
      (sym (take_more c.args.routines.now c.loop-routine.routine-index 0 c.loop-routine-test.true))
      (also_one c.args.memory.now _ _ c.args.marks.now c.loop-routine.marks c.mark_routine.new.marks
      c.loop-routine.invariant.exact c.mark_routine.ensures.exact);
}

pub returns-clause-exact : goal.returns-clause-exact
returns-clause-exact c =
    let whole : take c.loop-routine.routine-index c.args.routines.now ≡ c.args.routines.now = take_all
    c.loop-routine.routine-index c.args.routines.now c.loop-routine-test.false in
    subst (λ (xs : List ℕ). AlsoMarked c.args.memory.now xs c.args.marks.now c.loop-routine.marks) whole
    c.loop-routine.invariant.exact
