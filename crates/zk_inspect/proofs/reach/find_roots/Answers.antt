use Rattle.std.proofs.Common.{◌∙◌, ◌<◌, ℕ, length, get_or, arith, sym, subst, inl, inr}
use Rattle.std.proofs.lemmas.Bool.{cases_eq}
use Rattle.std.proofs.lemmas.Grind.{get_or_default_zero}
use Rattle.std.proofs.lemmas.List.Elements.{Contains-get_or}
use Rattle.zk_code.specs.Reach.IsReachedFrom.{Root}
use Rattle.zk_inspect.specs.Lists.{IsMarked}
use Rattle.zk_inspect.proofs.Searching.{grows_twice}
use Rattle.zk_inspect.proofs.reach.find_roots.Goals as goal

pub find-requires-clause-reached : goal.find-requires-clause-reached
find-requires-clause-reached c = Root _ (Contains-get_or c.args.roots.now c.loop-index.index 0 c.loop-index-test.true)

pub find-requires-clause-within : goal.find-requires-clause-within
find-requires-clause-within c =
    let lt = c.requires.within _ (Contains-get_or c.args.roots.now c.loop-index.index 0 c.loop-index-test.true) in
    let e = c.loop-index.invariant.grows.size in
    omega arith

pub loop-index-preserved : goal.loop-index-preserved
loop-index-preserved c = record {
  search = c.in_ok-find.ensures.search;
  grows = grows_twice _ _ _ c.loop-index.invariant.grows c.in_ok-find.ensures.grows;
  found = λ k lt. elim (cases_eq k c.loop-index.index) [
    | inl e ↦ subst (λ (j : ℕ). IsMarked c.find.new.self.marks (get_or c.args.roots.now j 0)) (sym e)
        c.in_ok-find.ensures.found
    | inr ne ↦ c.in_ok-find.ensures.grows.marks _ (c.loop-index.invariant.found k (omega arith))
  ];
}

pub returns-clause-found : goal.returns-clause-found
returns-clause-found c = λ a h.
    let lt : h.0 < length c.args.roots.now = h.1 in
    let end = c.loop-index-test.false in
    subst (IsMarked c.loop-index.search.marks) (sym (get_or_default_zero c.args.roots.now h.0 a h.1) ∙ h.2)
    (c.loop-index.invariant.found h.0 (omega arith))
