use Rattle.std.proofs.Common.{◌∙◌, arith, sym, subst}
use Rattle.zk_inspect.specs.Search.{IsExpanded}
use Rattle.zk_inspect.proofs.Searching.{on_its_way, all_done, few_found, taken, none_left}
use Rattle.zk_inspect.proofs.reach.find_all.Goals as goal

pub expand-requires-clause-reached : goal.expand-requires-clause-reached
expand-requires-clause-reached c =
    (taken c.args.memory.now c.args.roots.now c.loop-index.search c.loop-index.index _
    c.loop-index.invariant.search.search (sym c.in-Some.ensures)).2

pub loop-index-preserved : goal.loop-index-preserved
loop-index-preserved c =
    let at = taken c.args.memory.now c.args.roots.now c.loop-index.search c.loop-index.index _
    c.loop-index.invariant.search.search (sym c.in-Some.ensures) in
    record {
      search = on_its_way c.args.memory.now c.args.roots.now c.loop-index.search _ c.loop-index.index
          c.loop-index.invariant.search at.0 c.in_ok-expand-in-Some.ensures.search
          c.in_ok-expand-in-Some.ensures.grows (subst (λ x. IsExpanded c.args.memory.now c.expand.new.self x)
          (sym at.1) c.in_ok-expand-in-Some.ensures.expanded);
      size = c.in_ok-expand-in-Some.ensures.grows.size ∙ c.loop-index.invariant.size;
      routine_size = c.in_ok-expand-in-Some.ensures.grows.routine_size ∙ c.loop-index.invariant.routine_size;
    }

pub returns-in-None-clause-search : goal.returns-in-None-clause-search
returns-in-None-clause-search c = all_done c.args.memory.now c.args.roots.now c.loop-index.search
    c.loop-index.index c.loop-index.invariant.search (none_left c.loop-index.search.found c.loop-index.index
    (sym c.in-None.ensures))

pub returns-clause-search : goal.returns-clause-search
returns-clause-search c =
    let few = few_found c.args.memory.now c.args.roots.now c.loop-index.search c.loop-index.invariant.search.search in
    let end = c.loop-index-test.false in
    let size = c.loop-index.invariant.size in
    all_done c.args.memory.now c.args.roots.now c.loop-index.search c.loop-index.index
    c.loop-index.invariant.search (omega arith)
