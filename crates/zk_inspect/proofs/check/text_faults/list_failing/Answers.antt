use Rattle.std.proofs.Common.{◌≡◌, ℕ, ◌+◌, ◌-◌, sym, subst, arith}
use Rattle.zk_text.specs.Sweeps.{IsSweptTo}
use Rattle.zk_inspect.specs.declared.check.finding.Number.TheVariants.{TextPastTheEnd, NestedAbbreviation}
use Rattle.zk_inspect.specs.Findings.{Finds}
use Rattle.zk_inspect.specs.Lists.{IsLastList}
use Rattle.zk_inspect.proofs.DescendingLists.{descending_begin, descending_next}
use Rattle.zk_inspect.proofs.TextFaults.{fails_nested, fails_past, nested_near, past_near}
use Rattle.zk_inspect.proofs.check.text_faults.list_failing.Goals as goal

pub loop-behind-init : goal.loop-behind-init
loop-behind-init c =
    let Past = Finds c.args.memory.now TextPastTheEnd in
    let Nested = Finds c.args.memory.now NestedAbbreviation in
    record {
      swept =
          λ a at. c.in_ok-sweep.ensures a (let bound = c.len.ensures.bound in let value = c.len.ensures.value in
          omega arith);
      past_end =
          subst (IsLastList Past 524289 0) (sym c.new.ensures)
          (descending_begin Past 524289 (λ a p. past_near c.args.memory.now c.args.marks.now a c.requires p));
      nested =
          subst (IsLastList Nested 524289 0) (sym c.new-2.ensures)
          (descending_begin Nested 524289 (λ a p. nested_near c.args.memory.now c.args.marks.now a c.requires p));
    }

pub loop-behind-preserved : goal.loop-behind-preserved
loop-behind-preserved c =
    let lt = c.loop-behind-test.true in
    let at : 524289 - 1 - c.loop-behind.behind + c.loop-behind.behind + 1 ≡ 524289 = omega arith in
    let a = 524289 - 1 - c.loop-behind.behind in
    record {
      swept = λ b e. subst (λ (x : ℕ). IsSweptTo c.args.memory.now x c.back.new.self) (omega arith) c.back.ensures;
      past_end = descending_next (Finds c.args.memory.now TextPastTheEnd) 524289 c.loop-behind.behind a _ _ _ at
          (fails_past c.args.memory.now c.args.marks.now a c.requires) c.loop-behind.invariant.past_end
          c.in_ok-add.ensures.past_end;
      nested = descending_next (Finds c.args.memory.now NestedAbbreviation) 524289 c.loop-behind.behind a _ _ _ at
          (fails_nested c.args.memory.now c.args.marks.now a c.requires) c.loop-behind.invariant.nested
          c.in_ok-add.ensures.nested;
    }
