use Rattle.std.proofs.Common.{◌≡◌, ◌+◌, ◌-◌, List, Bool, sym, subst, arith}
use Rattle.zk_inspect.specs.ListMarks.{HasList}
use Rattle.zk_inspect.specs.Lists.{AreLastMarks}
use Rattle.zk_inspect.proofs.LastLists.{past_data}
use Rattle.zk_inspect.proofs.LastMarks.{last_begin, last_end, last_more, last_none}
use Rattle.zk_inspect.proofs.check.property_lists.mark_lists.Goals as goal
use Rattle.zk_inspect.proofs.check.property_lists.mark_lists.Goals.{then-begins_list, else-begins_list}

pub loop-behind-init : goal.loop-behind-init
loop-behind-init c = last_begin (HasList c.args.memory.now) 66100 c.data_end-end.result _
    c.in_ok-marks.ensures.size c.in_ok-marks.ensures.none
    (λ a le l. past_data c.args.memory.now a c.has_bytes.ensures (let end = c.data_end-end.ensures.value in
    omega arith) l)

pub begins_list-requires-clause-known : goal.begins_list-requires-clause-known
begins_list-requires-clause-known c = λ a lt. c.loop-behind.invariant.known a (omega (arith, lt))

pub loop-behind-preserved : goal.loop-behind-preserved
loop-behind-preserved c =
    let lt = c.loop-behind-test.true in
    let at : c.data_end-end.result - 1 - c.loop-behind.behind + c.loop-behind.behind + 1
    ≡ c.data_end-end.result = omega arith in
    let near = c.data_end-end.ensures.bound in
    let P = HasList c.args.memory.now in
    elim c.if-begins_list.branch [
      | then-begins_list w ↦ subst (λ (bs : List Bool). AreLastMarks P 66100 c.data_end-end.result
          (c.loop-behind.behind + 1) bs) (sym w.marks-is)
          (last_more P 66100 c.data_end-end.result c.loop-behind.behind
          (c.data_end-end.result - 1 - c.loop-behind.behind) c.loop-behind.marks _ at (omega arith)
          (c.begins_list.ensures.0 w.if-begins_list.true) c.loop-behind.invariant w.mark.ensures)
      | else-begins_list w ↦ subst (λ (bs : List Bool). AreLastMarks P 66100 c.data_end-end.result
          (c.loop-behind.behind + 1) bs) (sym w.marks-is)
          (last_none P 66100 c.data_end-end.result c.loop-behind.behind
          (c.data_end-end.result - 1 - c.loop-behind.behind) c.loop-behind.marks at
          (λ l. (let yes = c.begins_list.ensures.1 l in let no = w.if-begins_list.false in cc)) c.loop-behind.invariant)
    ]

pub returns : goal.returns
returns c =
    record {
      exact = last_end (HasList c.args.memory.now) 66100 c.data_end-end.result c.loop-behind.behind _
          c.loop-behind-test.false c.loop-behind.invariant;
    }
