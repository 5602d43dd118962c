use Rattle.std.specs.Str.Lines.{lines}
use Rattle.std.proofs.Common.{◌≡◌, ◌∙◌, true, false, sym, arith, rules}
use Rattle.zk_suite.specs.Scripts.{is_comment}
use Rattle.zk_suite.proofs.LineCuts.{at_end}
use Rattle.zk_suite.proofs.ScriptLines.{comment_on, comment_stops, comment_ends}
use Rattle.zk_suite.proofs.walkthrough.script_in.Goals as goal

pub returns-then-not-is_comment-clause-value : goal.returns-then-not-is_comment-clause-value
returns-then-not-is_comment-clause-value c =
    let other : false ≡ is_comment c.in-Some.cut.line.now = search rules in
    let stops = comment_stops (lines c.loop-cut.rest.now) _ c.in-Some.cut.line.now c.in-Some.ensures.value other in
    sym stops.0 ∙ c.loop-cut.invariant.same

pub returns-then-not-is_comment-clause-count : goal.returns-then-not-is_comment-clause-count
returns-then-not-is_comment-clause-count c =
    let other : false ≡ is_comment c.in-Some.cut.line.now = search rules in
    let stops = comment_stops (lines c.loop-cut.rest.now) _ c.in-Some.cut.line.now c.in-Some.ensures.value other in
    omega (arith, stops.1, c.loop-cut.invariant.count)

pub loop-cut-preserved : goal.loop-cut-preserved
loop-cut-preserved c =
    let comment : true ≡ is_comment c.in-Some.cut.line.now = search rules in
    let on = comment_on (lines c.loop-cut.rest.now) _ c.in-Some.cut.line.now c.in-Some.ensures.value comment in
    record {
      same = sym on.0 ∙ c.loop-cut.invariant.same;
      count = omega (arith, on.1, c.loop-cut.invariant.count);
      within = omega (arith, c.in-Some.ensures.shorter, c.loop-cut.invariant.within);
    }

pub returns-clause-value : goal.returns-clause-value
returns-clause-value c =
    let ends = comment_ends (lines c.loop-cut.rest.now)
    (at_end c.loop-cut.rest.now c.cut_line.result c.in_default.not-Some c.cut_line.ensures.value) in
    sym ends.0 ∙ c.loop-cut.invariant.same

pub returns-clause-count : goal.returns-clause-count
returns-clause-count c =
    let ends = comment_ends (lines c.loop-cut.rest.now)
    (at_end c.loop-cut.rest.now c.cut_line.result c.in_default.not-Some c.cut_line.ensures.value) in
    omega (arith, ends.1, c.loop-cut.invariant.count)
