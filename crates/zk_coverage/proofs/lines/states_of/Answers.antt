use Rattle.std.proofs.Common.{◌∙◌, ◌≤◌, ◌-◌, ap, arith, length, sym}
use Rattle.zk_coverage.specs.Lines.{state_at}
use Rattle.zk_coverage.proofs.Marks.{index_bound, noted, passed}
use Rattle.zk_coverage.proofs.lines.states_of.Goals as goal
use Rattle.zk_coverage.proofs.lines.states_of.Goals.{in-Some+in_ok-note_point, in_default}

pub loop-point-preserved : goal.loop-point-preserved
loop-point-preserved c = elim c.match-index_of.branch [
  | in-Some+in_ok-note_point w ↦
      (let long : length c.match-index_of.states.items ≤ 1000001 - c.args.lines.first =
      index_bound c.args.lines _ _ _ _ (sym c.index_of.ensures ∙ w.in-Some.is) c.loop-point.invariant.0
      w.in_ok-note_point.ensures.bound (ap (λ v. length v.items) w.states-is) in (
        long,
        λ up k h. ap (λ v. state_at v.items k) w.states-is
            ∙ noted c.args.ran.now.covered.now c.args.points.now c.loop-point.point-index _ c.args.lines _ _ _ _ _
            c.loop-point-test.true c.index_of.ensures w.in-Some.is (w.has_run.ensures up)
            w.in_ok-note_point.ensures.point w.in_ok-note_point.ensures.others k h (c.loop-point.invariant.1 up k h),
      ))
  | in_default w ↦
      (let long : length c.match-index_of.states.items ≤ 1000001 - c.args.lines.first =
      omega (arith, ap (λ v. length v.items) w.states-is, c.loop-point.invariant.0) in (
        long,
        λ up k h. ap (λ v. state_at v.items k) w.states-is
            ∙ passed c.args.ran.now.covered.now c.args.points.now c.loop-point.point-index _ c.args.lines _ _
            c.loop-point-test.true c.index_of.ensures w.in_default.is k h (c.loop-point.invariant.1 up k h),
      ))
]
