use Rattle.std.specs.Str.{bytes_eq}
use Rattle.std.specs.Str.Lines.{lines}
use Rattle.std.proofs.Common.{◌≡◌, true, false, arith, rules}
use Rattle.zk_suite.proofs.LineCuts.{at_end}
use Rattle.zk_suite.proofs.Differing.{same_on, differ, second_ended, first_ended, heads_differ, same_heads}
use Rattle.zk_suite.proofs.difference.first_difference.Goals as goal

pub returns-in_default-cut_line-clause-some : goal.returns-in_default-cut_line-clause-some
returns-in_default-cut_line-clause-some c =
    let left = lines c.loop-line.left.now in
    let right = lines c.loop-line.right.now in
    differ _ _ left right c.loop-line.number c.loop-line.invariant.same
    (second_ended left right _ c.in-Some.line.line.now c.in-Some.ensures.value
    (at_end c.loop-line.right.now c.cut_line-in-Some.result c.in_default-cut_line.not-Some
    c.cut_line-in-Some.ensures.value))

pub returns-then-ne-clause-some : goal.returns-then-ne-clause-some
returns-then-ne-clause-some c =
    let left = lines c.loop-line.left.now in
    let right = lines c.loop-line.right.now in
    let other : bytes_eq c.in-Some.line.line.now c.in-Some-cut_line.other.line.now ≡ false = search rules in
    differ _ _ left right c.loop-line.number c.loop-line.invariant.same
    (heads_differ left right _ _ _ _ c.in-Some.ensures.value c.in-Some-cut_line.ensures.value other)

pub loop-line-preserved : goal.loop-line-preserved
loop-line-preserved c =
    let equal : bytes_eq c.in-Some.line.line.now c.in-Some-cut_line.other.line.now ≡ true = search rules in
    record {
      same = same_on _ _ _ _ _ _ _ _ c.loop-line.number c.loop-line.invariant.same c.in-Some.ensures.value
          c.in-Some-cut_line.ensures.value (same_heads _ _ equal);
      within = omega (arith, c.in-Some.ensures.shorter, c.loop-line.invariant.within);
    }

pub returns-in-Some-cut_line-2-clause-some : goal.returns-in-Some-cut_line-2-clause-some
returns-in-Some-cut_line-2-clause-some c =
    let left = lines c.loop-line.left.now in
    let right = lines c.loop-line.right.now in
    differ _ _ left right c.loop-line.number c.loop-line.invariant.same
    (first_ended left right _ c.in-Some-cut_line-2.field-0.line.now
    (at_end c.loop-line.left.now c.cut_line.result c.in_default.not-Some c.cut_line.ensures.value)
    c.in-Some-cut_line-2.ensures.value)
