use Rattle.std.proofs.Common.{◌∙◌, ◌-◌, Some, take, drop, refl, arith}
use Rattle.zk_term.specs.declared.lines.InputEnd.TheVariants as over
use Rattle.zk_term.proofs.Taking.{taken_on, taken_line, taken_last, taken_end, taken_long, taken_none, kept_none}
use Rattle.zk_term.proofs.Taking.{kept_more, kept_line}
use Rattle.zk_term.proofs.lines.Lines.take_line.Goals as goal

pub returns-in-Ok-eq10-clause-heard : goal.returns-in-Ok-eq10-clause-heard
returns-in-Ok-eq10-clause-heard g c = taken_line c.args.self.now c.loop-taken.self c.next_byte.new.self _ _ _
    c.loop-taken.taken c.loop-taken.line.items c.without_return.result c.loop-taken.invariant.taken (omega arith)
    (rw c.in-Ok-eq10.field-0-test at c.in-Ok-eq10.ensures.bytes) c.without_return.ensures
    (c.in-Ok-eq10.ensures.over ∙ c.loop-taken.invariant.over)

pub returns-then-taken-eq0-clause-heard : goal.returns-then-taken-eq0-clause-heard
returns-then-taken-eq0-clause-heard g c =
    taken_end c.args.self.now c.loop-taken.self c.next_byte.new.self _ _ _ c.loop-taken.taken
    c.loop-taken.line.items c.loop-taken.invariant.taken (omega arith)
    (rw c.in-Err-End.field-0-is at c.in-Err-End.ensures.bytes)

pub returns-clause-heard : goal.returns-clause-heard
returns-clause-heard g c = taken_long c.args.self.now c.loop-taken.self _ _ _ _ c.loop-taken.taken
    c.loop-taken.line.items c.loop-taken.invariant.taken (omega arith) c.loop-taken.invariant.sound

pub returns-in-Err-End-clause-heard : goal.returns-in-Err-End-clause-heard
returns-in-Err-End-clause-heard g c =
    let bytes = rw c.in-Err-End.field-0-is at c.in-Err-End.ensures.bytes in
    taken_last c.args.self.now c.loop-taken.self
    (record {
      ahead = take (c.self.inside.end - c.self.inside.start)
          (drop c.self.inside.start c.self.inside.buffer);
      over = Some over.End;
    }) _ _ _ c.loop-taken.taken _
    c.loop-taken.invariant.taken (omega arith) (omega arith) (rw (← c.self.view_is) at bytes) refl

pub loop-taken-init : goal.loop-taken-init
loop-taken-init g c =
    rw c.new-line.ensures (record { taken = taken_none _ _; kept = kept_none _ _ _; over = c.requires; sound = refl })

pub loop-taken-preserved : goal.loop-taken-preserved
loop-taken-preserved g c = record {
  taken = taken_on _ _ _ _ _ _ c.loop-taken.taken c.in-Ok.byte _ _ c.loop-taken.invariant.taken
      c.in-Ok.ensures.bytes c.in-Ok.byte-test.1 c.keep.ensures;
  kept = kept_more g.S.Source.gives _ _ _ _ _ _ c.loop-taken.taken c.in-Ok.byte _ _ c.loop-taken.invariant.kept
      c.in-Ok.ensures.taken c.in-Ok.byte-test.1 c.keep.ensures;
  over = c.in-Ok.ensures.over ∙ c.loop-taken.invariant.over;
  sound = c.in-Ok.ensures.goes ∙ c.loop-taken.invariant.sound;
}

pub returns-in-Ok-eq10-clause-taken : goal.returns-in-Ok-eq10-clause-taken
returns-in-Ok-eq10-clause-taken g c =
    λ _. kept_line g.S.Source.gives _ _ _ _ _ _ c.loop-taken.taken c.loop-taken.line.items _
    c.loop-taken.invariant.kept (omega arith) (rw c.in-Ok-eq10.field-0-test at c.in-Ok-eq10.ensures.taken)
    c.without_return.ensures
