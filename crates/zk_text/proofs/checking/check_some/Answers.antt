use Rattle.std.proofs.Common.{◌∙◌, sym, arith}
use Rattle.zk_text.proofs.CheckedEnds.{from_fault, from_last, from_next, from_nowhere, from_past, from_start}
use Rattle.zk_text.proofs.checking.check_some.Goals as goal

pub loop-i-init : goal.loop-i-init
loop-i-init g c = record {
  rest = from_start (g.A.Abbreviations.stands c.args.memory.now) c.args.memory.now c.args.address;
  place = omega arith;
  holds = c.requires;
}

pub returns-in_default-clause-end : goal.returns-in_default-clause-end
returns-in_default-clause-end g c =
    sym (c.loop-i.invariant.rest ∙ from_nowhere (g.A.Abbreviations.stands c.args.memory.now) c.args.memory.now
    c.loop-i.held c.loop-i.at (sym c.in_default.ensures.value))

pub returns-in-Err-clause-end : goal.returns-in-Err-clause-end
returns-in-Err-clause-end g c =
    c.refuse.ensures ∙ sym (c.loop-i.invariant.rest ∙ from_fault (g.A.Abbreviations.stands c.args.memory.now)
    c.args.memory.now c.loop-i.held c.loop-i.at c.in-Some.word c.in-Err.fault (sym c.in-Some.ensures.value)
    c.in-Err.ensures.err)

pub returns-then-word-ge32768-clause-end : goal.returns-then-word-ge32768-clause-end
returns-then-word-ge32768-clause-end g c =
    sym (c.loop-i.invariant.rest ∙ from_last (g.A.Abbreviations.stands c.args.memory.now) c.args.memory.now
    c.loop-i.held c.in-Ok.next c.loop-i.at c.in-Some.word (sym c.in-Some.ensures.value) c.if-word-ge32768.true
    c.in-Ok.ensures.ok)

pub loop-i-preserved : goal.loop-i-preserved
loop-i-preserved g c = record {
  rest = c.loop-i.invariant.rest ∙ from_next (g.A.Abbreviations.stands c.args.memory.now) c.args.memory.now
      c.loop-i.held c.in-Ok.next c.loop-i.at c.in-Some.word (sym c.in-Some.ensures.value) c.if-word-ge32768.false
      c.in-Ok.ensures.ok;
  place = omega arith;
  holds = c.in-Ok.ensures.holds;
}

pub returns-then-at-len-clause-end : goal.returns-then-at-len-clause-end
returns-then-at-len-clause-end g c =
    sym (c.loop-i.invariant.rest ∙ from_past (g.A.Abbreviations.stands c.args.memory.now) c.args.memory.now
    c.loop-i.held c.loop-i.at (omega (arith, c.if-at-len.true, c.len.ensures.value)))
