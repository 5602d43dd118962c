use Rattle.std.proofs.Common.{arith, ap, refl, sym, Some}
use Rattle.zk_vm.proofs.Straight.{goes_up, past, passed, only}
use Rattle.zk_vm.proofs.machine.calls.call_before.Goals as goal

pub returns-then-can_begin-clause-found : goal.returns-then-can_begin-clause-found
returns-then-can_begin-clause-found c = λ a h t.
    let m = c.args.memory.now in
    ap Some (only m c.args.routine c.args.goes_on c.loop-i.at a c.in-Ok.instr c.has_bytes.ensures
    (sym c.in-Ok.ensures.value) (c.if-can_begin.ensures.0 refl).next (c.loop-i.invariant.1 a h t) t)

pub returns-then-instr-goes_on-clause-found : goal.returns-then-instr-goes_on-clause-found
returns-then-instr-goes_on-clause-found c = λ a h t.
    let m = c.args.memory.now in
    let on = passed m c.args.routine c.args.goes_on c.loop-i.at a c.in-Ok.instr (sym c.in-Ok.ensures.value)
    (λ is. let e = c.if-can_begin.ensures.1 is in cc) (c.loop-i.invariant.1 a h t) t in
    absurd (past m c.args.routine c.args.goes_on c.in-Ok.instr.next a c.has_bytes.ensures
    (omega (arith, c.if-instr-goes_on.true)) on t)

pub loop-i-preserved : goal.loop-i-preserved
loop-i-preserved c = (
  omega (
    arith,
    c.loop-i.invariant.0,
    goes_up c.args.memory.now c.loop-i.at c.in-Ok.instr c.has_bytes.ensures
        (sym c.in-Ok.ensures.value),
  ),
  λ a h t. passed c.args.memory.now c.args.routine c.args.goes_on c.loop-i.at a c.in-Ok.instr
      (sym c.in-Ok.ensures.value) (λ is. let e = c.if-can_begin.ensures.1 is in cc) (c.loop-i.invariant.1 a h t) t,
)

pub returns-clause-found : goal.returns-clause-found
returns-clause-found c = λ a h t.
    absurd (past c.args.memory.now c.args.routine c.args.goes_on c.loop-i.at a c.has_bytes.ensures
    (omega (arith, c.loop-i.invariant.0, c.loop-i-test.false)) (c.loop-i.invariant.1 a h t) t)
