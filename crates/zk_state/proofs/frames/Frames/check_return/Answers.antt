use Rattle.std.proofs.Common.{arith}
use Rattle.zk_state.proofs.Returning.{first_back, kept_base, kept_none, kept_global, kept_word, kept_full, kept_local}
use Rattle.zk_state.proofs.Returning.{kept_past}
use Rattle.zk_state.proofs.frames.Frames.check_return.Goals as goal

pub returns-then-depth-eq0 : goal.returns-then-depth-eq0
returns-then-depth-eq0 c =
    λ x. rw (← c.self.view_is) (first_back c.self.inside x (omega (arith, c.depth-depth.ensures)))

pub returns-in_default : goal.returns-in_default
returns-in_default c =
    λ x. rw (← c.self.view_is) (kept_none c.self.inside c.self.invariant c.caller-caller.result c.depth-depth.result
    (c.depth-depth.ensures) (omega arith) c.caller-caller.ensures x (rw c.current.ensures at c.in_default.is))

pub returns-then-variable-ge16 : goal.returns-then-variable-ge16
returns-then-variable-ge16 c =
    λ x. rw (← c.self.view_is) (kept_global c.self.inside c.self.invariant c.caller-caller.result
    c.depth-depth.result (c.depth-depth.ensures) (omega arith) c.caller-caller.ensures x c.in-Some.variable
    (rw c.current.ensures at c.in-Some.is) c.if-variable-ge16.true)

pub returns-then-base-self : goal.returns-then-base-self
returns-then-base-self c =
    λ x. rw (← c.self.view_is) (kept_full c.self.inside c.self.invariant c.caller-caller.result c.depth-depth.result
    (c.depth-depth.ensures) (omega arith) c.caller-caller.ensures x c.in-Some.variable
    (rw c.current.ensures at c.in-Some.is) c.if-variable-eq0.true (rw c.base.ensures at c.if-base-self.true))

pub returns-then-variable-eq0 : goal.returns-then-variable-eq0
returns-then-variable-eq0 c =
    λ x. rw (← c.self.view_is) (kept_word c.self.inside c.self.invariant c.caller-caller.result c.depth-depth.result
    (c.depth-depth.ensures) (omega arith) c.caller-caller.ensures x c.in-Some.variable
    (rw c.current.ensures at c.in-Some.is) c.if-variable-eq0.true (rw c.base.ensures at c.if-base-self.false))

pub overflow_add-caller : goal.overflow_add-caller
overflow_add-caller c = let low = kept_base c.self.inside c.self.invariant c.caller-caller.result
    c.depth-depth.result (c.depth-depth.ensures) (omega arith) c.caller-caller.ensures in omega arith

pub returns-then-caller-variable : goal.returns-then-caller-variable
returns-then-caller-variable c =
    λ x. rw (← c.self.view_is) (kept_past c.self.inside c.self.invariant c.caller-caller.result c.depth-depth.result
    (c.depth-depth.ensures) (omega arith) c.caller-caller.ensures x c.in-Some.variable
    (rw c.current.ensures at c.in-Some.is) (omega arith) c.if-variable-ge16.false c.if-caller-variable.true)

pub returns : goal.returns
returns c =
    λ x. rw (← c.self.view_is) (kept_local c.self.inside c.self.invariant c.caller-caller.result
    c.depth-depth.result (c.depth-depth.ensures) (omega arith) c.caller-caller.ensures x c.in-Some.variable
    (rw c.current.ensures at c.in-Some.is) (omega arith) c.if-variable-ge16.false c.if-caller-variable.false)
