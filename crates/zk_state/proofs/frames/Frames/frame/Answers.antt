use Rattle.std.proofs.Common.{◌≡◌, ◌++◌, ◌∷◌, [], ◌+◌, ◌≤◌, ℕ, List, length, get_or, nat_eq, ap, arith}
use Rattle.std.specs.Prelude.{if◌then◌else◌}
use Rattle.zk_state.specs.Flat.{seen, IsKept}
use Rattle.zk_state.specs.Frames.{FrameList}
use Rattle.zk_state.specs.declared.records.FrameRecord.{FrameRecord}
use Rattle.zk_state.specs.declared.frames.Frames.TheInside.{Inside}
use Rattle.zk_state.proofs.Views.{IsViewed, viewed, few_callers}
use Rattle.zk_state.proofs.frames.Frames.frame.Goals as goal

pub record_at-own-requires : goal.record_at-own-requires
record_at-own-requires c =
    omega (
      arith,
      few_callers c.self.inside c.args.self.now c.self.view_is c.args.number c.requires,
      ap length c.callers-callers.ensures,
    )

pub end_of-end-requires : goal.end_of-end-requires
end_of-end-requires c =
    omega (
      arith,
      few_callers c.self.inside c.args.self.now c.self.view_is c.args.number c.requires,
      ap length c.callers-callers.ensures,
    )

is_viewed : (s : Inside) (v : FrameList) (n : ℕ) (callers : List FrameRecord) (current own : FrameRecord) (e : ℕ)
    → IsKept s → seen s ≡ v → n ≤ length v.callers → callers ≡ s.records.callers → current ≡ s.records.current
    → own ≡ get_or (callers ++ current ∷ []) n current
    → e ≡ (if nat_eq n (length callers) then s.top else (get_or (callers ++ current ∷ []) (n + 1) current).base)
    → IsViewed s n own e
is_viewed s v n callers current own e i view le same now oe ee =
    viewed s n own e i (few_callers s v view n le) (rw (same, now) at oe) (rw (same, now) at ee)

pub view_of-requires-clause-base : goal.view_of-requires-clause-base
view_of-requires-clause-base c =
    (is_viewed c.self.inside c.args.self.now c.args.number c.callers-callers.result.now c.current-current.result
    c.record_at-own.result c.end_of-end.result c.self.invariant c.self.view_is c.requires
    c.callers-callers.ensures c.current-current.ensures c.record_at-own.ensures c.end_of-end.ensures).base

pub view_of-requires-clause-stack_base : goal.view_of-requires-clause-stack_base
view_of-requires-clause-stack_base c =
    (is_viewed c.self.inside c.args.self.now c.args.number c.callers-callers.result.now c.current-current.result
    c.record_at-own.result c.end_of-end.result c.self.invariant c.self.view_is c.requires
    c.callers-callers.ensures c.current-current.ensures c.record_at-own.ensures c.end_of-end.ensures).stack_base

pub view_of-requires-clause-end : goal.view_of-requires-clause-end
view_of-requires-clause-end c =
    let v = is_viewed c.self.inside c.args.self.now c.args.number c.callers-callers.result.now
    c.current-current.result c.record_at-own.result c.end_of-end.result c.self.invariant c.self.view_is
    c.requires c.callers-callers.ensures c.current-current.ensures c.record_at-own.ensures c.end_of-end.ensures in
    omega (arith, v.end, ap length c.as_slice.ensures.value)

pub returns-clause-value : goal.returns-clause-value
returns-clause-value c =
    let v = is_viewed c.self.inside c.args.self.now c.args.number c.callers-callers.result.now
    c.current-current.result c.record_at-own.result c.end_of-end.result c.self.invariant c.self.view_is
    c.requires c.callers-callers.ensures c.current-current.ensures c.record_at-own.ensures c.end_of-end.ensures in
    rw (← c.self.view_is) (v.value _ (rw c.as_slice.ensures.value at c.view_of.ensures.value))

pub returns-clause-is_frame : goal.returns-clause-is_frame
returns-clause-is_frame c =
    let v = is_viewed c.self.inside c.args.self.now c.args.number c.callers-callers.result.now
    c.current-current.result c.record_at-own.result c.end_of-end.result c.self.invariant c.self.view_is
    c.requires c.callers-callers.ensures c.current-current.ensures c.record_at-own.ensures c.end_of-end.ensures in
    v.is _ (rw c.as_slice.ensures.value at c.view_of.ensures.value)

pub returns-clause-words : goal.returns-clause-words
returns-clause-words c =
    let v = is_viewed c.self.inside c.args.self.now c.args.number c.callers-callers.result.now
    c.current-current.result c.record_at-own.result c.end_of-end.result c.self.invariant c.self.view_is
    c.requires c.callers-callers.ensures c.current-current.ensures c.record_at-own.ensures c.end_of-end.ensures in
    omega (arith, v.few, c.view_of.ensures.words)
