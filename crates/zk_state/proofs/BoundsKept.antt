-- The bounds of frames stay, whatever becomes of the frames.
use Rattle.std.proofs.Common.{◌≡◌, ◌∙◌, ℕ, ◌-◌, Bool, true, false, List, [], ◌∷◌, length, drop, Option, Ok, Err, ap}
use Rattle.std.proofs.Common.{sym, refl, nat_lt, nat_le, arith}
use Rattle.std.specs.Prelude.{if◌then◌else◌}
use Rattle.std.proofs.lemmas.Grind.{common_steps}
use Rattle.zk_mem.specs.declared.fault.Fault.{Fault}
use Rattle.zk_state.specs.declared.frames.Return.{Return}
use Rattle.zk_state.specs.Frames.{Frame, FrameList, bounds_of, within_bounds, has_local, frames_of, with_word}
use Rattle.zk_state.specs.Frames.{with_routine, with_frames, pushed, popped, with_top, with_local, called, left}
use Rattle.zk_state.specs.Frames.{unwound}

-- a test that was passed
passed : {A : Type 0} (b : Bool) (x y : A) (e : Fault) → (if b then Ok x else Err e) ≡ Ok y → x ≡ y
passed {A} true x y e h = cc
passed {A} false x y e h = absurd cc

pub within_same : (s t : FrameList) → within_bounds s ≡ Ok t → s ≡ t
unfolding within_bounds
within_same s t h = grind (arith, common_steps)

pub pushed_bounds : (s t : FrameList) (v : ℕ) → pushed s v ≡ Ok t → bounds_of t ≡ bounds_of s
unfolding pushed bounds_of
pushed_bounds s t v h = ap bounds_of (sym (within_same (with_word s v) t h))

pub popped_bounds : (s t : FrameList) (v : ℕ) → popped s ≡ Ok (t, v) → bounds_of t ≡ bounds_of s
unfolding popped bounds_of
popped_bounds s t v h =
    ap (λ (p : FrameList × ℕ). bounds_of p.0)
    (sym (passed {A = FrameList × ℕ} (nat_lt 0 (length s.current.words)) _ (t, v) _ h))

pub top_bounds : (s t : FrameList) (v : ℕ) → with_top s v ≡ Ok t → bounds_of t ≡ bounds_of s
unfolding with_top bounds_of
top_bounds s t v h = ap bounds_of (sym (passed (nat_lt 0 (length s.current.words)) _ t _ h))

pub local_bounds : (s t : FrameList) (n v : ℕ) → with_local s n v ≡ Ok t → bounds_of t ≡ bounds_of s
unfolding with_local bounds_of
local_bounds s t n v h = ap bounds_of (sym (passed (has_local s n) _ t _ h))

pub called_bounds : (s t : FrameList) (ls : List ℕ) (p : ℕ) (r : Option ℕ) (n : ℕ) → called s ls p r n ≡ Ok t
    → bounds_of t ≡ bounds_of s
unfolding called bounds_of
called_bounds s t ls p r n h = ap bounds_of (sym (within_same (with_routine s ls p r n) t h))

frames_bounds : (s : FrameList) (fs : List Frame) → bounds_of (with_frames s fs) ≡ bounds_of s
unfolding bounds_of
frames_bounds s [] = refl
frames_bounds s (f ∷ fs) = refl

pub left_bounds : (s t : FrameList) (back : Return) → left s ≡ Ok (t, back) → bounds_of t ≡ bounds_of s
unfolding left
left_bounds s t back h =
    ap (λ (p : FrameList × Return). bounds_of p.0)
    (sym (passed {A = FrameList × Return} (nat_lt 0 (length s.callers)) _ (t, back) _ h)) ∙ frames_bounds s s.callers

pub unwound_bounds : (s t : FrameList) (n : ℕ) → unwound s n ≡ Ok t → bounds_of t ≡ bounds_of s
unfolding unwound
unwound_bounds s t n h =
    ap bounds_of (sym (passed (nat_le n (length s.callers)) _ t _ h))
    ∙ frames_bounds s (drop (length s.callers - n) (frames_of s))
