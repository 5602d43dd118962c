-- Frames that are left one after another.
use Rattle.std.proofs.Common.{◌≡◌, ℕ, ◌+◌, ◌-◌, ◌<◌, ◌≤◌, List, [], ◌∷◌, length, drop, Ok, Err, refl, ap, arith}
use Rattle.std.proofs.Common.{add-one, length-drop}
use Rattle.std.specs.Prelude.{Result, MatchResult}
use Rattle.std.proofs.lemmas.Bool.{lt-ltb, le-leb, lt-leb}
use Rattle.zk_mem.specs.declared.fault.Fault.{Fault}
use Rattle.zk_mem.specs.declared.fault.Fault.TheVariants.{BadFrame}
use Rattle.zk_state.specs.declared.frames.Return.{Return}
use Rattle.zk_state.specs.Frames.{Frame, FrameList, frames_of, with_frames, left, unwound}

-- the frames without the newest k
abbrev pub without_newest : ℕ → FrameList → FrameList
without_newest k s = with_frames s (drop k (frames_of s))

same_bounds : (s s' : FrameList) (fs : List Frame) → 0 < length fs → s.most_frames ≡ s'.most_frames
    → s.most_words ≡ s'.most_words → with_frames s fs ≡ with_frames s' fs
same_bounds s s' [] some f w = absurd (omega arith)
same_bounds s s' (x ∷ fs) some f w = rw (f, w) refl

left_is : (f g : Frame) (gs : List Frame) (a w : ℕ)
    → left (record { current = f; callers = g ∷ gs; most_frames = a; most_words = w }) ≡ Ok
    (record { current = g; callers = gs; most_frames = a; most_words = w }, record { pc = f.pc; result = f.result })
unfolding left
left_is f g gs a w = rw (lt-ltb 0 (length (g ∷ gs)) (omega arith)) refl

left_more : (f g : Frame) (gs : List Frame) (a w : ℕ) (s' : FrameList) (x : Return) (k : ℕ)
    → left (record { current = f; callers = g ∷ gs; most_frames = a; most_words = w }) ≡ Ok (s', x) → k ≤ length gs
    → without_newest (k + 1) (record { current = f; callers = g ∷ gs; most_frames = a; most_words = w })
    ≡ without_newest k s'
left_more f g gs a w s' x k h le =
    let rest : FrameList = record { current = g; callers = gs; most_frames = a; most_words = w } in
    let back : Return = record { pc = f.pc; result = f.result } in
    let pair : (rest, back) ≡ (s', x) = cc (left_is f g gs a w) in
    let e : rest ≡ s' = ap (λ (p : FrameList × Return). p.0) pair in
    rw (add-one k, ← e) (same_bounds (record { current = f; callers = g ∷ gs; most_frames = a; most_words = w })
    rest (drop k (g ∷ gs)) (omega (arith, length-drop k (g ∷ gs))) refl refl)

-- one frame fewer by `leave`
pub record IsOneFewer (s s' : FrameList) (k : ℕ) : Type 0 where
  pub same : without_newest (k + 1) s ≡ without_newest k s'
  pub long : length s'.callers + 1 ≡ length s.callers

left_long : (f g : Frame) (gs : List Frame) (a w : ℕ) (s' : FrameList) (x : Return)
    → left (record { current = f; callers = g ∷ gs; most_frames = a; most_words = w }) ≡ Ok (s', x)
    → length s'.callers + 1 ≡ length (g ∷ gs)
left_long f g gs a w s' x h =
    let rest : FrameList = record { current = g; callers = gs; most_frames = a; most_words = w } in
    let back : Return = record { pc = f.pc; result = f.result } in
    let pair : (rest, back) ≡ (s', x) = cc (left_is f g gs a w) in
    let e : rest ≡ s' = ap (λ (p : FrameList × Return). p.0) pair in
    rw (← e) (add-one (length gs))

apart : (r : Result (FrameList × Return) Fault) (x : FrameList × Return) (e : Fault) → r ≡ Ok x → r ≡ Err e → ⊥
apart r x e a b = cc

left_never : (f g : Frame) (gs : List Frame) (a w : ℕ) (e : Fault)
    → left (record { current = f; callers = g ∷ gs; most_frames = a; most_words = w }) ≡ Err e → ⊥
left_never f g gs a w e h =
    apart (left (record { current = f; callers = g ∷ gs; most_frames = a; most_words = w })) (
      record { current = g; callers = gs; most_frames = a; most_words = w },
      record { pc = f.pc; result = f.result },
    ) e (left_is f g gs a w) h

fewer : (r : Result Return Fault) (f : Frame) (fs : List Frame) (a w : ℕ) (s' : FrameList) (k : ℕ)
    → k + 1 ≤ length fs → MatchResult r
    (λ x. left (record { current = f; callers = fs; most_frames = a; most_words = w }) ≡ Ok (s', x))
    (λ e. (left (record { current = f; callers = fs; most_frames = a; most_words = w }) ≡ Err e)
    × (s' ≡ record { current = f; callers = fs; most_frames = a; most_words = w }))
    → IsOneFewer (record { current = f; callers = fs; most_frames = a; most_words = w }) s' k
fewer r f [] a w s' k le h = absurd (omega arith)
fewer (Ok x) f (g ∷ gs) a w s' k le h =
    record { same = left_more f g gs a w s' x k h (omega arith); long = left_long f g gs a w s' x h }
fewer (Err e) f (g ∷ gs) a w s' k le h = absurd (left_never f g gs a w e h.0)

pub one_fewer : (r : Result Return Fault) (s s' : FrameList) (k : ℕ) → k + 1 ≤ length s.callers
    → MatchResult r (λ x. left s ≡ Ok (s', x)) (λ e. (left s ≡ Err e) × (s' ≡ s)) → IsOneFewer s s' k
one_fewer r s s' k le h = fewer r s.current s.callers s.most_frames s.most_words s' k le h

pub unwound_ok : (s s' : FrameList) (n k : ℕ) → n ≤ length s.callers → k ≡ 0
    → without_newest k s' ≡ without_newest (length s.callers - n) s → unwound s n ≡ Ok s'
unfolding unwound
unwound_ok s s' n k le z e = rw (le-leb n (length s.callers) le, ← e, z) refl

pub unwound_bad : (s : FrameList) (n : ℕ) → length s.callers < n → unwound s n ≡ Err BadFrame
unfolding unwound
unwound_bad s n lt = rw (lt-leb n (length s.callers) lt) refl
