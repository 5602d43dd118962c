-- Machines under greater limits on frames and words.
use Rattle.std.specs.Prelude.{if◌then◌else◌}
use Rattle.std.proofs.lemmas.Bool.Decides.{nat_tests}
use Rattle.std.proofs.Common.{Bool, true, false, length, nat_lt, ◌≡◌, ◌∙◌, ◌≤◌, ◌-◌, ℕ, zero, suc, List, [], ◌∷◌, ◌++◌}
use Rattle.std.proofs.Common.{Option, Some, None, Result, Ok, Err, refl, ap, sym, arith}
use Rattle.zk_mem.specs.declared.fault.Fault.{Fault}
use Rattle.zk_mem.specs.Map.{MemoryMap}
use Rattle.zk_state.specs.declared.refusal.Limit.{Limit}
use Rattle.zk_state.specs.declared.refusal.Limit.TheVariants.{Frames, Words, Steps, Reads}
use Rattle.zk_state.specs.declared.refusal.Refusal.{Refusal}
use Rattle.zk_state.specs.declared.refusal.Refusal.TheVariants as refusal
use Rattle.zk_state.specs.Frames.{Frame, FrameList, frames_of, total_of, with_bounds, with_frames, within_bounds}
use Rattle.zk_code.specs.declared.instr.Instr.{Instr}
use Rattle.zk_save.specs.declared.restore.RestoreError.{RestoreError}
use Rattle.zk_save.specs.declared.restore.RestoreError.TheVariants as restore_error
use Rattle.zk_save.specs.Loading.{frames_fit, loaded, loaded_by, put_in_place, restored}
use Rattle.zk_save.specs.Quetzal.{saved}
use Rattle.zk_save.specs.States.{WholeState, memory_back}
use Rattle.zk_step.specs.declared.state.ending.Event.{Event}
use Rattle.zk_step.specs.declared.state.ending.Event.TheVariants.{Line, Char, Save, Restore}
use Rattle.zk_step.specs.declared.state.game_state.GameState.{GameState}
use Rattle.zk_step.specs.Inputs.{character_answered, line_answered, result_answered}
use Rattle.zk_step.specs.Laws.{moved_in, rebounded}
use Rattle.zk_step.specs.Restarts.{windows_closed}
use Rattle.zk_step.specs.Resuming.{resumed as back}
use Rattle.zk_step.specs.Routing.{Signals, no_signals}
use Rattle.zk_step.proofs.Sweep.{answers_see_no_bounds}
use Rattle.zk_vm.specs.declared.stop.Stop.{Stop}
use Rattle.zk_vm.specs.declared.stop.Stop.TheVariants.{Limit as LimitAt}
use Rattle.zk_vm.specs.declared.waiting.Waiting.{Waiting}
use Rattle.zk_vm.specs.Answers.{Answer, answered, answered_by, answer_settled, codes_of, end_of, file_of, first_code}
use Rattle.zk_vm.specs.Answers.{is_kept}
use Rattle.zk_vm.specs.Answers.{limit_of, none_restored, restored_from, restored_to, transcribed, truth_word}
use Rattle.zk_vm.specs.Laws.{FrameLimitsOnlyCut, IsNoFrameStop, session_in, state_in}
use Rattle.zk_vm.specs.Log.{Entry, Move, Passed, after, goes_by, heard_by, is_silent, moved, moved_by, parted}
use Rattle.zk_vm.specs.Log.{parted_to, parts_by, passed, stepped, stepped_to, stop_told, text_left, text_shown}
use Rattle.zk_vm.specs.Log.Entry.{Asked, Offered}
use Rattle.zk_vm.specs.Log.Move.{Gets, Goes, Part}
use Rattle.zk_vm.specs.Sessions.{Session, given_to, resumed}
use Rattle.zk_vm.specs.Plays.{image_by, refusal_of, refused_in}
use Rattle.zk_vm.specs.Step.{State, Step, Verdict, goes_to, is_past_reads, step, verdict_of, state_after, text_of}
use Rattle.zk_vm.specs.Step.{text_within}
use Rattle.zk_vm.specs.Step.Step.{Goes as GoesTo, Waits, Quits, Faults, Exceeds}
use Rattle.zk_vm.specs.Step.Verdict.{GoesOn, WaitsFor, StopsBy}
use Rattle.zk_vm.proofs.FrameLimits.{IsNoFrameVerdict, by_limit, frames_same, goes_to_same, no_fault, over_is}
use Rattle.zk_vm.proofs.FrameLimits.{step_by_same, step_in, step_same, verdict_same, within_more}
use Rattle.zk_vm.proofs.Logs.{passed_stopped}
use Rattle.zk_vm.proofs.OneStep.{goes_same, waits_same}

-- ---- bounds stay

abbrev most_f : State → ℕ
most_f s = s.game.frames.most_frames

abbrev most_w : State → ℕ
most_w s = s.game.frames.most_words

-- a step that is the same in its own bounds keeps them
after_bounds : (s : State) (x : Step) → x ≡ step_in (most_f s) (most_w s) x
    → (most_f (state_after s x) ≡ most_f s) × (most_w (state_after s x) ≡ most_w s)
unfolding step_in
after_bounds s (GoesTo t text) h =
    let same = goes_same t (state_in (most_f s) (most_w s) t) text text h in
    (ap most_f same, ap most_w same)
after_bounds s (Waits t waiting text) h =
    let same = waits_same t (state_in (most_f s) (most_w s) t) waiting waiting text text h in
    (ap most_f same, ap most_w same)
after_bounds s Quits h = (refl, refl)
after_bounds s (Faults f) h = (refl, refl)
after_bounds s (Exceeds l) h = (refl, refl)

step_bounds : (s : State) → (most_f (state_after s (step s)) ≡ most_f s) × (most_w (state_after s (step s)) ≡ most_w s)
step_bounds s = after_bounds s (step s) (step_same (most_f s) (most_w s) s)

-- ---- an answer, with other bounds

settled_same : (f m : ℕ) (s : State) (due : List ℕ) (r : Result (GameState × ℕ) Fault)
    → answer_settled (state_in f m s) due (moved_in f m r) ≡ step_in f m (answer_settled s due r)
unfolding step_in
settled_same f m s due r = step_by_same f m _ _ r (λ x. refl)

-- a saved game that is restored within the bounds is restored within greater ones
abbrev restored_in : ℕ → ℕ → Result (MemoryMap × FrameList × ℕ) RestoreError
    → Result (MemoryMap × FrameList × ℕ) RestoreError
restored_in f m (Ok (n, g, p)) = Ok (n, with_bounds f m g, p)
restored_in f m (Err e) = Err e

abbrev placed : WholeState → MemoryMap → Result FrameList RestoreError → Result (MemoryMap × FrameList × ℕ) RestoreError
placed w n r = loaded_by {B = MemoryMap × FrameList × ℕ} r (λ frames. Ok (memory_back w n, frames, w.pc))

same_bounded : (g u : FrameList) → within_bounds g ≡ Ok u → g ≡ u
unfolding within_bounds
same_bounded g u h = go (nat_lt g.most_frames (length (frames_of g))) (nat_lt g.most_words (total_of g)) h
  where
    go : (b c : Bool) → (if b then Err (refusal.Limit Frames)
        else (if c then Err (refusal.Limit Words) else Ok g)) ≡ Ok u → g ≡ u
    go true c k = absurd cc
    go false true k = absurd cc
    go false false k = cc

placed_same : (f m : ℕ) (w : WholeState) (n : MemoryMap) (g : FrameList) (q : Result FrameList Refusal)
    → within_bounds g ≡ q → g.most_frames ≤ f → g.most_words ≤ m
    → ((l : Limit) → placed w n (frames_fit q) ≡ Err (restore_error.Limit l) → IsNoFrameStop (LimitAt 0 l))
    → placed w n (frames_fit (within_bounds (with_bounds f m g))) ≡ restored_in f m (placed w n (frames_fit q))
placed_same f m w n g (Ok u) e few short own =
    let more = within_more g u f m few short e in
    let same = same_bounded g u e in
    ap (λ (q : Result FrameList Refusal). placed w n (frames_fit q)) more
    ∙ ap (λ (x : FrameList). placed w n (Ok (with_bounds f m x))) same
placed_same f m w n g (Err (refusal.Limit l)) e few short own =
    absurd (by_limit 0 l (over_is g (refusal.Limit l) e) (own l refl))
placed_same f m w n g (Err (refusal.Fault x)) e few short own = absurd (no_fault g x e)

with_frames_bounds : (s : FrameList) (fs : List Frame) → ((with_frames s fs).most_frames ≡ s.most_frames)
    × ((with_frames s fs).most_words ≡ s.most_words)
with_frames_bounds s [] = (refl, refl)
with_frames_bounds s (x ∷ fs) = (refl, refl)

loaded_same : (f m : ℕ) (n : MemoryMap) (s : FrameList) (r : Result WholeState RestoreError) → s.most_frames ≤ f
    → s.most_words ≤ m → ((l : Limit) → loaded_by r (λ w. put_in_place w n s) ≡ Err (restore_error.Limit l)
    → IsNoFrameStop (LimitAt 0 l))
    → loaded_by r (λ w. put_in_place w n (with_bounds f m s)) ≡ restored_in f m (loaded_by r (λ w. put_in_place w n s))
unfolding put_in_place
loaded_same f m n s (Ok w) few short own =
    let bounds = with_frames_bounds s w.frames in
    ap (λ (g : FrameList). placed w n (frames_fit (within_bounds g))) (frames_same f m s w.frames)
    ∙ placed_same f m w n (with_frames s w.frames) (within_bounds (with_frames s w.frames))
    refl (omega (arith, bounds.0, few)) (omega (arith, bounds.1, short)) own
loaded_same f m n s (Err e) few short own = refl

restored_same : (f m : ℕ) (file : List ℕ) (n : MemoryMap) (s : FrameList) → s.most_frames ≤ f → s.most_words ≤ m
    → ((l : Limit) → restored file n s ≡ Err (restore_error.Limit l) → IsNoFrameStop (LimitAt 0 l))
    → restored file n (with_bounds f m s) ≡ restored_in f m (restored file n s)
unfolding restored
restored_same f m file n s few short own = loaded_same f m n s (loaded n file) few short own

renewed_same : (f m : ℕ) (w : GameState) → windows_closed (rebounded f m w) ≡ rebounded f m (windows_closed w)
unfolding windows_closed
renewed_same f m w = refl

none_same : (f m : ℕ) (s : State) (i : Instr) (l : Option Limit) → none_restored (state_in f m s) i l ≡ step_in f
    m (none_restored s i l)
unfolding step_in
none_same f m s i None = ap (goes_to (state_in f m s) s.undo) (answers_see_no_bounds.result f m s.game i 0 false)
    ∙ goes_to_same f m s s.undo (result_answered s.game i 0 false)
none_same f m s i (Some l) = refl

restored_to_same : (f m : ℕ) (s : State) (i : Instr) (q : Result (MemoryMap × FrameList × ℕ) RestoreError)
    → restored_to (state_in f m s) i (restored_in f m q) ≡ step_in f m (restored_to s i q)
restored_to_same f m s i (Ok (n, g, p)) =
    let v : GameState = record s.game { memory = n; frames = g } in
    ap (λ (w : GameState). goes_to (state_in f m s) s.undo (back w p)) (renewed_same f m v)
    ∙ ap (goes_to (state_in f m s) s.undo) (answers_see_no_bounds.back f m (windows_closed v) p)
    ∙ goes_to_same f m s s.undo (back (windows_closed v) p)
restored_to_same f m s i (Err e) = none_same f m s i (limit_of e)

exceeds_by : (s : State) (i : Instr) (q : Result (MemoryMap × FrameList × ℕ) RestoreError) (l : Limit)
    → q ≡ Err (restore_error.Limit l) → restored_to s i q ≡ Exceeds l
exceeds_by s i q l h = ap (restored_to s i) h

from_same : (f m : ℕ) (s : State) (i : Instr) (file : Option (List ℕ)) → most_f s ≤ f → most_w s ≤ m
    → ((l : Limit) → restored_from s i file ≡ Exceeds l → IsNoFrameStop (LimitAt 0 l))
    → restored_from (state_in f m s) i file ≡ step_in f m (restored_from s i file)
from_same f m s i None few short own = none_same f m s i None
from_same f m s i (Some file) few short own =
    ap (restored_to (state_in f m s) i) (restored_same f m file s.game.memory s.game.frames few short
    (λ l e. own l (exceeds_by s i (restored file s.game.memory s.game.frames) l e)))
    ∙ restored_to_same f m s i (restored file s.game.memory s.game.frames)

answered_by_same : (f m : ℕ) (s : State) (i : Instr) (x : Event) (a : Answer) → most_f s ≤ f → most_w s ≤ m
    → ((l : Limit) → answered_by s i x a ≡ Exceeds l → IsNoFrameStop (LimitAt 0 l))
    → answered_by (state_in f m s) i x a ≡ step_in f m (answered_by s i x a)
answered_by_same f m s i (Line text parse) a few short own =
    ap (answer_settled (state_in f m s) (transcribed s.game (Line text parse) (codes_of a) (end_of a)))
    (answers_see_no_bounds.line f m s.game i text parse (codes_of a) (end_of a))
    ∙ settled_same f m s (transcribed s.game (Line text parse) (codes_of a) (end_of a))
    (line_answered s.game i text parse (codes_of a) (end_of a))
answered_by_same f m s i Char a few short own =
    ap (answer_settled (state_in f m s) []) (answers_see_no_bounds.character f m s.game i
    (first_code (codes_of a))) ∙ settled_same f m s [] (character_answered s.game i (first_code (codes_of a)))
answered_by_same f m s i Save a few short own =
    ap (goes_to (state_in f m s) s.undo) (answers_see_no_bounds.result f m s.game i (truth_word (is_kept a))
    (is_kept a)) ∙ goes_to_same f m s s.undo (result_answered s.game i (truth_word (is_kept a)) (is_kept a))
answered_by_same f m s i Restore a few short own = from_same f m s i (file_of a) few short own

answered_same : (f m : ℕ) (s : State) (w : Waiting) (a : Answer) → most_f s ≤ f → most_w s ≤ m
    → ((l : Limit) → answered s w a ≡ Exceeds l → IsNoFrameStop (LimitAt 0 l))
    → answered (state_in f m s) w a ≡ step_in f m (answered s w a)
unfolding answered
answered_same f m s w a few short own = answered_by_same f m s w.instruction w.wait a few short own

-- an answer keeps the bounds
own_bounds : (s : State) (w : Waiting) (a : Answer) (x : Step) → answered s w a ≡ x
    → ((l : Limit) → x ≡ Exceeds l → ⊥) → (most_f (state_after s x) ≡ most_f s) × (most_w (state_after s x) ≡ most_w s)
own_bounds s w a x e other =
    let same = answered_same (most_f s) (most_w s) s w a (omega arith) (omega arith)
    (λ l h. absurd (other l (sym e ∙ h))) in
    after_bounds s x (sym e ∙ same ∙ ap (step_in (most_f s) (most_w s)) e)

bounds_by : (s : State) (w : Waiting) (a : Answer) (x : Step) → answered s w a ≡ x
    → (most_f (state_after s x) ≡ most_f s) × (most_w (state_after s x) ≡ most_w s)
bounds_by s w a (Exceeds l) e = (refl, refl)
bounds_by s w a (GoesTo t text) e = own_bounds s w a (GoesTo t text) e (λ l h. absurd cc)
bounds_by s w a (Waits t v text) e = own_bounds s w a (Waits t v text) e (λ l h. absurd cc)
bounds_by s w a Quits e = own_bounds s w a Quits e (λ l h. absurd cc)
bounds_by s w a (Faults f) e = own_bounds s w a (Faults f) e (λ l h. absurd cc)

pub answered_bounds : (s : State) (w : Waiting) (a : Answer)
    → (most_f (state_after s (answered s w a)) ≡ most_f s) × (most_w (state_after s (answered s w a)) ≡ most_w s)
answered_bounds s w a = bounds_by s w a (answered s w a) refl

goes_bounds : (s : State) (x : Step) (f m : ℕ) → (most_f (state_after s x) ≡ most_f s)
    × (most_w (state_after s x) ≡ most_w s) → most_f s ≤ f → most_w s ≤ m
    → (t : State) (text : Signals) → x ≡ GoesTo t text → (t.game.frames.most_frames ≤ f)
    × (t.game.frames.most_words ≤ m)
goes_bounds s x f m same few short t text e =
    let there : state_after s x ≡ t = ap (state_after s) e in
    let one : most_f t ≡ most_f s = sym (ap most_f there) ∙ same.0 in
    let two : most_w t ≡ most_w s = sym (ap most_w there) ∙ same.1 in
    (omega (arith, one), omega (arith, two))

-- ---- moves, with other bounds

-- why a machine stops is no limit on frames or words
abbrev OwnStop : Session → Type 0
OwnStop s = (stop : Stop) → s.stopped ≡ Some stop → IsNoFrameStop stop

abbrev passed_in : ℕ → ℕ → Passed → Passed
passed_in f m p = record { entries = p.entries; to = session_in f m p.to }

to_same : (f m : ℕ) (s : Session) (v : Verdict) (t : State) (text : Signals)
    → stepped_to (session_in f m s) v (state_in f m t) text ≡ passed_in f m (stepped_to s v t text)
to_same f m s GoesOn t text = refl
to_same f m s (WaitsFor w) t text = refl
to_same f m s (StopsBy stop) t text = refl

step_free : (s : Session) (v : Verdict) (t : State) (text : Signals) → OwnStop (stepped_to s v t text).to
    → IsNoFrameVerdict v
step_free s GoesOn t text own = tt
step_free s (WaitsFor w) t text own = tt
step_free s (StopsBy stop) t text own = own stop refl

-- what is still to come of a text is the same
left_same : (f m : ℕ) (left : Option Signals) (s : State) → text_of (state_in f m s) (step_in f m (step s))
    ≡ text_of s (step s) → text_left left (state_in f m s) ≡ text_left left s
left_same f m None s e = ap (text_of (state_in f m s)) (step_same f m s) ∙ e
left_same f m (Some t) s e = refl

-- so is what is made of a step
made_same : (f m : ℕ) (s : Session) → most_f s.state ≤ f → most_w s.state ≤ m
    → IsNoFrameVerdict (verdict_of s.state (step s.state)) → (made : Verdict → State → Signals → Passed)
    → made (verdict_of (state_in f m s.state) (step (state_in f m s.state)))
    (state_after (state_in f m s.state) (step (state_in f m s.state))) (text_left s.left (state_in f m s.state))
    ≡ made (verdict_of s.state (step s.state)) (state_in f m (state_after s.state (step s.state)))
    (text_left s.left s.state)
made_same f m s few short free made =
    let x = step s.state in
    let parts = verdict_same f m s.state x (goes_bounds s.state x f m (step_bounds s.state) few short) free in
    let text = left_same f m s.left s.state parts.1 in
    rw (text, step_same f m s.state, parts.0, parts.2) refl

steps_same : (f m n : ℕ) (s : Session) → most_f s.state ≤ f → most_w s.state ≤ m → OwnStop (stepped n s).to
    → stepped n (session_in f m s) ≡ passed_in f m (stepped n s)
steps_same f m zero s few short own = refl
steps_same f m (suc n) s few short own =
    let x = step s.state in
    let free = step_free s (verdict_of s.state x) (state_after s.state x) (text_left s.left s.state) own in
    made_same f m s few short free (λ v t text. stepped_to (session_in f m s) v t text)
    ∙ to_same f m s (verdict_of s.state x) (state_after s.state x) (text_left s.left s.state)

parted_free : (n : ℕ) (s : Session) (v : Verdict) (t : State) (text : Signals)
    → OwnStop (parted_to false n s v t text).to → IsNoFrameVerdict v
parted_free n s GoesOn t text own = tt
parted_free n s (WaitsFor w) t text own = tt
parted_free n s (StopsBy stop) t text own = own stop refl

parted_same : (f m n : ℕ) (s : Session) (v : Verdict) (t : State) (text : Signals)
    → parted_to false n (session_in f m s) v (state_in f m t) text ≡ passed_in f m (parted_to false n s v t text)
parted_same f m n s GoesOn t text = refl
parted_same f m n s (WaitsFor w) t text = refl
parted_same f m n s (StopsBy stop) t text = refl

-- what a step shows whatever the limits are
shown_same : (f m : ℕ) (x : Step) → text_shown (step_in f m x) ≡ text_shown x
unfolding step_in
shown_same f m (GoesTo t text) = refl
shown_same f m (Waits t waiting text) = refl
shown_same f m Quits = refl
shown_same f m (Faults e) = refl
shown_same f m (Exceeds l) = refl

silent_none : (t : Signals) → is_silent t ≡ true → t ≡ no_signals
silent_none [] h = refl
silent_none (x ∷ t) h = absurd (grind (arith, nat_tests, h))

within_silent : (r : Result FrameList Refusal) (t : Signals) → t ≡ no_signals → text_within r t ≡ no_signals
within_silent (Ok s) t h = h
within_silent (Err e) t h = refl

waits_silent : (b : Bool) (t : Signals) → t ≡ no_signals → (if b then no_signals else t) ≡ no_signals
waits_silent true t h = refl
waits_silent false t h = h

text_silent : (s : State) (x : Step) → is_silent (text_shown x) ≡ true → text_of s x ≡ no_signals
text_silent s (GoesTo t text) h = within_silent (within_bounds t.game.frames) text (silent_none text h)
text_silent s (Waits t w text) h = waits_silent (is_past_reads s.reads w.wait) text (silent_none text h)
text_silent s Quits h = refl
text_silent s (Faults e) h = refl
text_silent s (Exceeds l) h = refl

part_silent : (f m n k : ℕ) (s : Session) (b : Bool) → is_silent (text_shown (step s.state)) ≡ b
    → most_f s.state ≤ f → most_w s.state ≤ m → OwnStop (parted n (suc k) s).to
    → parted n (suc k) (session_in f m s) ≡ passed_in f m (parted n (suc k) s)
part_silent f m n k s true e few short own =
    let x = step s.state in
    let shown : is_silent (text_shown (step_in f m x)) ≡ true = ap is_silent (shown_same f m x) ∙ e in
    let text = left_same f m s.left s.state (text_silent (state_in f m s.state) (step_in f m x) shown
    ∙ sym (text_silent s.state x e)) in
    let there : is_silent (text_shown (step (state_in f m s.state)))
    ≡ true = ap (λ (y : Step). is_silent (text_shown y)) (step_same f m s.state) ∙ shown in
    rw (there, e, text) refl
part_silent f m n k s false e few short own =
    let x = step s.state in
    let there : is_silent (text_shown (step (state_in f m s.state)))
    ≡ false =
    ap (λ (y : Step). is_silent (text_shown y)) (step_same f m s.state) ∙ ap is_silent (shown_same f m x) ∙ e in
    let free = parted_free n s (verdict_of s.state x) (state_after s.state x) (text_left s.left s.state)
    (rw e at own) in
    rw (there, e) (made_same f m s few short free (λ v t text. parted_to false n (session_in f m s) v t text)
    ∙ parted_same f m n s (verdict_of s.state x) (state_after s.state x) (text_left s.left s.state))

part_same : (f m n k : ℕ) (s : Session) → most_f s.state ≤ f → most_w s.state ≤ m → OwnStop (parted n k s).to
    → parted n k (session_in f m s) ≡ passed_in f m (parted n k s)
part_same f m n zero s few short own = refl
part_same f m n (suc k) s few short own =
    part_silent f m n k s (is_silent (text_shown (step s.state))) refl few short own

parts_same : (f m n : ℕ) (due : List ℕ) (s : Session) → most_f s.state ≤ f → most_w s.state ≤ m
    → OwnStop (parts_by n due s).to → parts_by n due (session_in f m s) ≡ passed_in f m (parts_by n due s)
parts_same f m n [] s few short own = part_same f m n (s.limits.steps - s.state.steps) s few short own
parts_same f m n (c ∷ cs) s few short own = refl

due_same : (f m : ℕ) (due : List ℕ) (s : Session) → most_f s.state ≤ f → most_w s.state ≤ m
    → OwnStop (goes_by due s).to → goes_by due (session_in f m s) ≡ passed_in f m (goes_by due s)
due_same f m [] s few short own = steps_same f m (s.limits.steps - s.state.steps) s few short own
due_same f m (c ∷ cs) s few short own = refl

-- the entry of an answer does not tell the bounds
image_same : (f m : ℕ) (s : Session) (x : Option Waiting) → image_by (session_in f m s) x ≡ image_by s x
unfolding saved
image_same f m s None = refl
image_same f m s (Some w) = refl

refused_same : (f m : ℕ) (q : Result (MemoryMap × FrameList × ℕ) RestoreError)
    → refused_in (restored_in f m q) ≡ refused_in q
refused_same f m (Ok x) = refl
refused_same f m (Err e) = refl

refusal_same : (f m : ℕ) (s : Session) (i : Instr) (file : Option (List ℕ)) → most_f s.state ≤ f
    → most_w s.state ≤ m → ((l : Limit) → restored_from s.state i file ≡ Exceeds l → IsNoFrameStop (LimitAt 0 l))
    → refusal_of (session_in f m s) file ≡ refusal_of s file
refusal_same f m s i None few short own = refl
refusal_same f m s i (Some file) few short own =
    let q = restored file s.state.game.memory s.state.game.frames in
    ap refused_in (restored_same f m file s.state.game.memory s.state.game.frames few short
    (λ l e. own l (exceeds_by s.state i q l e))) ∙ refused_same f m q

heard_same : (f m : ℕ) (s : Session) (i : Instr) (x : Event) (a : Answer) → most_f s.state ≤ f
    → most_w s.state ≤ m → ((l : Limit) → answered_by s.state i x a ≡ Exceeds l → IsNoFrameStop (LimitAt 0 l))
    → heard_by (session_in f m s) x a ≡ heard_by s x a
heard_same f m s i (Line text parse) a few short own = refl
heard_same f m s i Char a few short own = refl
heard_same f m s i Save a few short own = ap (λ (file : List ℕ). Offered file (is_kept a)) (image_same f m s s.waiting)
heard_same f m s i Restore a few short own = ap (Asked (file_of a)) (refusal_same f m s i (file_of a) few short own)

resumed_frames : (f m : ℕ) (s : Session) (v : Verdict) (t : State)
    → resumed (session_in f m s) v (state_in f m t) ≡ session_in f m (resumed s v t)
resumed_frames f m s GoesOn t = refl
resumed_frames f m s (WaitsFor w) t = refl
resumed_frames f m s (StopsBy stop) t = refl

given_free : (s : Session) (v : Verdict) (t : State) → OwnStop (resumed s v t) → IsNoFrameVerdict v
given_free s GoesOn t own = tt
given_free s (WaitsFor w) t own = tt
given_free s (StopsBy stop) t own = own stop refl

exceeds_free : (s : Session) (w : Waiting) (a : Answer) → OwnStop (given_to (Some w) s a) → (l : Limit)
    → answered s.state w a ≡ Exceeds l → IsNoFrameStop (LimitAt 0 l)
exceeds_free s w a free l e =
    let stopped : (given_to (Some w) s a).stopped ≡ Some (LimitAt s.state.pc l) =
    ap (λ (x : Step). (resumed s (verdict_of s.state x) (state_after s.state x)).stopped) e in
    anywhere l s.state.pc (free (LimitAt s.state.pc l) stopped)
  where
    anywhere : (l : Limit) (p : ℕ) → IsNoFrameStop (LimitAt p l) → IsNoFrameStop (LimitAt 0 l)
    anywhere Frames p h = h
    anywhere Words p h = h
    anywhere Steps p h = tt
    anywhere Reads p h = tt

given_same : (f m : ℕ) (s : Session) (w : Waiting) (a : Answer) → most_f s.state ≤ f → most_w s.state ≤ m
    → OwnStop (given_to (Some w) s a) → given_to (Some w) (session_in f m s) a ≡ session_in f m (given_to (Some w) s a)
given_same f m s w a few short own =
    let x = answered s.state w a in
    let bounds = goes_bounds s.state x f m (answered_bounds s.state w a) few short in
    let parts = verdict_same f m s.state x bounds (given_free s (verdict_of s.state x) (state_after s.state x) own) in
    rw (answered_same f m s.state w a few short (exceeds_free s w a own), parts.0, parts.2)
    (resumed_frames f m s (verdict_of s.state x) (state_after s.state x))

gets_same : (f m : ℕ) (s : Session) (w : Waiting) (a : Answer) → most_f s.state ≤ f → most_w s.state ≤ m
    → OwnStop (given_to (Some w) s a) → moved_by None (Some w) (session_in f m s) (Gets a) ≡ passed_in f m
    (moved_by None (Some w) s (Gets a))
unfolding answered
gets_same f m s w a few short own =
    ap (λ (e : Entry). let p : Passed = record {
      entries = e ∷ stop_told
          (given_to (Some w) (session_in f m s) a).stopped;
      to = given_to (Some w) (session_in f m s) a;
    } in p)
    (heard_same f m s w.instruction w.wait a few short (exceeds_free s w a own))
    ∙ ap (λ (t : Session). let p : Passed = record {
      entries = heard_by s w.wait a ∷ stop_told t.stopped;
      to = t;
    } in p) (given_same f m s w a few short own)

by_same : (f m : ℕ) (x : Option Stop) (y : Option Waiting) (s : Session) (n : Move) → most_f s.state ≤ f
    → most_w s.state ≤ m → OwnStop (moved_by x y s n).to → moved_by x y (session_in f m s) n ≡ passed_in f m
    (moved_by x y s n)
by_same f m None None s Goes few short own = due_same f m s.state.due s few short own
by_same f m None None s (Part n) few short own = parts_same f m n s.state.due s few short own
by_same f m None None s (Gets a) few short own = refl
by_same f m None (Some w) s Goes few short own = refl
by_same f m None (Some w) s (Part n) few short own = refl
by_same f m None (Some w) s (Gets a) few short own = gets_same f m s w a few short own
by_same f m (Some stop) y s n few short own = refl

-- ---- moves keep the bounds

abbrev SameBounds : State → State → Type 0
SameBounds s t = (most_f t ≡ most_f s) × (most_w t ≡ most_w s)

to_bounds : (s : Session) (v : Verdict) (t : State) (text : Signals) → SameBounds s.state t
    → SameBounds s.state (stepped_to s v t text).to.state
to_bounds s GoesOn t text h = h
to_bounds s (WaitsFor w) t text h = h
to_bounds s (StopsBy stop) t text h = h

steps_bounds : (n : ℕ) (s : Session) → SameBounds s.state (stepped n s).to.state
steps_bounds zero s = (refl, refl)
steps_bounds (suc n) s = to_bounds s (verdict_of s.state (step s.state)) (state_after s.state (step s.state))
    (text_left s.left s.state) (step_bounds s.state)

parted_bounds : (silent : Bool) (n : ℕ) (s : Session) (v : Verdict) (t : State) (text : Signals)
    → SameBounds s.state t → SameBounds s.state (parted_to silent n s v t text).to.state
parted_bounds true n s v t text h = (refl, refl)
parted_bounds false n s GoesOn t text h = (refl, refl)
parted_bounds false n s (WaitsFor w) t text h = (refl, refl)
parted_bounds false n s (StopsBy stop) t text h = h

part_bounds : (n k : ℕ) (s : Session) → SameBounds s.state (parted n k s).to.state
part_bounds n zero s = (refl, refl)
part_bounds n (suc k) s = parted_bounds (is_silent (text_shown (step s.state))) n s
    (verdict_of s.state (step s.state)) (state_after s.state (step s.state)) (text_left s.left s.state)
    (step_bounds s.state)

parts_bounds : (n : ℕ) (due : List ℕ) (s : Session) → SameBounds s.state (parts_by n due s).to.state
parts_bounds n [] s = part_bounds n (s.limits.steps - s.state.steps) s
parts_bounds n (c ∷ cs) s = (refl, refl)

due_bounds : (due : List ℕ) (s : Session) → SameBounds s.state (goes_by due s).to.state
due_bounds [] s = steps_bounds (s.limits.steps - s.state.steps) s
due_bounds (c ∷ cs) s = (refl, refl)

resumed_bounds : (s : Session) (v : Verdict) (t : State) → SameBounds s.state t
    → SameBounds s.state (resumed s v t).state
resumed_bounds s GoesOn t h = h
resumed_bounds s (WaitsFor w) t h = (refl, refl)
resumed_bounds s (StopsBy stop) t h = (refl, refl)

given_bounds : (s : Session) (w : Waiting) (a : Answer) → SameBounds s.state (given_to (Some w) s a).state
given_bounds s w a = resumed_bounds s (verdict_of s.state (answered s.state w a))
    (state_after s.state (answered s.state w a)) (answered_bounds s.state w a)

by_bounds : (x : Option Stop) (y : Option Waiting) (s : Session) (n : Move)
    → SameBounds s.state (moved_by x y s n).to.state
by_bounds None None s Goes = due_bounds s.state.due s
by_bounds None None s (Part n) = parts_bounds n s.state.due s
by_bounds None None s (Gets a) = (refl, refl)
by_bounds None (Some w) s Goes = (refl, refl)
by_bounds None (Some w) s (Part n) = (refl, refl)
by_bounds None (Some w) s (Gets a) = given_bounds s w a
by_bounds (Some stop) y s n = (refl, refl)

pub frame_limits_only_cut : FrameLimitsOnlyCut
unfolding passed after
frame_limits_only_cut f m [] s few short own = (refl, refl)
frame_limits_only_cut f m (n ∷ ns) s few short own =
    let t = (moved s n).to in
    let one = by_same f m s.stopped s.waiting s n few short
    (λ stop e. own stop (ap (λ (u : Session). u.stopped) (passed_stopped ns t stop e).1 ∙ e)) in
    let bounds = by_bounds s.stopped s.waiting s n in
    let rest = frame_limits_only_cut f m ns t (omega (arith, bounds.0, few)) (omega (arith, bounds.1, short)) own in (
      ap (λ (p : Passed). p.entries ++ passed ns p.to) one ∙ ap (λ (l : List Entry). (moved s n).entries ++ l)
          rest.0,
      ap (λ (p : Passed). after ns p.to) one ∙ rest.1,
    )
