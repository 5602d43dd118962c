-- Limits on frames and words, step by step.
use Rattle.std.proofs.Common.{◌≡◌, ◌∙◌, ℕ, ◌+◌, ◌≤◌, ◌⊎◌, inl, inr, Bool, true, false, List, [], ◌∷◌, ◌++◌, length}
use Rattle.std.proofs.Common.{Result, Ok, Err, refl, ap, sym, arith, nat_lt}
use Rattle.std.specs.Prelude.{if◌then◌else◌}
use Rattle.std.proofs.lemmas.Bool.Decides.{nat_tests}
use Rattle.std.proofs.lemmas.List.{length-take}
use Rattle.zk_mem.specs.declared.memory.Setup.{Setup}
use Rattle.zk_mem.specs.declared.fault.Fault.{Fault}
use Rattle.zk_mem.specs.Results.{◌>>=◌}
use Rattle.zk_state.specs.declared.refusal.Limit.{Limit}
use Rattle.zk_state.specs.declared.refusal.Limit.TheVariants.{Frames, Words, Steps, Reads}
use Rattle.zk_state.specs.declared.refusal.Refusal.{Refusal}
use Rattle.zk_state.specs.declared.refusal.Refusal.TheVariants as refusal
use Rattle.zk_state.specs.Frames.{Frame, FrameList, with_frames, frames_of, total_of, with_bounds, bounds_of}
use Rattle.zk_state.specs.Frames.{within_bounds}
use Rattle.zk_state.proofs.Calls.{within_bounds_ok}
use Rattle.zk_code.specs.declared.instr.Instr.{Instr}
use Rattle.zk_code.specs.Reading.{instr_at}
use Rattle.zk_step.specs.declared.state.ending.Next.{Next}
use Rattle.zk_step.specs.declared.state.ending.Event.{Event}
use Rattle.zk_step.specs.declared.state.ending.Next.TheVariants.{Asks, At}
use Rattle.zk_step.specs.declared.state.ending.Request.{Request}
use Rattle.zk_step.specs.declared.state.ending.Request.TheVariants.{Answer, Quit, RestoreUndo, SaveUndo}
use Rattle.zk_step.specs.declared.state.game_state.View.{View}
use Rattle.zk_step.specs.declared.state.game_state.View.TheVariants as view
use Rattle.zk_step.specs.declared.state.game_state.GameState.{GameState}
use Rattle.zk_step.specs.Instructions.{carried_out}
use Rattle.zk_mem.specs.Map.{MemoryMap}
use Rattle.zk_save.specs.States.{WholeState, gone_back, memory_back}
use Rattle.zk_step.specs.Inputs.{result_answered}
use Rattle.zk_step.specs.Laws.{fixed_parts, rebounded, moved_in}
use Rattle.zk_step.specs.Resuming.{resumed}
use Rattle.zk_step.specs.Routing.{Signals, no_signals}
use Rattle.zk_step.proofs.Sweep.{bounds_are_not_seen, answers_see_no_bounds, stories_stay, answers_leave_stories}
use Rattle.zk_vm.specs.declared.limits.Limits.{Limits}
use Rattle.zk_vm.specs.declared.waiting.Waiting.{Waiting}
use Rattle.zk_vm.specs.declared.stop.Stop.TheVariants.{Limit as LimitAt}
use Rattle.zk_vm.specs.Step.{State, Step, Verdict, asked, is_read, step, step_by, fetched, settled, led_to, waits_by}
use Rattle.zk_vm.specs.Step.{verdict_of, text_of, state_after, back_to, verdict_within, goes_to, is_past_reads}
use Rattle.zk_vm.specs.Step.{kept_answer}
use Rattle.zk_vm.specs.Step.{text_within, most_reads, view_before, with_kept}
use Rattle.zk_vm.specs.Step.Step.{Goes, Waits, Quits, Faults, Exceeds}
use Rattle.zk_vm.specs.Step.Verdict.{GoesOn, WaitsFor, StopsBy}
use Rattle.zk_step.specs.View.{viewed, viewed_by, lines_shown, rows_shown, status_text}
use Rattle.zk_vm.proofs.OneStep.{goes_same, step_all}
use Rattle.zk_vm.proofs.Sounds.{back_fixed}
use Rattle.zk_vm.specs.Laws.{IsNoFrameStop, IsWithin, state_in}

-- a step from a state with other bounds
unfoldable pub step_in : ℕ → ℕ → Step → Step
step_in f w (Goes s text) = Goes (state_in f w s) text
step_in f w (Waits s waiting text) = Waits (state_in f w s) waiting text
step_in f w Quits = Quits
step_in f w (Faults e) = Faults e
step_in f w (Exceeds l) = Exceeds l

-- so is one by a value that is moved
pub step_by_same : {A : Type 0} (f m : ℕ) (a b : GameState × A → Step) (r : Result (GameState × A) Fault)
    → ((x : GameState × A) → b (rebounded f m x.0, x.1) ≡ step_in f m (a x))
    → step_by b (moved_in f m r) ≡ step_in f m (step_by a r)
unfolding step_in
step_by_same {A} f m a b (Ok x) same = same x
step_by_same {A} f m a b (Err e) same = refl

-- the view looks at no bounds
lines_same : (f m : ℕ) (w : GameState) (cs : List ℕ) → ◌≡◌ {A = Result (GameState × Signals) Fault}
    (Ok (lines_shown (rebounded f m w) cs)) (moved_in f m (Ok (lines_shown w cs)))
unfolding lines_shown
lines_same f m w [] = refl
lines_same f m w (c ∷ cs) = refl

viewed_by_same : (f m : ℕ) (v : View) (w : GameState) → viewed_by v (rebounded f m w) ≡ moved_in f m (viewed_by v w)
viewed_by_same f m view.Plain w = refl
viewed_by_same f m view.Upper w = go (status_text w.memory)
  where
    go : (r : Result (List ℕ) Fault)
        → (r >>= λ status. Ok (lines_shown (rebounded f m w) (status ++ rows_shown w.windows 1 w.windows.height)))
        ≡ moved_in f m (r >>= λ status. Ok (lines_shown w (status ++ rows_shown w.windows 1 w.windows.height)))
    go (Ok status) = lines_same f m w (status ++ rows_shown w.windows 1 w.windows.height)
    go (Err e) = refl

viewed_same : (f m : ℕ) (w : GameState) → viewed (rebounded f m w) ≡ moved_in f m (viewed w)
unfolding viewed
viewed_same f m w = viewed_by_same f m w.view w

waits_by_same : (f m : ℕ) (s : State) (i : Instr) (event : Event) (r : Result (GameState × Signals) Fault)
    → waits_by (state_in f m s) i event (moved_in f m r) ≡ step_in f m (waits_by s i event r)
unfolding step_in
waits_by_same f m s i event r = step_by_same f m _ _ r (λ x. refl)

view_before_same : (f m : ℕ) (event : Event) (w : GameState) → view_before event (rebounded f m w) ≡ moved_in f m
    (view_before event w)
view_before_same f m event w = go (is_read event)
  where
    go : (b : Bool) → (if b then viewed (rebounded f m w) else Ok (rebounded f m w, no_signals)) ≡ moved_in f m
        (if b then viewed w else Ok (w, no_signals))
    go true = viewed_same f m w
    go false = refl

-- what was finished in silence leads to the same
pub goes_to_same : (f m : ℕ) (s : State) (undo : List WholeState) (r : Result (GameState × ℕ) Fault)
    → goes_to (state_in f m s) undo (moved_in f m r) ≡ step_in f m (goes_to s undo r)
unfolding step_in
goes_to_same f m s undo r = step_by_same f m _ _ r (λ x. refl)

-- so does a state that is back
pub frames_same : (f m : ℕ) (s : FrameList) (fs : List Frame) → with_frames (with_bounds f m s) fs ≡ with_bounds f
    m (with_frames s fs)
frames_same f m s [] = refl
frames_same f m s (x ∷ fs) = refl

back_same : (f m : ℕ) (s : State) (i : Instr) (w : GameState) (ws : List WholeState)
    → back_to (state_in f m s) i (rebounded f m w) (gone_back ws w.memory (with_bounds f m w.frames)) ≡ step_in f m
    (back_to s i w (gone_back ws w.memory w.frames))
unfolding gone_back
back_same f m s i w [] = ap (goes_to (state_in f m s) s.undo) (answers_see_no_bounds.result f m w i 0 false)
    ∙ goes_to_same f m s s.undo (result_answered w i 0 false)
back_same f m s i w (x ∷ ws) =
    let v : GameState = record w { memory = memory_back x w.memory; frames = with_frames w.frames x.frames } in
    ap (λ (g : FrameList). goes_to (state_in f m s) ws
    (resumed (record w { memory = memory_back x w.memory; frames = g }) x.pc)) (frames_same f m w.frames x.frames)
    ∙ ap (goes_to (state_in f m s) ws) (answers_see_no_bounds.back f m v x.pc) ∙ goes_to_same f m s ws (resumed v x.pc)

asked_same : (f m : ℕ) (s : State) (i : Instr) (w : GameState) (x : Request)
    → asked (state_in f m s) i (rebounded f m w) x ≡ step_in f m (asked s i w x)
unfolding step_in
asked_same f m s i w (Answer event) = ap (waits_by (state_in f m s) i event) (view_before_same f m event w)
    ∙ waits_by_same f m s i event (view_before event w)
asked_same f m s i w SaveUndo =
    ap (goes_to (state_in f m s) (with_kept s i w))
    (answers_see_no_bounds.result f m w i (kept_answer w.memory.setup.undo_states) true)
    ∙ goes_to_same f m s (with_kept s i w) (result_answered w i (kept_answer w.memory.setup.undo_states) true)
asked_same f m s i w RestoreUndo = back_same f m s i w s.undo
asked_same f m s i w Quit = refl

led_same : (f m : ℕ) (s : State) (i : Instr) (w : GameState) (text : Signals) (n : Next)
    → led_to (state_in f m s) i (rebounded f m w) text n ≡ step_in f m (led_to s i w text n)
unfolding step_in
led_same f m s i w text (At pc) = refl
led_same f m s i w text (Asks x) = asked_same f m s i w x

settled_same : (f m : ℕ) (s : State) (i : Instr) (r : Result (GameState × (Next × Signals)) Fault)
    → settled (state_in f m s) i (moved_in f m r) ≡ step_in f m (settled s i r)
settled_same f m s i r = step_by_same f m _ _ r (λ x. led_same f m s i x.0 x.1.1 x.1.0)

fetched_same : (f m : ℕ) (s : State) (r : Result Instr Fault) → fetched (state_in f m s) r ≡ step_in f m (fetched s r)
unfolding step_in
fetched_same f m s (Ok i) =
    ap (settled (state_in f m s) i) (bounds_are_not_seen f m s.game i) ∙ settled_same f m s i (carried_out s.game i)
fetched_same f m s (Err e) = refl

pub step_same : (f m : ℕ) (s : State) → step (state_in f m s) ≡ step_in f m (step s)
unfolding step
step_same f m s = fetched_same f m s (instr_at s.game.memory s.pc)

-- frames that pass the test are within their bounds
pub within_is : (s t : FrameList) → within_bounds s ≡ Ok t → (length (frames_of s) ≤ s.most_frames)
    × (total_of s ≤ s.most_words)
unfolding within_bounds
within_is s t h = go (nat_lt s.most_frames (length (frames_of s))) (nat_lt s.most_words (total_of s)) refl refl h
  where
    go : (b c : Bool) → nat_lt s.most_frames (length (frames_of s)) ≡ b → nat_lt s.most_words (total_of s) ≡ c
        → (if b then Err (refusal.Limit Frames) else (if c then Err (refusal.Limit Words) else Ok s)) ≡ Ok t
        → (length (frames_of s) ≤ s.most_frames) × (total_of s ≤ s.most_words)
    go true c d e k = absurd cc
    go false true d e k = absurd cc
    go false false d e k = (grind (arith, nat_tests, d), grind (arith, nat_tests, e))

pub within_more : (s t : FrameList) (f m : ℕ) → s.most_frames ≤ f → s.most_words ≤ m → within_bounds s ≡ Ok t
    → within_bounds (with_bounds f m s) ≡ Ok (with_bounds f m s)
within_more s t f m few short h =
    let both = within_is s t h in
    within_bounds_ok (with_bounds f m s) (omega (arith, both.0)) (omega (arith, both.1))

-- what is over the bounds is over one of the two
pub over_is : (s : FrameList) (e : Refusal) → within_bounds s ≡ Err e → (e ≡ refusal.Limit Frames)
    ⊎ (e ≡ refusal.Limit Words)
unfolding within_bounds
over_is s e h = go (nat_lt s.most_frames (length (frames_of s))) (nat_lt s.most_words (total_of s)) h
  where
    go : (b c : Bool) → (if b then Err (refusal.Limit Frames)
        else (if c then Err (refusal.Limit Words) else Ok s)) ≡ Err e → (e ≡ refusal.Limit Frames)
        ⊎ (e ≡ refusal.Limit Words)
    go true c k = inl cc
    go false true k = inr cc
    go false false k = absurd cc

-- a step keeps the bounds
keeps : (s t : State) (text : Signals) → step s ≡ Goes t text → bounds_of t.game.frames ≡ bounds_of s.game.frames
unfolding bounds_of step_in
keeps s t text h =
    let same = step_same s.game.frames.most_frames s.game.frames.most_words s in
    let again : Goes t text ≡ Goes (state_in s.game.frames.most_frames s.game.frames.most_words t) text = sym h
    ∙ same ∙ ap (step_in s.game.frames.most_frames s.game.frames.most_words) h in
    ap (λ (u : State). bounds_of u.game.frames)
    (goes_same t (state_in s.game.frames.most_frames s.game.frames.most_words t) text text again)

-- a step within the bounds is within greater ones
pub no_fault : (s : FrameList) (g : Fault) → within_bounds s ≡ Err (refusal.Fault g) → ⊥
no_fault s g e = go (over_is s (refusal.Fault g) e)
  where
    go : ((refusal.Fault g ≡ refusal.Limit Frames) ⊎ (refusal.Fault g ≡ refusal.Limit Words)) → ⊥
    go (inl d) = absurd cc
    go (inr d) = absurd cc

pub by_limit : (pc : ℕ) (j : Limit) → ((refusal.Limit j ≡ refusal.Limit Frames)
    ⊎ (refusal.Limit j ≡ refusal.Limit Words)) → IsNoFrameStop (LimitAt pc j) → ⊥
by_limit pc Frames d own = own
by_limit pc Words d own = own
by_limit pc Steps (inl d) own = absurd cc
by_limit pc Steps (inr d) own = absurd cc
by_limit pc Reads (inl d) own = absurd cc
by_limit pc Reads (inr d) own = absurd cc

-- a run does not stop by a limit on frames or words
abbrev pub IsNoFrameVerdict : Verdict → Type 0
IsNoFrameVerdict (StopsBy stop) = IsNoFrameStop stop
IsNoFrameVerdict _ = Unit {0}

-- what becomes of a step, with other bounds: the same, and the same text
pub verdict_same : (f m : ℕ) (s : State) (x : Step)
    → ((t : State) (text : Signals) → x ≡ Goes t text → (t.game.frames.most_frames ≤ f)
    × (t.game.frames.most_words ≤ m))
    → IsNoFrameVerdict (verdict_of s x)
    → (verdict_of (state_in f m s) (step_in f m x) ≡ verdict_of s x)
    × (text_of (state_in f m s) (step_in f m x) ≡ text_of s x)
    × (state_after (state_in f m s) (step_in f m x) ≡ state_in f m (state_after s x))
unfolding step_in
verdict_same f m s (Goes t text) bounds own = go (within_bounds t.game.frames) refl own
  where
    go : (r : Result FrameList Refusal) → within_bounds t.game.frames ≡ r → IsNoFrameVerdict (verdict_within s.pc r)
        → (verdict_within s.pc (within_bounds (with_bounds f m t.game.frames)) ≡ verdict_within s.pc r)
        × (text_within (within_bounds (with_bounds f m t.game.frames)) text ≡ text_within r text)
        × (state_in f m t ≡ state_in f m t)
    go (Ok u) e k =
        let least = bounds t text refl in
        let more = within_more t.game.frames u f m least.0 least.1 e in
        (rw more refl, rw more refl, refl)
    go (Err (refusal.Fault g)) e k = absurd (no_fault t.game.frames g e)
    go (Err (refusal.Limit l)) e k = absurd (by_limit s.pc l (over_is t.game.frames (refusal.Limit l) e) k)
verdict_same f m s (Waits t waiting text) bounds own = (refl, refl, refl)
verdict_same f m s Quits bounds own = (refl, refl, refl)
verdict_same f m s (Faults e) bounds own = (refl, refl, refl)
verdict_same f m s (Exceeds l) bounds own = (refl, refl, refl)

-- a step that goes on leads to a state
past_or_waits : (b : Bool) (pc : ℕ) (waiting : Waiting)
    → (if b then StopsBy (LimitAt pc Reads) else WaitsFor waiting) ≡ GoesOn → ⊥
past_or_waits true pc waiting h = absurd cc
past_or_waits false pc waiting h = absurd cc

pub goes_on_to : (s : State) (x : Step) → verdict_of s x ≡ GoesOn → (t : State) × ((text : Signals) × (x ≡ Goes t text))
goes_on_to s (Goes t text) h = (t, (text, refl))
goes_on_to s (Waits t waiting text) h = absurd (past_or_waits (is_past_reads s.reads waiting.wait) s.pc waiting h)
goes_on_to s Quits h = absurd cc
goes_on_to s (Faults e) h = absurd cc
goes_on_to s (Exceeds l) h = absurd cc

-- a step counts, and keeps no more states than memory says
pub record Counts (s t : State) : Type 0 where
  pub steps : t.steps ≡ s.steps + 1
  pub reads : t.reads ≡ s.reads
  pub due : t.due ≡ s.due
  pub most : t.game.memory.setup.undo_states ≡ s.game.memory.setup.undo_states
  pub undo : length s.undo ≤ s.game.memory.setup.undo_states → length t.undo ≤ s.game.memory.setup.undo_states

pub same_most : (m n : MemoryMap) → fixed_parts n ≡ fixed_parts m → n.setup.undo_states ≡ m.setup.undo_states
unfolding fixed_parts
same_most m n e = ap (λ (p : (ℕ × ℕ) × (List ℕ × Setup)). p.1.1.undo_states) e

-- where a step goes on, it counts
abbrev CountsOn : State → Step → Type 0
CountsOn s x = (t : State) (text : Signals) → x ≡ Goes t text → Counts s t

goes_counts : (s : State) (undo : List WholeState) (r : Result (GameState × ℕ) Fault)
    → ((x : GameState × ℕ) → r ≡ Ok x → x.0.memory.setup.undo_states ≡ s.game.memory.setup.undo_states)
    → (length s.undo ≤ s.game.memory.setup.undo_states → length undo ≤ s.game.memory.setup.undo_states)
    → CountsOn s (goes_to s undo r)
goes_counts s undo r most few =
    step_all (CountsOn s) _ r (λ x e t more h. counted x e t more (sym (goes_same _ t no_signals more h)))
    (λ f e t more h. absurd cc)
  where
    counted : (x : GameState × ℕ) → r ≡ Ok x → (t : State) (more : Signals)
        → t ≡ record s { game = x.0; pc = x.1; steps = s.steps + 1; undo = undo } → Counts s t
    counted x e t more same = record {
      steps = ap (λ (u : State). u.steps) same;
      reads = ap (λ (u : State). u.reads) same;
      due = ap (λ (u : State). u.due) same;
      most = ap (λ (u : State). u.game.memory.setup.undo_states) same ∙ most x e;
      undo =
          λ k. let here = few k in let length_is = ap (λ (u : State). length u.undo) same in
          omega (arith, here, length_is);
    }

back_counts : (s : State) (i : Instr) (w : GameState) (ws : List WholeState)
    → w.memory.setup.undo_states ≡ s.game.memory.setup.undo_states → length ws ≤ length s.undo
    → CountsOn s (back_to s i w (gone_back ws w.memory w.frames))
unfolding gone_back
back_counts s i w [] most few = goes_counts s s.undo (result_answered w i 0 false)
    (λ x e. same_most w.memory x.0.memory (answers_leave_stories.result w i 0 false x e) ∙ most) (λ k. k)
back_counts s i w (v ∷ ws) most few =
    let u : GameState = record w { memory = memory_back v w.memory; frames = with_frames w.frames v.frames } in
    goes_counts s ws (resumed u v.pc) (λ x e. same_most u.memory x.0.memory
    (answers_leave_stories.back u v.pc x e) ∙ same_most w.memory u.memory (back_fixed v w.memory) ∙ most)
    (λ k. omega (arith, k, few))

asked_counts : (s : State) (i : Instr) (w : GameState) (x : Request)
    → w.memory.setup.undo_states ≡ s.game.memory.setup.undo_states → CountsOn s (asked s i w x)
asked_counts s i w (Answer event) most =
    step_all (CountsOn s) _ (view_before event w) (λ v e t more h. absurd cc) (λ f e t more h. absurd cc)
asked_counts s i w SaveUndo most =
    let short : length (with_kept s i w) ≤ s.game.memory.setup.undo_states = rw (← most, length-take) (omega arith) in
    goes_counts s (with_kept s i w) (result_answered w i (kept_answer w.memory.setup.undo_states) true)
    (λ x e. same_most w.memory x.0.memory (answers_leave_stories.result w i (kept_answer w.memory.setup.undo_states)
    true x e) ∙ most) (λ k. short)
asked_counts s i w RestoreUndo most = back_counts s i w s.undo most (omega arith)
asked_counts s i w Quit most = λ t more h. absurd cc

led_counts : (s : State) (i : Instr) (w : GameState) (text : Signals) (n : Next)
    → w.memory.setup.undo_states ≡ s.game.memory.setup.undo_states → CountsOn s (led_to s i w text n)
led_counts s i w text (At pc) most = λ t more h.
    let same = sym (goes_same _ t text more h) in
    record {
      steps = ap (λ (u : State). u.steps) same;
      reads = ap (λ (u : State). u.reads) same;
      due = ap (λ (u : State). u.due) same;
      most = ap (λ (u : State). u.game.memory.setup.undo_states) same ∙ most;
      undo = λ k. let length_is = ap (λ (u : State). length u.undo) same in omega (arith, k, length_is);
    }
led_counts s i w text (Asks x) most = asked_counts s i w x most

settled_counts : (s : State) (i : Instr) → CountsOn s (settled s i (carried_out s.game i))
settled_counts s i =
    step_all (CountsOn s) _ (carried_out s.game i)
    (λ r e. led_counts s i r.0 r.1.1 r.1.0 (same_most s.game.memory r.0.memory (stories_stay s.game i r e)))
    (λ f e t more h. absurd cc)

pub counts : (s t : State) (text : Signals) → step s ≡ Goes t text → Counts s t
unfolding step
counts s t text = step_all (CountsOn s) _ (instr_at s.game.memory s.pc) (λ i e. settled_counts s i)
    (λ f e t more h. absurd cc) t text

-- a step that goes on leads to a state within the limits
pub after_goes : (l : Limits) (s t : State) (text : Signals) (u : FrameList) → step s ≡ Goes t text
    → bounds_of s.game.frames ≡ (l.frames, l.words) → s.game.memory.setup.undo_states ≡ l.undo → s.steps + 1 ≤ l.steps
    → s.reads ≤ most_reads → length s.undo ≤ l.undo
    → within_bounds t.game.frames ≡ Ok u → IsWithin l t × (bounds_of t.game.frames ≡ (l.frames, l.words))
    × (t.game.memory.setup.undo_states ≡ l.undo)
unfolding bounds_of
after_goes l s t text u e b most few read kept h =
    let most_of = within_is t.game.frames u h in
    let same = keeps s t text e ∙ b in
    let more = counts s t text e in
    let f : t.game.frames.most_frames ≡ l.frames = ap (λ (p : ℕ × ℕ). p.0) same in
    let w : t.game.frames.most_words ≡ l.words = ap (λ (p : ℕ × ℕ). p.1) same in
    let before : length s.undo ≤ s.game.memory.setup.undo_states = omega (arith, kept, most) in
    let after = more.undo before in (
      record {
        frames = omega (arith, most_of.0, f);
        words = omega (arith, most_of.1, w);
        steps = omega (arith, more.steps);
        reads = omega (arith, more.reads);
        undo = omega (arith, after, most);
      },
      same,
      more.most ∙ most,
    )
