-- A step, by how the instruction that was carried out goes on.
use Rattle.std.specs.Prelude.{◌&&◌, if◌then◌else◌}
use Rattle.std.proofs.Common.{◌≡◌, ◌∙◌, ◌≤◌, ◌<◌, inl, inr, ℕ, ◌+◌, ◌-◌, List, [], ◌∷◌, ◌++◌, take, Bool, true, false}
use Rattle.std.proofs.Common.{Option, Some, None, Result, Ok, Err, refl, ap, sym, subst, arith, nat_le, nat_lt}
use Rattle.std.proofs.lemmas.Bool.Decides.{nat_tests}
use Rattle.zk_mem.specs.declared.memory.Setup.{Setup}
use Rattle.zk_mem.specs.declared.fault.Fault.{Fault}
use Rattle.zk_mem.specs.Map.{MemoryMap}
use Rattle.zk_mem.specs.Results.{◌>>=◌}
use Rattle.zk_state.specs.declared.refusal.Refusal.{Refusal}
use Rattle.zk_state.specs.declared.refusal.Refusal.TheVariants as refusal
use Rattle.zk_state.specs.declared.refusal.Limit.TheVariants.{Reads}
use Rattle.zk_state.specs.Frames.{FrameList, bounds_of, within_bounds}
use Rattle.zk_code.specs.declared.instr.Instr.{Instr}
use Rattle.zk_code.specs.Reading.{instr_at}
use Rattle.zk_save.specs.States.{AreOf, UndoStates, WholeState, gone_back, state_of, states_in}
use Rattle.zk_step.specs.declared.state.ending.Next.{Next}
use Rattle.zk_step.specs.declared.state.ending.Next.TheVariants.{Asks, At}
use Rattle.zk_step.specs.declared.state.ending.Event.{Event}
use Rattle.zk_step.specs.declared.state.ending.Request.{Request}
use Rattle.zk_step.specs.declared.state.ending.Request.TheVariants.{Answer, Quit, RestoreUndo, SaveUndo}
use Rattle.zk_step.specs.declared.state.game_state.GameState.{GameState}
use Rattle.zk_step.specs.Inputs.{result_answered}
use Rattle.zk_step.specs.Effects.{effect_of}
use Rattle.zk_step.specs.Finish.{finished}
use Rattle.zk_step.specs.Instructions.{carried_out}
use Rattle.zk_step.specs.Laws.{fixed_parts, AsksBy}
use Rattle.zk_step.specs.Limited.{kept, limited_move, text_in}
use Rattle.zk_step.specs.Routing.{Signals, no_signals, routed}
use Rattle.zk_step.specs.Saving.{saving}
use Rattle.zk_step.specs.Variables.{operands_read}
use Rattle.zk_step.proofs.Sweep.{stories_stay}
use Rattle.zk_fast.specs.declared.cache.Cache.{Cache}
use Rattle.zk_fast.specs.Caches.{IsCacheOf}
use Rattle.zk_vm.specs.Bounds.{setup_of}
use Rattle.zk_vm.specs.declared.machine.Machine.TheInside.{Inside}
use Rattle.zk_vm.specs.declared.stop.Stop.{Stop}
use Rattle.zk_vm.specs.declared.stop.Stop.TheVariants as stop
use Rattle.zk_vm.specs.declared.waiting.Waiting.{Waiting}
use Rattle.zk_vm.specs.Going.{stop_by, IsPut, Settles}
use Rattle.zk_vm.specs.Halts.{Halt, IsKeeping, IsLeftAt, IsStep, KeepsState, StepsTo, halt_by}
use Rattle.zk_vm.specs.Sessions.{Session}
use Rattle.zk_vm.specs.Sound.{state_seen, IsOfStory, IsSound}
use Rattle.zk_vm.specs.Step.{State, Step, Verdict, asked, back_to, fetched, settled, verdict_within, goes_to}
use Rattle.zk_vm.specs.Step.{is_past_reads}
use Rattle.zk_vm.specs.Step.{is_read, kept_answer, led_to, most_reads, state_after, step, text_of, text_within}
use Rattle.zk_vm.specs.Step.{verdict_of, waits_by, with_kept}
use Rattle.zk_vm.specs.Step.Step.{Goes, Waits as Awaits, Quits, Faults, Exceeds}
use Rattle.zk_vm.specs.Step.Verdict.{GoesOn, WaitsFor, StopsBy}
use Rattle.zk_step.specs.declared.state.game_state.View.{View}
use Rattle.zk_step.specs.declared.state.game_state.View.TheVariants as view
use Rattle.zk_step.specs.View.{viewed, viewed_by, lines_shown, rows_shown, status_text}
use Rattle.zk_vm.proofs.Going.{stops_by}
use Rattle.zk_vm.proofs.Keeping.{seen, same_states}
use Rattle.zk_vm.specs.declared.limits.Limits.{Limits}
use Rattle.zk_vm.proofs.OneStep.{step_all}
use Rattle.zk_vm.proofs.Asking.{asks}
use Rattle.zk_step.proofs.Operands.{operands_memory}
use Rattle.zk_step.proofs.WithinBounds.{move_is}
use Rattle.zk_step.proofs.SameStory.{same_version}
use Rattle.zk_vm.proofs.Sounds.{running, while_running, same_setup, sound_now, story_stays}

-- ---- what was carried out

pub carried_fixed : (w : GameState) (i : Instr) (v : GameState) (n : Next) (t : Signals)
    → limited_move (carried_out w i) ≡ Ok (v, (n, t)) → fixed_parts v.memory ≡ fixed_parts w.memory
carried_fixed w i v n t h = stories_stay w i (v, (n, t)) (move_is (carried_out w i) (v, (n, t)) h)

-- the step leads there
step_is : (s : State) (i : Instr) (v : GameState) (n : Next) (t : Signals) → instr_at s.game.memory s.pc ≡ Ok i
    → carried_out s.game i ≡ Ok (v, (n, t)) → step s ≡ led_to s i v t n
unfolding step
step_is s i v n t h k = ap (fetched s) h ∙ ap (settled s i) k

pub fetched_is : (s : State) (i : Instr) → instr_at s.game.memory s.pc ≡ Ok i
    → step s ≡ settled s i (carried_out s.game i)
unfolding step
fetched_is s i h = ap (fetched s) h

fault_is : (s : State) (f : Fault) → instr_at s.game.memory s.pc ≡ Err f → step s ≡ Faults f
unfolding step
fault_is s f h = ap (fetched s) h

-- ---- a machine whose instruction was carried out

pub sound_moved : (m n : Inside) (i : Instr) (x : Next) (t : Signals) → IsSound m → m.stopped ≡ None
    → n.limits ≡ m.limits → n.waiting ≡ None → n.steps ≤ m.limits.steps → n.reads ≡ m.reads → n.undo ≡ m.undo
    → n.cache ≡ m.cache
    → limited_move (carried_out m.game i) ≡ Ok (n.game, (x, t)) → bounds_of n.game.frames ≡ bounds_of
    m.game.frames → IsSound n
sound_moved m n i x t is runs limits free steps reads undo same told bounds =
    let has = running m.stopped (IsOfStory m) runs is.story in
    let are = subst (λ (u : UndoStates). AreOf m.game.memory m.game.frames u) (sym undo) has.are_of in
    let cache = subst (λ (k : Cache). IsCacheOf (fixed_parts m.game.memory) k) (sym same) has.cache in
    sound_now m n is limits free steps (rw reads is.reads) (ap (λ (u : UndoStates). u.most) undo) bounds
    (λ e. story_stays n m.game are (has.memory ∙ ap (λ (l : Limits). setup_of l) (sym limits)) cache
    (carried_fixed m.game i n.game x t told) bounds)

-- ---- what is asked of a machine, from the state before and from the one after the instruction

asked_moved : (s : State) (i : Instr) (w : GameState) (x : Request) → w.memory.version ≡ s.game.memory.version
    → asked (record s { game = w }) i w x ≡ asked s i w x
asked_moved s i w (Answer event) e = refl
asked_moved s i w SaveUndo e =
    ap (λ (v : ℕ). goes_to s (take w.memory.setup.undo_states
    (state_of w.memory w.frames (if nat_lt v 4 then s.pc + 1 else i.next - 1) ∷ s.undo))
    (result_answered w i (kept_answer w.memory.setup.undo_states) true)) e
asked_moved s i w RestoreUndo e = go (gone_back s.undo w.memory w.frames)
  where
    go : (q : Option (MemoryMap × FrameList × ℕ × List WholeState))
        → back_to (record s { game = w }) i w q ≡ back_to s i w q
    go None = refl
    go (Some (m, f, p, others)) = refl
asked_moved s i w Quit e = refl

-- from the state after it the step leads to the same
step_moved : (m : Inside) (i : Instr) (w : GameState) (x : Request) (t : Signals)
    → instr_at m.game.memory m.pc ≡ Ok i → limited_move (carried_out m.game i) ≡ Ok (w, (Asks x, t))
    → step (state_seen m) ≡ asked (state_seen (record m { game = w })) i w x
step_moved m i w x t h told =
    let fixed = carried_fixed m.game i w (Asks x) t told in
    let undo : states_in w.memory.file m.undo ≡ states_in m.game.memory.file m.undo = same_states m.game.memory
    w.memory m.undo fixed in
    step_is (state_seen m) i w (Asks x) t h (move_is (carried_out m.game i) (w, (Asks x, t)) told)
    ∙ sym (asked_moved (state_seen m) i w x (same_version m.game.memory w.memory fixed))
    ∙ ap (λ (u : List WholeState). asked (record (state_seen m) { game = w; undo = u }) i w x) (sym undo)

-- what is left of the one is left of the other
left_goes : (old new : Session) (w : GameState) (u : List WholeState) (v : Verdict) (t : State)
    → IsPut (record old { state = record old.state { game = w; undo = u } }) new v t → IsLeftAt old new v t
left_goes old new w u GoesOn t put = put
left_goes old new w u (WaitsFor x) t put = put
left_goes old new w u (StopsBy stop) t put = put.1

left_moved : (old new : Session) (w : GameState) (u : List WholeState) (x : Step)
    → IsPut (record old { state = record old.state { game = w; undo = u } }) new (verdict_of old.state x)
    (state_after (record old.state { game = w; undo = u }) x)
    → IsLeftAt old new (verdict_of old.state x) (state_after old.state x)
left_moved old new w u (Goes t text) put =
    left_goes old new w u (verdict_within old.state.pc (within_bounds t.game.frames)) t put
left_moved old new w u (Awaits t waiting text) put =
    left_goes old new w u (verdict_of old.state (Awaits t waiting text)) t put
left_moved old new w u Quits put = put.1
left_moved old new w u (Faults f) put = put.1
left_moved old new w u (Exceeds l) put = put.1

-- ---- an instruction that keeps a state or goes back shows nothing

silent_by : (s : State) (undo : List WholeState) (r : Result (GameState × ℕ) Fault)
    → text_of s (goes_to s undo r) ≡ no_signals
silent_by s undo r = step_all (λ x. text_of s x ≡ no_signals) _ r (λ x e. go (within_bounds x.0.frames)) (λ f e. refl)
  where
    go : (q : Result FrameList Refusal) → text_within q no_signals ≡ no_signals
    go (Ok u) = refl
    go (Err e) = refl

keeps_silent : (s : State) (i : Instr) (w : GameState) → text_of s (asked s i w SaveUndo) ≡ no_signals
keeps_silent s i w = silent_by s (with_kept s i w) (result_answered w i (kept_answer w.memory.setup.undo_states) true)

-- ---- the ways of a step

-- an instruction has asked something of the machine, which goes on as it says from the state after it
-- an instruction that asks for something is still the one that stands there
pub still_there : (m : Inside) (w : GameState) (i : Instr) (x : Request) (t : Signals)
    → instr_at m.game.memory m.pc ≡ Ok i → limited_move (carried_out m.game i) ≡ Ok (w, (Asks x, t))
    → instr_at w.memory m.pc ≡ Ok i
still_there m w i x t h told =
    let has = asks m.game i w x t (move_is (carried_out m.game i) (w, (Asks x, t)) told) in
    ap (λ (n : MemoryMap). instr_at n m.pc) (operands_memory i.operands m.game w has.values has.operands) ∙ h

pub stepped_asked : {S : Type 0} (shows : S → S → Signals → Type 0)
    (twice : (a b c : S) (s t : Signals) → shows a b s → shows b c t → shows a c (s ++ t))
    (a b c : S) (m : Inside) (new : Session) (i : Instr) (w : GameState) (x : Request) (t : Signals)
    (answer : Result (Unit {0}) Halt)
    → instr_at m.game.memory m.pc ≡ Ok i → limited_move (carried_out m.game i) ≡ Ok (w, (Asks x, t)) → t ≡ no_signals
    → shows a b t
    → Settles (seen (record m { game = w })) new answer (asked (state_seen (record m { game = w })) i w x)
    → shows b c (text_of (state_seen m) (asked (state_seen (record m { game = w })) i w x))
    → IsStep (seen m) new answer (λ y. shows a c y)
stepped_asked {S} shows twice a b c m new i w x t answer h told quiet first settles rest =
    let none : shows a b [] = subst (λ (y : Signals). shows a b y) quiet first in
    inl (subst (λ (y : Step). StepsTo y (seen m) new answer (λ z. shows a c z))
    (sym (step_moved m i w x t h told)) (record {
      tells = settles.tells;
      left = left_moved (seen m) new w (states_in w.memory.file m.undo)
          (asked (state_seen (record m { game = w })) i w x) settles.put;
      shown = twice a b c [] _ none rest;
    }))

-- ---- an instruction that keeps a state

-- it is one, where the machine is asked to keep a state
pub asks_keeps : (w v : GameState) (i : Instr) (x : Request) (t : Signals)
    → limited_move (carried_out w i) ≡ Ok (v, (Asks x, t)) → x ≡ SaveUndo → KeepsState i
asks_keeps w v i x t told saves =
    subst (AsksBy i.opcode) saves (asks w i v x t (move_is (carried_out w i) (v, (Asks x, t)) told)).by

-- what it shows is nothing
pub shown_silent : (old new : Session) (answer : Result (Unit {0}) Halt) (Shown : Signals → Type 0)
    → IsStep old new answer (λ t. t ≡ no_signals) → Shown no_signals → IsStep old new answer Shown
shown_silent old new answer Shown (inl made) shown =
    inl (record { tells = made.tells; left = made.left; shown = subst Shown (sym made.shown) shown })
shown_silent old new answer Shown (inr (tells, same, (keeping, silent))) shown = inr (tells, same, (keeping, shown))

-- its operands are taken, and it asks the machine to keep a state
pub keeps_asks : (w v : GameState) (i : Instr) (vs : List ℕ) → KeepsState i
    → operands_read w i.operands ≡ Ok (v, vs) → limited_move (carried_out w i) ≡ Ok (v, (Asks SaveUndo, no_signals))
unfolding carried_out effect_of saving routed finished
keeps_asks w v i vs keeps taken = rw (taken, keeps) refl

-- where they can't be taken, it is refused
pub keeps_refused : (w : GameState) (i : Instr) (f : Fault) → operands_read w i.operands ≡ Err f
    → limited_move (carried_out w i) ≡ Err (refusal.Fault f)
unfolding carried_out
keeps_refused w i f refused = rw refused refl

-- it settles as the step does
pub kept_settled : (m : Inside) (new : Session) (i : Instr) (w : GameState) (vs : List ℕ)
    (answer : Result (Unit {0}) Halt) (Shown : Signals → Type 0) → instr_at m.game.memory m.pc ≡ Ok i → KeepsState i
    → operands_read m.game i.operands ≡ Ok (w, vs)
    → Settles (seen (record m { game = w })) new answer (asked (state_seen (record m { game = w })) i w SaveUndo)
    → Shown no_signals → IsStep (seen m) new answer Shown
kept_settled m new i w vs answer Shown h keeps taken settles shown =
    let told = keeps_asks m.game w i vs keeps taken in
    let silent : text_of (state_seen m) (asked (state_seen (record m { game = w })) i w SaveUndo)
    ≡ no_signals = keeps_silent (state_seen (record m { game = w })) i w in
    inl (subst (λ (y : Step). StepsTo y (seen m) new answer Shown)
    (sym (step_moved m i w SaveUndo no_signals h told)) (record {
      tells = settles.tells;
      left = left_moved (seen m) new w (states_in w.memory.file m.undo)
          (asked (state_seen (record m { game = w })) i w SaveUndo) settles.put;
      shown = subst Shown (sym silent) shown;
    }))

-- its operands are given back: the machine stands as before
pub sound_back : (m : Inside) (v : GameState) → IsSound m → m.stopped ≡ None → m.waiting ≡ None
    → fixed_parts v.memory ≡ fixed_parts m.game.memory → bounds_of v.frames ≡ bounds_of m.game.frames
    → IsSound (record m { game = v })
sound_back m v is runs free same bounds =
    let has = running m.stopped (IsOfStory m) runs is.story in
    sound_now m (record m { game = v }) is refl free is.steps is.reads refl bounds
    (λ e. story_stays (record m { game = v }) m.game has.are_of has.memory has.cache same bounds)

pub stands_back : (m n : Inside) (w : GameState) → fixed_parts w.memory ≡ fixed_parts m.game.memory
    → seen n ≡ seen (record m { game = w }) → seen (record n { game = m.game }) ≡ seen m
stands_back m n w fixed same =
    let game : n.game ≡ w = ap (λ (s : Session). s.state.game) same in
    let here : fixed_parts n.game.memory ≡ fixed_parts m.game.memory = ap (λ (v : GameState). fixed_parts
    v.memory) game ∙ fixed in
    let of_n = same_states m.game.memory n.game.memory n.undo here in
    let of_m = same_states m.game.memory w.memory m.undo fixed in
    ap (λ (u : List WholeState). let s : Session = record (seen n)
    { state = record (state_seen n) { game = m.game; undo = u } } in s) (sym of_n)
    ∙ ap (λ (s : Session). let t : Session = record s { state = record s.state { game = m.game } } in t) same
    ∙ ap (λ (u : List WholeState). let s : Session = record (seen m)
    { state = record (state_seen m) { undo = u } } in s) of_m

-- or there is no memory for the state
pub is_keeping : (m : Inside) (i : Instr) (w : GameState) (vs : List ℕ) → instr_at m.game.memory m.pc ≡ Ok i
    → KeepsState i → operands_read m.game i.operands ≡ Ok (w, vs) → 0 < w.memory.setup.undo_states
    → IsKeeping (state_seen m)
is_keeping m i w vs h keeps taken some =
    let fixed = carried_fixed m.game i w (Asks SaveUndo) no_signals (keeps_asks m.game w i vs keeps taken) in
    record {
      instruction = i;
      fetched = h;
      keeps = keeps;
      some = subst (λ (k : Setup). 0 < k.undo_states) (same_setup m.game.memory w.memory fixed) some;
      game = w;
      values = vs;
      operands = taken;
    }

-- it goes on at an address
kept_at : (q : Result FrameList Refusal) (r s : GameState × (Next × Signals))
    → kept {B = GameState × (Next × Signals)} q r ≡ Ok s → (u : FrameList) × (q ≡ Ok u)
kept_at (Ok u) r s h = (u, refl)
kept_at (Err e) r s h = absurd cc

pub at_step : (s : State) (i : Instr) (w : GameState) (p : ℕ) (t : Signals) → instr_at s.game.memory s.pc ≡ Ok i
    → limited_move (carried_out s.game i) ≡ Ok (w, (At p, t))
    → (step s ≡ Goes (record s { game = w; pc = p; steps = s.steps + 1 }) t)
    × ((u : FrameList) × (within_bounds w.frames ≡ Ok u))
at_step s i w p t h told =
    let is = move_is (carried_out s.game i) (w, (At p, t)) told in
    let here : limited_move (Ok (w, (At p, t))) ≡ Ok (w, (At p, t)) = sym (ap limited_move is) ∙ told in
    (step_is s i w (At p) t h is, kept_at (within_bounds w.frames) (w, (At p, t)) (w, (At p, t)) here)

pub stepped_on : {S : Type 0} (shows : S → S → Signals → Type 0) (a b : S) (m : Inside) (i : Instr)
    (w : GameState) (p : ℕ) (t : Signals) → instr_at m.game.memory m.pc ≡ Ok i
    → limited_move (carried_out m.game i) ≡ Ok (w, (At p, t)) → shows a b t
    → IsStep (seen m) (seen (record m { game = w; pc = p; steps = m.steps + 1 })) (Ok tt)
    (λ x. shows a b x)
stepped_on {S} shows a b m i w p t h told shown =
    let at = at_step (state_seen m) i w p t h told in
    let same = same_states m.game.memory w.memory m.undo (carried_fixed m.game i w (At p) t told) in
    let to : State = record (state_seen m) { game = w; pc = p; steps = m.steps + 1 } in
    let verdict : verdict_within m.pc (within_bounds w.frames) ≡ GoesOn = ap (verdict_within m.pc) at.1.1 in
    let text : text_within (within_bounds w.frames) t ≡ t = ap (λ (q : Result FrameList Refusal). text_within q t)
    at.1.1 in
    let left : seen (record m { game = w; pc = p; steps = m.steps + 1 }) ≡ record (seen m)
    { state = to } = ap (λ (u : List WholeState). record (seen m) { state = record to { undo = u } }) same in
    inl (subst (λ (y : Step). StepsTo y (seen m) (seen (record m { game = w; pc = p; steps = m.steps + 1 }))
    (Ok tt) (λ z. shows a b z)) (sym at.0) (record {
      tells = sym (ap halt_by verdict);
      left =
          subst (λ (v : Verdict). IsLeftAt (seen m) (seen (record m { game = w; pc = p; steps = m.steps + 1 })) v
          to) (sym verdict) left;
      shown = subst (λ (y : Signals). shows a b y) (sym text) shown;
    }))

-- it is the last
ended_by : {S : Type 0} (shows : S → S → Signals → Type 0) (a b : S) (old new : Session) (x : Step)
    (stop : Stop) (t : Signals) (answer : Result (Unit {0}) Halt) → step old.state ≡ x
    → verdict_of old.state x ≡ StopsBy stop → text_of old.state x ≡ t
    → answer ≡ Err (Err stop) → new.waiting ≡ None → shows a b t
    → IsStep old new answer (λ y. shows a b y)
ended_by {S} shows a b old new x stop t answer is verdict text tells free shown =
    inl (subst (λ (y : Step). StepsTo y old new answer (λ z. shows a b z)) (sym is) (record {
      tells = tells ∙ sym (ap halt_by verdict);
      left = subst (λ (v : Verdict). IsLeftAt old new v (state_after old.state x)) (sym verdict) free;
      shown = subst (λ (y : Signals). shows a b y) (sym text) shown;
    }))

kept_err : (q : Result FrameList Refusal) (r : GameState × (Next × Signals)) (e : Refusal)
    → kept {B = GameState × (Next × Signals)} q r ≡ Err e → q ≡ Err e
kept_err (Ok u) r e h = absurd cc
kept_err (Err d) r e h = cc

pub err_step : (s : State) (i : Instr) (r : Result (GameState × (Next × Signals)) Fault) (e : Refusal)
    → limited_move r ≡ Err e → (verdict_of s (settled s i r) ≡ StopsBy (stop_by s.pc e))
    × (text_of s (settled s i r) ≡ no_signals)
err_step s i (Ok (w, (At p, t))) e h =
    let over = kept_err (within_bounds w.frames) (w, (At p, t)) e h in
    (ap (verdict_within s.pc) over ∙ stops_by s.pc e, ap (λ (q : Result FrameList Refusal). text_within q t) over)
err_step s i (Ok (w, (Asks x, t))) e h = absurd cc
err_step s i (Err f) e h =
    let is : refusal.Fault f ≡ e = cc in (ap (λ (x : Refusal). StopsBy (stop_by s.pc x)) is, refl)

pub stepped_err : {S : Type 0} (shows : S → S → Signals → Type 0) (a b : S) (m : Inside) (new : Session)
    (i : Instr) (e : Refusal) (answer : Result (Unit {0}) Halt) → instr_at m.game.memory m.pc ≡ Ok i
    → limited_move (carried_out m.game i) ≡ Err e → answer ≡ Err (Err (stop_by m.pc e)) → new.waiting ≡ None
    → shows a b (text_in (limited_move (carried_out m.game i))) → IsStep (seen m) new answer
    (λ y. shows a b y)
stepped_err {S} shows a b m new i e answer h told tells free shown =
    let parts = err_step (state_seen m) i (carried_out m.game i) e told in
    ended_by shows a b (seen m) new (settled (state_seen m) i (carried_out m.game i)) (stop_by m.pc e) no_signals
    answer (fetched_is (state_seen m) i h) parts.0 parts.1 tells free
    (subst (λ (y : Signals). shows a b y) (ap text_in told) shown)

pub stepped_fault : {S : Type 0} (shows : S → S → Signals → Type 0) (a : S) (m : Inside) (new : Session)
    (f : Fault) (answer : Result (Unit {0}) Halt) → instr_at m.game.memory m.pc ≡ Err f
    → answer ≡ Err (Err (stop.Fault m.pc f)) → new.waiting ≡ None → shows a a []
    → IsStep (seen m) new answer (λ y. shows a a y)
stepped_fault {S} shows a m new f answer h tells free shown =
    ended_by shows a a (seen m) new (Faults f) (stop.Fault m.pc f) no_signals answer (fault_is (state_seen m) f h)
    refl refl tells free shown

-- ---- it waits for a read

lines_memory : (w : GameState) (cs : List ℕ) → (lines_shown w cs).0.memory ≡ w.memory
unfolding lines_shown
lines_memory w [] = refl
lines_memory w (c ∷ cs) = refl

viewed_memory_by : (view : View) (w v : GameState) (t : Signals) → viewed_by view w ≡ Ok (v, t) → v.memory ≡ w.memory
viewed_memory_by view.Plain w v t h =
    let same : ◌≡◌ {A = GameState × Signals} (w, no_signals) (v, t) = cc in
    sym (ap (λ (q : GameState × Signals). q.0.memory) same)
viewed_memory_by view.Upper w v t h = go (status_text w.memory) h
  where
    go : (r : Result (List ℕ) Fault)
        → (r >>= λ status. Ok (lines_shown w (status ++ rows_shown w.windows 1 w.windows.height))) ≡ Ok (v, t)
        → v.memory ≡ w.memory
    go (Ok status) k =
        let same : lines_shown w (status ++ rows_shown w.windows 1 w.windows.height) ≡ (v, t) = cc in
        sym (ap (λ (q : GameState × Signals). q.0.memory) same)
        ∙ lines_memory w (status ++ rows_shown w.windows 1 w.windows.height)
    go (Err f) k = absurd cc

viewed_memory : (w v : GameState) (t : Signals) → viewed w ≡ Ok (v, t) → v.memory ≡ w.memory
unfolding viewed
viewed_memory w v t h = viewed_memory_by w.view w v t h

not_past : (n : ℕ) (x : Event) → n < 16777216 → is_past_reads n x ≡ false
not_past n x lt =
    let past : nat_le most_reads n ≡ false = grind (arith, nat_tests, lt) in
    rw past (go (is_read x))
  where
    go : (b : Bool) → (b && false) ≡ false
    go true = refl
    go false = refl

pub sound_waiting : (m : Inside) (v : GameState) (w : Waiting) → IsSound m → m.stopped ≡ None → m.due.items ≡ []
    → m.steps < m.limits.steps → v.memory ≡ m.game.memory → bounds_of v.frames ≡ bounds_of m.game.frames
    → w.instruction.next ≤ 1048576 → m.pc < w.instruction.next → is_past_reads m.reads w.wait ≡ false
    → instr_at m.game.memory m.pc ≡ Ok w.instruction → IsSound (record m { game = v; waiting = Some w })
sound_waiting m v w is runs silent room memory bounds near inside past there =
    let has = running m.stopped (IsOfStory m) runs is.story in
    let all = sound_now m (record m { game = v; waiting = None }) is refl refl is.steps is.reads refl bounds
    (λ e. story_stays (record m { game = v; waiting = None }) m.game has.are_of has.memory has.cache
    (ap fixed_parts memory) bounds) in
    let stays = story_stays (record m { game = v; waiting = Some w }) m.game has.are_of has.memory has.cache
    (ap fixed_parts memory) bounds in
    record {
      steps = all.steps;
      bounds = all.bounds;
      reads = all.reads;
      most = all.most;
      story = while_running m.stopped (IsOfStory (record m { game = v; waiting = Some w })) (λ e. stays);
      waits = record {
        reads = past;
        steps = room;
        next = near;
        some = omega (arith, inside);
        pc = omega (arith, near, inside);
        runs = runs;
        shown = silent;
        fetched = ap (λ (n : MemoryMap). instr_at n m.pc) memory ∙ there;
      };
    }

pub sound_viewed : (m : Inside) (v : GameState) (t : Signals) (w : Waiting) → IsSound m → m.stopped ≡ None
    → m.due.items ≡ [] → m.steps < m.limits.steps → viewed m.game ≡ Ok (v, t)
    → bounds_of v.frames ≡ bounds_of m.game.frames
    → w.instruction.next ≤ 1048576 → m.pc < w.instruction.next → m.reads < 16777216
    → instr_at m.game.memory m.pc ≡ Ok w.instruction → IsSound (record m { game = v; waiting = Some w })
sound_viewed m v t w is runs silent room view bounds near inside few there =
    sound_waiting m v w is runs silent room (viewed_memory m.game v t view) bounds near inside
    (not_past m.reads w.wait few) there

-- so it is left
pub view_settles : (m : Inside) (v : GameState) (t : Signals) (x : Event) (i : Instr) → is_read x ≡ true
    → viewed m.game ≡ Ok (v, t) → m.reads < 16777216
    → Settles (seen m) (seen (record m { game = v; waiting = Some (record { wait = x; instruction = i }) }))
    (Err (Ok x)) (asked (state_seen m) i m.game (Answer x))
view_settles m v t x i read view few =
    let memory = viewed_memory m.game v t view in
    let here : asked (state_seen m) i m.game (Answer x) ≡ Awaits (record (state_seen m) { game = v })
    (record { wait = x; instruction = i }) t
    = ap (λ (b : Bool). waits_by (state_seen m) i x (if b then viewed m.game else Ok (m.game, no_signals))) read
    ∙ ap (waits_by (state_seen m) i x) view in
    let verdict : verdict_of (state_seen m) (Awaits (record (state_seen m) { game = v })
    (record { wait = x; instruction = i }) t) ≡ WaitsFor (record { wait = x; instruction = i })
    =
    ap (λ (b : Bool). if b then StopsBy (stop.Limit m.pc Reads) else WaitsFor
    (record { wait = x; instruction = i })) (not_past m.reads x few) in
    let put : IsPut (seen m) (seen (record m { game = v; waiting = Some (record { wait = x; instruction = i }) }))
    (WaitsFor (record { wait = x; instruction = i })) (record (state_seen m) { game = v })
    =
    ap (λ (u : List WholeState). record (seen m) {
      state = record (state_seen m) { game = v; undo = u };
      waiting =
          Some (record { wait = x; instruction = i });
    }) (ap (λ (n : MemoryMap). states_in n.file m.undo) memory) in
    let settles : Settles (seen m)
    (seen (record m { game = v; waiting = Some (record { wait = x; instruction = i }) })) (Err (Ok x))
    (Awaits (record (state_seen m) { game = v }) (record { wait = x; instruction = i }) t)
    =
    record {
      tells = sym (ap halt_by verdict);
      put =
          subst (λ (y : Verdict). IsPut (seen m)
          (seen (record m { game = v; waiting = Some (record { wait = x; instruction = i }) })) y
          (record (state_seen m) { game = v })) (sym verdict) put;
    } in
    subst (λ (y : Step). Settles (seen m)
    (seen (record m { game = v; waiting = Some (record { wait = x; instruction = i }) })) (Err (Ok x)) y)
    (sym here) settles
