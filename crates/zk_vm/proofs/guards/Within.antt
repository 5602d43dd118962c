-- Runs stay within their limits, whatever answers they get.
use Rattle.std.proofs.Common.{◌≡◌, ◌∙◌, ◌≤◌, ◌<◌, ◌+◌, ◌&&◌, ℕ, Bool, true, false, List, [], Option, Some, None, Result}
use Rattle.std.proofs.Common.{Ok, refl, ap, sym, subst, arith, nat_le, length}
use Rattle.std.proofs.lemmas.Bool.Decides.{nat_tests}
use Rattle.zk_mem.specs.declared.memory.Setup.{Setup}
use Rattle.zk_mem.specs.declared.fault.Fault.{Fault}
use Rattle.zk_mem.specs.Map.{MemoryMap}
use Rattle.zk_state.specs.Frames.{FrameList, bounds_of, sizes_of, within_bounds}
use Rattle.zk_code.specs.declared.instr.Instr.{Instr}
use Rattle.zk_code.specs.Reading.{instr_at}
use Rattle.zk_save.specs.States.{WholeState, gone_back}
use Rattle.zk_step.specs.declared.state.ending.Event.{Event}
use Rattle.zk_step.specs.declared.state.ending.Next.{Next}
use Rattle.zk_step.specs.declared.state.ending.Next.TheVariants.{Asks, At}
use Rattle.zk_step.specs.declared.state.ending.Request.{Request}
use Rattle.zk_step.specs.declared.state.ending.Request.TheVariants as request
use Rattle.zk_step.specs.declared.state.game_state.GameState.{GameState}
use Rattle.zk_step.specs.declared.state.game_state.View.{View}
use Rattle.zk_step.specs.Inputs.{result_answered}
use Rattle.zk_step.specs.Instructions.{carried_out}
use Rattle.zk_step.specs.Resuming.{resumed}
use Rattle.zk_step.specs.Routing.{Signals, no_signals}
use Rattle.zk_vm.specs.declared.limits.Limits.{Limits}
use Rattle.zk_vm.specs.declared.waiting.Waiting.{Waiting}
use Rattle.zk_vm.specs.Answers.{Answer, answered}
use Rattle.zk_vm.specs.Bounds.{AreInRange, setup_of}
use Rattle.zk_vm.specs.Laws.{KeepsLimits, MayAnswer, RunsStayWithin}
use Rattle.zk_vm.specs.Log.{Move}
use Rattle.zk_vm.specs.Sessions.{Session, begun}
use Rattle.zk_vm.specs.Step.{State, Step, asked, back_to, is_past_reads, is_read, kept_answer, led_to, most_reads}
use Rattle.zk_vm.specs.Step.{settled, state_after, step, step_by, view_before, waits_by}
use Rattle.zk_vm.specs.Step.Step.{Goes, Waits}
use Rattle.zk_vm.proofs.AnswerSteps.{answered_so}
use Rattle.zk_vm.proofs.Asking.{asks}
use Rattle.zk_vm.proofs.FrameLimits.{after_goes, within_is}
use Rattle.zk_vm.proofs.guards.GreaterRoom.{answered_bounds}
use Rattle.zk_vm.proofs.Moves.{IsKeptBy, after_keeps}
use Rattle.zk_vm.proofs.OneStep.{step_all, waits_same}
use Rattle.zk_vm.proofs.guards.Popping.{Pops, pops_twice, shown_pops, taken_pops}
use Rattle.zk_vm.proofs.Sounds.{first_setup}

-- ---- a step that waits

-- it has taken operands, and shown what is shown before a read
record WaitsSo (s t : State) : Type 0 where
  game : GameState
  pops : Pops s.game game
  same : t ≡ record s { game = game }

-- so does each that waits
abbrev WaitsOn : State → Step → Type 0
WaitsOn s x = (t : State) (w : Waiting) (text : Signals) → x ≡ Waits t w text → WaitsSo s t

goes_no_wait : (s : State) {A : Type 0} (next : A → State) (r : Result A Fault)
    → WaitsOn s (step_by (λ x. Goes (next x) no_signals) r)
goes_no_wait s {A} next r = step_all (WaitsOn s) _ r (λ x e t w text h. absurd cc) (λ f e t w text h. absurd cc)

back_no_wait : (s : State) (i : Instr) (v : GameState) (q : Option (MemoryMap × FrameList × ℕ × List WholeState))
    → WaitsOn s (back_to s i v q)
back_no_wait s i v None = goes_no_wait s _ (result_answered v i 0 false)
back_no_wait s i v (Some (m, f, p, others)) = goes_no_wait s _ (resumed (record v { memory = m; frames = f }) p)

waits_so : (s : State) (i : Instr) (x : Event) (v : GameState) → Pops s.game v
    → WaitsOn s (waits_by s i x (view_before x v))
waits_so s i x v pops =
    step_all (WaitsOn s) _ (view_before x v) (λ r e t w text h. so r e t (waits_same _ t _ w r.1 text h))
    (λ f e t w text h. absurd cc)
  where
    so : (r : GameState × Signals) → view_before x v ≡ Ok r → (t : State) → record s { game = r.0 } ≡ t → WaitsSo s t
    so r e t same =
        record { game = r.0; pops = pops_twice s.game v r.0 pops (shown_pops x v r.0 r.1 e); same = sym same }

asked_so : (s : State) (i : Instr) (v : GameState) (shown : Signals) (x : Request)
    → carried_out s.game i ≡ Ok (v, (Asks x, shown)) → WaitsOn s (asked s i v x)
asked_so s i v shown (request.Answer event) c =
    let so = asks s.game i v (request.Answer event) shown c in
    waits_so s i event v (taken_pops s.game v i.operands so.values so.operands)
asked_so s i v shown request.SaveUndo c = goes_no_wait s _
    (result_answered v i (kept_answer v.memory.setup.undo_states) true)
asked_so s i v shown request.RestoreUndo c = back_no_wait s i v (gone_back s.undo v.memory v.frames)
asked_so s i v shown request.Quit c = λ t w text h. absurd cc

led_so : (s : State) (i : Instr) (v : GameState) (shown : Signals) (n : Next)
    → carried_out s.game i ≡ Ok (v, (n, shown)) → WaitsOn s (led_to s i v shown n)
led_so s i v shown (At p) c = λ t w text h. absurd cc
led_so s i v shown (Asks x) c = asked_so s i v shown x c

settled_so : (s : State) (i : Instr) → WaitsOn s (settled s i (carried_out s.game i))
settled_so s i =
    step_all (WaitsOn s) _ (carried_out s.game i) (λ r e. led_so s i r.0 r.1.1 r.1.0 e) (λ f e t w text h. absurd cc)

step_waits : (s t : State) (w : Waiting) (text : Signals) → step s ≡ Waits t w text → WaitsSo s t
unfolding step
step_waits s t w text = step_all (WaitsOn s) _ (instr_at s.game.memory s.pc) (λ i e. settled_so s i)
    (λ f e t w text h. absurd cc) t w text

-- ---- an answer

may_read : (n : ℕ) (b : Bool) → (b && nat_le most_reads n) ≡ false → b ≡ true → n + 1 ≤ most_reads
may_read n true h e = grind (arith, nat_tests, h)
may_read n false h e = absurd cc

reads_by : (n m : ℕ) (b : Bool) → (b && nat_le most_reads n) ≡ false → n ≤ most_reads → m ≤ n + 1
    → (b ≡ false → m ≡ n) → m ≤ most_reads
reads_by n m true h few one same = let room = may_read n true h refl in omega (arith, room, one)
reads_by n m false h few one same = let e = same refl in omega (arith, e, few)

-- ---- each move

free : (x : Option Waiting) (s : Session) → x ≡ None → MayAnswer x s
free None s e = tt
free (Some w) s e = absurd cc

may : (x : Option Waiting) (w : Waiting) (s : Session) → x ≡ Some w → MayAnswer x s → MayAnswer (Some w) s
may x w s e h = subst (λ (y : Option Waiting). MayAnswer y s) e h

pair : {a b c d : ℕ} → a ≡ b → c ≡ d → ◌≡◌ {A = ℕ × ℕ} (a, c) (b, d)
pair e k = cc

goes_keeps : (s : Session) (t : State) (text : Signals) (u : FrameList) → KeepsLimits s → s.waiting ≡ None
    → s.state.steps < s.limits.steps → step s.state ≡ Goes t text → within_bounds t.game.frames ≡ Ok u
    → KeepsLimits (record s { state = t; left = None })
goes_keeps s t text u k alone few e inside =
    let next = after_goes s.limits s.state t text u e k.bounds k.most (omega (arith, few)) k.within.reads
    k.within.undo inside in
    record {
      bounds = next.1;
      most = next.2;
      within = next.0;
      waits = free s.waiting (record s { state = t; left = None }) alone;
    }

waits_keeps : (s : Session) (t : State) (w : Waiting) (text : Signals) → KeepsLimits s
    → s.state.steps < s.limits.steps → step s.state ≡ Waits t w text → is_past_reads s.state.reads w.wait ≡ false
    → KeepsLimits (record s { state = t; waiting = Some w; left = None })
waits_keeps s t w text k few e fits =
    let so = step_waits s.state t w text e in
    let here : KeepsLimits (record s {
      state = record s.state { game = so.game };
      waiting = Some w;
      left = None;
    }) = record {
      bounds = so.pops.bounds ∙ k.bounds;
      most = ap (λ (m : MemoryMap). m.setup.undo_states) so.pops.memory ∙ k.most;
      within =
          record {
            frames = omega (arith, so.pops.frames, k.within.frames);
            words = omega (arith, so.pops.words, k.within.words);
            steps = k.within.steps;
            reads = k.within.reads;
            undo = k.within.undo;
          };
      waits = (fits, few);
    } in
    subst (λ (u : State). KeepsLimits (record s { state = u; waiting = Some w; left = None })) (sym so.same) here

gets_keeps : (s : Session) (w : Waiting) (a : Answer) (t : State) (text : Signals) (u : FrameList) → KeepsLimits s
    → s.waiting ≡ Some w → answered s.state w a ≡ Goes t text → within_bounds t.game.frames ≡ Ok u
    → KeepsLimits (record s { state = t; waiting = None })
unfolding bounds_of
gets_keeps s w a t text u k there e inside =
    let room = may s.waiting w s there k.waits in
    let so = answered_so s.state t w a text e in
    let at : state_after s.state (answered s.state w a) ≡ t = ap (state_after s.state) e in
    let same = answered_bounds s.state w a in
    let frames : t.game.frames.most_frames ≡ s.limits.frames = sym (ap (λ (v : State). v.game.frames.most_frames)
    at) ∙ same.0 ∙ ap (λ (p : ℕ × ℕ). p.0) k.bounds in
    let words : t.game.frames.most_words ≡ s.limits.words = sym (ap (λ (v : State). v.game.frames.most_words) at)
    ∙ same.1 ∙ ap (λ (p : ℕ × ℕ). p.1) k.bounds in
    let both = within_is t.game.frames u inside in
    let kept : length t.undo ≡ length s.state.undo = ap (λ (v : List _). length v) so.undo in
    record {
      bounds = pair frames words;
      most = so.most ∙ k.most;
      within = record {
        frames = omega (arith, both.0, frames);
        words = omega (arith, both.1, words);
        steps = omega (arith, so.steps, room.1);
        reads = reads_by s.state.reads t.reads (is_read w.wait) room.0 k.within.reads so.reads so.same;
        undo = omega (arith, kept, k.within.undo);
      };
      waits = tt;
    }

may_still : (x : Option Waiting) (s : Session) (left : Option Signals) → MayAnswer x s
    → MayAnswer x (record s { left = left })
may_still None s left h = tt
may_still (Some w) s left h = h

each_keeps : (s : Session) (m : Move) → KeepsLimits s → IsKeptBy KeepsLimits s m
each_keeps s m k = record {
  silent =
      λ alone. record {
        bounds = k.bounds;
        most = k.most;
        within = record {
          frames = k.within.frames;
          words = k.within.words;
          steps = k.within.steps;
          reads = k.within.reads;
          undo = k.within.undo;
        };
        waits = free s.waiting (record s { state = record s.state { due = [] } }) alone;
      };
  part =
      λ left. record {
        bounds = k.bounds;
        most = k.most;
        within = k.within;
        waits = may_still s.waiting s left k.waits;
      };
  goes = λ t text u runs alone silent is few e inside. goes_keeps s t text u k alone few e inside;
  waits = λ t w text runs alone silent is few e fits. waits_keeps s t w text k few e fits;
  gets = λ w a t text u runs there is e inside. gets_keeps s w a t text u k there e inside;
}

begins : (story : List ℕ) (seed : ℕ) (l : Limits) (view : View) → AreInRange l → KeepsLimits (begun story seed l view)
unfolding begun bounds_of sizes_of
begins story seed l view range = record {
  bounds = refl;
  most = ap (λ (s : Setup). s.undo_states) (first_setup story (setup_of l));
  within = record {
    frames = range.frames;
    words = omega arith;
    steps = omega arith;
    reads = omega arith;
    undo = omega arith;
  };
  waits = tt;
}

pub runs_stay_within : RunsStayWithin
runs_stay_within = record { begins = begins; stays = after_keeps KeepsLimits each_keeps }
