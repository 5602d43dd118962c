-- A step at an instruction that was read is no fault of reading.
use Rattle.std.proofs.Common.{◌≡◌, ℕ, true, false, List, Option, Some, None, Result, Ok, Err, ap, sym, subst, ◌∙◌}
use Rattle.std.specs.Prelude.{◌==◌}
use Rattle.zk_mem.specs.declared.fault.Fault.{Fault}
use Rattle.zk_mem.specs.Map.{MemoryMap}
use Rattle.zk_state.specs.Frames.{FrameList}
use Rattle.zk_state.specs.declared.refusal.Limit.{Limit}
use Rattle.zk_code.specs.declared.instr.Instr.{Instr}
use Rattle.zk_code.specs.Reading.{instr_at}
use Rattle.zk_save.specs.declared.restore.RestoreError.{RestoreError}
use Rattle.zk_save.specs.Loading.{restored}
use Rattle.zk_save.specs.States.{WholeState, gone_back}
use Rattle.zk_step.specs.declared.state.ending.Next.{Next}
use Rattle.zk_step.specs.declared.state.ending.Next.TheVariants.{Asks, At}
use Rattle.zk_step.specs.declared.state.ending.Request.TheVariants.{Answer, Quit, RestoreUndo, SaveUndo}
use Rattle.zk_step.specs.declared.state.ending.Event.{Event}
use Rattle.zk_step.specs.declared.state.ending.Event.TheVariants as event
use Rattle.zk_step.specs.declared.state.game_state.View.{View}
use Rattle.zk_step.specs.declared.state.game_state.View.TheVariants as view
use Rattle.zk_step.specs.declared.state.game_state.GameState.{GameState}
use Rattle.zk_step.specs.Instructions.{carried_out}
use Rattle.zk_step.specs.Laws.{is_of_reading}
use Rattle.zk_step.specs.Restarts.{windows_closed}
use Rattle.zk_step.specs.Routing.{Signals}
use Rattle.zk_step.specs.Status.{status_units}
use Rattle.zk_step.proofs.Later.{Later, later_then, later_if, status_units_later}
use Rattle.zk_step.proofs.Sweep.{carried_out_later, character_answered_later, line_answered_later}
use Rattle.zk_step.proofs.Sweep.{result_answered_later, resumed_later}
use Rattle.zk_vm.specs.declared.waiting.Waiting.{Waiting}
use Rattle.zk_vm.specs.Answers.{Answer as Answered, answered, answered_by, codes_of, end_of, file_of, first_code}
use Rattle.zk_vm.specs.Answers.{is_kept}
use Rattle.zk_vm.specs.Answers.{limit_of, none_restored, restored_from, restored_to, truth_word}
use Rattle.zk_vm.specs.Step.{State, Step, back_to, fetched, is_read, kept_answer, led_to, settled, step, step_by}
use Rattle.zk_vm.specs.Step.{view_before}
use Rattle.zk_vm.specs.Step.Step.{Faults}
use Rattle.zk_step.specs.View.{status_text, viewed, viewed_by}

status_later : (m : MemoryMap) → Later (status_text m)
status_later m =
    later_if (m.version == 3) (later_then (status_units m) _ (status_units_later m) (λ units. Later.value)) Later.value

view_later : (v : View) (w : GameState) → Later (viewed_by v w)
view_later view.Plain w = Later.value
view_later view.Upper w = later_then (status_text w.memory) _ (status_later w.memory) (λ status. Later.value)

before_later : (event : Event) (w : GameState) → Later (view_before event w)
unfolding viewed
before_later event w = later_if (is_read event) (view_later w.view w) Later.value

-- a step's fault, if it is one, is none of reading
abbrev IsLater : Step → Type 0
IsLater (Faults f) = is_of_reading f ≡ false
IsLater _ = Unit {0}

by_later : {A : Type 0} (next : A → Step) (r : Result A Fault) → Later r → ((x : A) → IsLater (next x))
    → IsLater (step_by next r)
by_later {A} next (Ok x) h on = on x
by_later {A} next (Err f) (Later.fault h) on = h

back_later : (s : State) (i : Instr) (w : GameState) (o : Option (MemoryMap × FrameList × ℕ × List WholeState))
    → IsLater (back_to s i w o)
back_later s i w None = by_later _ _ (result_answered_later w i 0 false) (λ x. tt)
back_later s i w (Some (m, f, pc, others)) =
    by_later _ _ (resumed_later (record w { memory = m; frames = f }) pc) (λ x. tt)

led_later : (s : State) (i : Instr) (w : GameState) (text : Signals) (n : Next) → IsLater (led_to s i w text n)
led_later s i w text (At pc) = tt
led_later s i w text (Asks (Answer event)) = by_later _ _ (before_later event w) (λ x. tt)
led_later s i w text (Asks SaveUndo) =
    by_later _ _ (result_answered_later w i (kept_answer w.memory.setup.undo_states) true) (λ x. tt)
led_later s i w text (Asks RestoreUndo) = back_later s i w (gone_back s.undo w.memory w.frames)
led_later s i w text (Asks Quit) = tt

settled_later : (s : State) (i : Instr) (r : Result (GameState × (Next × Signals)) Fault) → Later r
    → IsLater (settled s i r)
settled_later s i r h = by_later _ r h (λ x. led_later s i x.0 x.1.1 x.1.0)

pub step_is_later : (s : State) (i : Instr) (f : Fault) → instr_at s.game.memory s.pc ≡ Ok i → step s ≡ Faults f
    → is_of_reading f ≡ false
unfolding step
step_is_later s i f e h =
    subst IsLater (sym (ap (fetched s) e) ∙ h) (settled_later s i (carried_out s.game i) (carried_out_later s.game i))

-- ---- an answer

none_later : (s : State) (i : Instr) (l : Option Limit) → IsLater (none_restored s i l)
none_later s i None = by_later _ _ (result_answered_later s.game i 0 false) (λ x. tt)
none_later s i (Some l) = tt

restored_later : (s : State) (i : Instr) (r : Result (MemoryMap × FrameList × ℕ) RestoreError)
    → IsLater (restored_to s i r)
restored_later s i (Ok (m, f, pc)) =
    by_later _ _ (resumed_later (windows_closed (record s.game { memory = m; frames = f })) pc) (λ x. tt)
restored_later s i (Err e) = none_later s i (limit_of e)

file_later : (s : State) (i : Instr) (o : Option (List ℕ)) → IsLater (restored_from s i o)
file_later s i None = none_later s i None
file_later s i (Some file) = restored_later s i (restored file s.game.memory s.game.frames)

answered_later : (s : State) (i : Instr) (x : Event) (a : Answered) → IsLater (answered_by s i x a)
answered_later s i (event.Line text parse) a =
    by_later _ _ (line_answered_later s.game i text parse (codes_of a) (end_of a)) (λ y. tt)
answered_later s i event.Char a = by_later _ _ (character_answered_later s.game i (first_code (codes_of a))) (λ y. tt)
answered_later s i event.Save a =
    by_later _ _ (result_answered_later s.game i (truth_word (is_kept a)) (is_kept a)) (λ y. tt)
answered_later s i event.Restore a = file_later s i (file_of a)

-- an answer is never refused for how an instruction is read
pub answer_is_later : (s : State) (w : Waiting) (a : Answered) (f : Fault) → answered s w a ≡ Faults f
    → is_of_reading f ≡ false
unfolding answered
answer_is_later s w a f h = subst IsLater h (answered_later s w.instruction w.wait a)
