-- A step of the Standard's machine (Standard, sections 4 to 6 and 15).
use Rattle.std.specs.Prelude.{ℕ, ◌+◌, ◌-◌, Bool, true, false, ◌&&◌, ◌==◌, List, ◌∷◌, take, Option, Some, None, Result}
use Rattle.std.specs.Prelude.{Ok, Err, nat_lt, nat_le, if◌then◌else◌}
use Rattle.zk_mem.specs.declared.fault.Fault.{Fault}
use Rattle.zk_mem.specs.Map.{MemoryMap}
use Rattle.zk_code.specs.declared.instr.Instr.{Instr}
use Rattle.zk_code.specs.Reading.{instr_at}
use Rattle.zk_step.specs.declared.state.ending.Next.{Next}
use Rattle.zk_step.specs.declared.state.ending.Event.{Event}
use Rattle.zk_step.specs.declared.state.ending.Event.TheVariants as event
use Rattle.zk_step.specs.declared.state.ending.Next.TheVariants as next
use Rattle.zk_step.specs.declared.state.ending.Request.{Request}
use Rattle.zk_step.specs.declared.state.ending.Request.TheVariants as request
use Rattle.zk_state.specs.declared.refusal.Limit.{Limit}
use Rattle.zk_state.specs.declared.refusal.Limit.TheVariants.{Reads}
use Rattle.zk_state.specs.declared.refusal.Refusal.{Refusal}
use Rattle.zk_state.specs.declared.refusal.Refusal.TheVariants as refusal
use Rattle.zk_state.specs.Frames.{FrameList, within_bounds}
use Rattle.zk_vm.specs.declared.stop.Stop.{Stop}
use Rattle.zk_vm.specs.declared.stop.Stop.TheVariants as stop
use Rattle.zk_vm.specs.declared.waiting.Waiting.{Waiting}
use Rattle.zk_step.specs.declared.state.game_state.GameState.{GameState}
use Rattle.zk_save.specs.States.{WholeState, state_of, gone_back}
use Rattle.zk_step.specs.Inputs.{result_answered}
use Rattle.zk_step.specs.Instructions.{carried_out}
use Rattle.zk_step.specs.Resuming.{resumed}
use Rattle.zk_step.specs.Routing.{Signals, no_signals}
use Rattle.zk_step.specs.View.{viewed}

-- the state of play: the game state, the byte address of the next instruction, how many steps were made since the last
-- read was answered, how many reads were answered, what the transcript is still to get of the line that was read, and
-- the states that can be gone back to, the newest first
pub record State : Type 0 where
  pub game : GameState
  pub pc : ℕ
  pub steps : ℕ
  pub reads : ℕ
  pub due : List ℕ
  pub undo : List WholeState

-- A step goes on in a state, or waits in one for an answer, and shows some text; or it ends the story, is a fault, or
-- what it restores has too many frames or words, and it shows none.
pub data Step : Type 0 where
  Goes : (state : State) (text : Signals) → Step
  Waits : (state : State) (waiting : Waiting) (text : Signals) → Step
  Quits : Step
  Faults : (fault : Fault) → Step
  Exceeds : (limit : Limit) → Step

-- the step by what was done; a fault is one that ends the run
abbrev pub step_by : {A : Type 0} → (A → Step) → Result A Fault → Step
step_by next (Ok done) = next done
step_by next (Err f) = Faults f

-- ---- reads

-- a read of a line or a character; a saved game is none
abbrev pub is_read : Event → Bool
is_read (event.Line text parse) = true
is_read event.Char = true
is_read event.Save = false
is_read event.Restore = false

-- an instruction that waits has shown what the view shows before a read
abbrev pub waits_by : State → Instr → Event → Result (GameState × Signals) Fault → Step
waits_by s i event =
    step_by (λ shown. Waits (record s { game = shown.0 }) (record { wait = event; instruction = i }) shown.1)

-- the view is shown before a read alone
abbrev pub view_before : Event → GameState → Result (GameState × Signals) Fault
view_before event w = if is_read event then viewed w else Ok (w, no_signals)

-- ---- states to go back to (section 15, `save_undo` and `restore_undo`)

-- where an instruction leads that is finished in silence, with these states to go back to
abbrev pub goes_to : State → List WholeState → Result (GameState × ℕ) Fault → Step
goes_to s undo =
    step_by (λ found. Goes (record s { game = found.0; pc = found.1; steps = s.steps + 1; undo = undo }) no_signals)

-- where the run goes on from a state that an instruction saves: its branch in version 3, its store byte from version 4
-- on (Quetzal 1.4, section 5)
abbrev pub saved_pc : State → Instr → ℕ
saved_pc s i = if nat_lt s.game.memory.version 4 then s.pc + 1 else i.next - 1

-- the state is kept in front of the others, of which the newest stay
abbrev pub with_kept : State → Instr → GameState → List WholeState
with_kept s i w = take w.memory.setup.undo_states (state_of w.memory w.frames (saved_pc s i) ∷ s.undo)

-- the answer of an instruction that keeps the state: 1, or -1 where none is ever kept
abbrev pub kept_answer : ℕ → ℕ
kept_answer most = if most == 0 then 65535 else 1

-- the newest state is back, with the others left, and goes on where it was saved; where there is none the answer is 0
abbrev pub back_to : State → Instr → GameState → Option (MemoryMap × FrameList × ℕ × List WholeState) → Step
back_to s i w None = goes_to s s.undo (result_answered w i 0 false)
back_to s i w (Some (m, f, pc, others)) = goes_to s others (resumed (record w { memory = m; frames = f }) pc)

-- what becomes of an instruction that asks something of the machine; it has printed nothing
abbrev pub asked : State → Instr → GameState → Request → Step
asked s i w (request.Answer event) = waits_by s i event (view_before event w)
asked s i w request.SaveUndo = goes_to s (with_kept s i w)
    (result_answered w i (kept_answer w.memory.setup.undo_states) true)
asked s i w request.RestoreUndo = back_to s i w (gone_back s.undo w.memory w.frames)
asked s i w request.Quit = Quits

-- what an instruction that was carried out leads to
abbrev pub led_to : State → Instr → GameState → Signals → Next → Step
led_to s i w text (next.At pc) = Goes (record s { game = w; pc = pc; steps = s.steps + 1 }) text
led_to s i w text (next.Asks request) = asked s i w request

-- the step that an instruction makes
abbrev pub settled : State → Instr → Result (GameState × (Next × Signals)) Fault → Step
settled s i = step_by (λ done. led_to s i done.0 done.1.1 done.1.0)

-- the step from a state, by the instruction that was fetched
abbrev pub fetched : State → Result Instr Fault → Step
fetched s = step_by (λ i. settled s i (carried_out s.game i))

-- the step from a state: the instruction at its program counter is carried out
unfoldable pub step : State → Step
step s = fetched s (instr_at s.game.memory s.pc)

-- the state after a step, the state before it where the step is the last
abbrev pub state_after : State → Step → State
state_after old (Goes s text) = s
state_after old (Waits s waiting text) = s
state_after old Quits = old
state_after old (Faults f) = old
state_after old (Exceeds l) = old

-- what becomes of a run at a step: it goes on, waits or stops
pub data Verdict : Type 0 where
  GoesOn : Verdict
  WaitsFor : (waiting : Waiting) → Verdict
  StopsBy : (stop : Stop) → Verdict

-- a step at an address goes on, unless its next state has too many frames or words
abbrev pub verdict_within : ℕ → Result FrameList Refusal → Verdict
verdict_within pc (Ok s) = GoesOn
verdict_within pc (Err (refusal.Limit l)) = StopsBy (stop.Limit pc l)
verdict_within pc (Err (refusal.Fault f)) = StopsBy (stop.Fault pc f)

-- so many reads are answered in a run
abbrev pub most_reads : ℕ
most_reads = 16777216

-- one more read would be too many
abbrev pub is_past_reads : ℕ → Event → Bool
is_past_reads reads event = is_read event && nat_le most_reads reads

-- what becomes of a run at a step from an address, after so many reads
abbrev pub verdict_at : ℕ → ℕ → Step → Verdict
verdict_at pc reads (Goes s text) = verdict_within pc (within_bounds s.game.frames)
verdict_at pc reads (Waits s waiting text) =
    if is_past_reads reads waiting.wait then StopsBy (stop.Limit pc Reads) else WaitsFor waiting
verdict_at pc reads Quits = StopsBy stop.Quit
verdict_at pc reads (Faults f) = StopsBy (stop.Fault pc f)
verdict_at pc reads (Exceeds l) = StopsBy (stop.Limit pc l)

abbrev pub verdict_of : State → Step → Verdict
verdict_of old x = verdict_at old.pc old.reads x

-- a text, unless frames or words are too many
abbrev pub text_within : Result FrameList Refusal → Signals → Signals
text_within (Ok s) text = text
text_within (Err e) text = no_signals

-- what a run shows of a step, after so many reads: nothing where it would pass a limit
abbrev pub text_at : ℕ → Step → Signals
text_at reads (Goes s text) = text_within (within_bounds s.game.frames) text
text_at reads (Waits s waiting text) = if is_past_reads reads waiting.wait then no_signals else text
text_at reads Quits = no_signals
text_at reads (Faults f) = no_signals
text_at reads (Exceeds l) = no_signals

abbrev pub text_of : State → Step → Signals
text_of old x = text_at old.reads x
