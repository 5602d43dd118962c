-- What a machine tells of a run, and how it is left.
use Rattle.std.specs.Prelude.{◌≡◌, ◌⊎◌, ◌≤◌, ◌<◌, ◌^◌, Bool, true, false, ℕ, List, [], Option, Some, None, Result, Ok}
use Rattle.std.specs.Prelude.{Err}
use Rattle.zk_code.specs.declared.instr.Instr.{Instr}
use Rattle.zk_code.specs.declared.opcode.Opcode.TheVariants.{Saving}
use Rattle.zk_code.specs.declared.opcode.Saving.TheVariants.{SaveUndo}
use Rattle.zk_code.specs.Reading.{instr_at}
use Rattle.zk_step.specs.declared.state.ending.Event.{Event}
use Rattle.zk_step.specs.declared.state.ending.Event.TheVariants as event
use Rattle.zk_step.specs.declared.state.game_state.GameState.{GameState}
use Rattle.zk_step.specs.Routing.{Signals, no_signals}
use Rattle.zk_step.specs.Variables.{operands_read}
use Rattle.zk_vm.specs.declared.limits.Limits.{Limits}
use Rattle.zk_vm.specs.declared.stop.Stop.{Stop}
use Rattle.zk_vm.specs.declared.stop.Stop.TheVariants as stop
use Rattle.zk_vm.specs.declared.waiting.Waiting.{Waiting}
use Rattle.zk_vm.specs.Step.{State, Step, Verdict, step, verdict_of, state_after, text_of, is_past_reads}
use Rattle.zk_vm.specs.Step.Verdict.{GoesOn, WaitsFor, StopsBy}
use Rattle.zk_vm.specs.Sessions.{Session, resumed}

-- what ends the steps of a machine: what is asked for, or why it stops
abbrev pub Halt : Type 0
Halt = Result Event Stop

-- a verdict, as the code tells it
abbrev pub halt_by : Verdict → Result (Unit {0}) Halt
halt_by GoesOn = Ok tt
halt_by (WaitsFor w) = Err (Ok w.wait)
halt_by (StopsBy stop) = Err (Err stop)

-- what a machine waits for
abbrev pub event_waited : Option Waiting → Option Event
event_waited None = None
event_waited (Some w) = Some w.wait

-- a line is waited for
abbrev pub IsLine : Option Event → Type 0
IsLine (Some (event.Line text parse)) = Unit {0}
IsLine _ = ⊥

-- a machine after a step: in the next state, where it waits with what it waits for
abbrev pub IsLeftAt : Session → Session → Verdict → State → Type 0
IsLeftAt old new GoesOn s = new ≡ record old { state = s }
IsLeftAt old new (WaitsFor w) s = new ≡ record old { state = s; waiting = Some w }
IsLeftAt old new (StopsBy stop) s = new.waiting ≡ None

-- a machine after an answer: as it should be; where it has stopped, what else it has is asked by nobody
abbrev pub IsLeftAs : Session → Session → Option Stop → Type 0
IsLeftAs new s None = new ≡ s
IsLeftAs new s (Some stop) = (new.stopped ≡ Some stop) × (new.waiting ≡ None) × (new.limits ≡ s.limits)

-- a host has gone back to a state, in place of an answer; or it has not, since there is none
abbrev pub IsUndone : Session → Session → Bool → Option Step → Type 0
IsUndone old new done None = (done ≡ false) × (new ≡ old)
IsUndone old new done (Some x) =
    (done ≡ true) × IsLeftAs new (resumed old (verdict_of old.state x) (state_after old.state x))
    (resumed old (verdict_of old.state x) (state_after old.state x)).stopped

-- a machine that waits can be answered: there may be one more read, where it waits for one, and one more step; what
-- waits is the instruction at its program counter
pub record IsAnswerable (s : State) (l : Limits) (stopped : Option Stop) (w : Waiting) : Type 0 where
  pub reads : is_past_reads s.reads w.wait ≡ false
  pub steps : s.steps < l.steps
  pub next : w.instruction.next ≤ 2 ^ 20
  pub some : 1 ≤ w.instruction.next
  pub pc : s.pc < 2 ^ 20
  pub runs : stopped ≡ None
  pub shown : s.due ≡ []
  pub fetched : instr_at s.game.memory s.pc ≡ Ok w.instruction

abbrev pub CanAnswer : State → Limits → Option Stop → Option Waiting → Type 0
CanAnswer s l stopped None = Unit {0}
CanAnswer s l stopped (Some w) = IsAnswerable s l stopped w

-- ---- lack of memory

-- an instruction keeps a state to go back to
abbrev pub KeepsState : Instr → Type 0
KeepsState i = i.opcode ≡ Saving SaveUndo

-- the instruction at a state's program counter would be carried out, and keep a state, where there may be one
pub record IsKeeping (s : State) : Type 0 where
  pub instruction : Instr
  pub fetched : instr_at s.game.memory s.pc ≡ Ok instruction
  pub keeps : KeepsState instruction
  pub some : 0 < s.game.memory.setup.undo_states
  pub game : GameState
  pub values : List ℕ
  pub operands : operands_read s.game instruction.operands ≡ Ok (game, values)

-- a step was made, and its text was shown
pub record StepsTo (x : Step) (old new : Session) (answer : Result (Unit {0}) Halt)
    (Shown : Signals → Type 0) : Type 0 where
  pub tells : answer ≡ halt_by (verdict_of old.state x)
  pub left : IsLeftAt old new (verdict_of old.state x) (state_after old.state x)
  pub shown : Shown (text_of old.state x)

-- a step was made as the Standard's machine makes it; or it came to keep a state, for which there was no memory, and
-- nothing was done
abbrev pub IsStep : Session → Session → Result (Unit {0}) Halt → (Signals → Type 0) → Type 0
IsStep old new answer Shown =
    StepsTo (step old.state) old new answer Shown
    ⊎ ((answer ≡ Err (Err stop.Memory)) × (new ≡ old) × (IsKeeping old.state × Shown no_signals))

-- while a machine has no stop
abbrev pub WhileRunning : Option Stop → Type 0 → Type 0
WhileRunning None P = P
WhileRunning (Some stop) P = Unit {0}
