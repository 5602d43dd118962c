-- How a machine goes on where an instruction leads.
use Rattle.std.specs.Prelude.{◌≡◌, ◌<◌, ◌+◌, ◌-◌, ◌++◌, false, ℕ, List, [], ◌∷◌, length, Option, Some, None, Result, Ok}
use Rattle.std.specs.Prelude.{Err}
use Rattle.zk_state.specs.declared.refusal.Limit.{Limit}
use Rattle.zk_state.specs.declared.refusal.Refusal.{Refusal}
use Rattle.zk_state.specs.declared.refusal.Refusal.TheVariants as refusal
use Rattle.zk_state.specs.Frames.{FrameList}
use Rattle.zk_mem.specs.Map.{MemoryMap}
use Rattle.zk_code.specs.declared.instr.Instr.{Instr}
use Rattle.zk_save.specs.declared.restore.RestoreError.{RestoreError}
use Rattle.zk_save.specs.Loading.{restored}
use Rattle.zk_step.specs.declared.state.game_state.GameState.{GameState}
use Rattle.zk_step.specs.Inputs.{result_answered}
use Rattle.zk_step.specs.Limited.{limited_pc}
use Rattle.zk_step.specs.Restarts.{windows_closed}
use Rattle.zk_step.specs.Resuming.{resumed}
use Rattle.zk_fast.specs.QuietSteps.{GoesBy, IsRefused}
use Rattle.zk_vm.specs.declared.stop.Stop.{Stop}
use Rattle.zk_vm.specs.declared.stop.Stop.TheVariants as stop
use Rattle.zk_vm.specs.Answers.{limit_of}
use Rattle.zk_vm.specs.Halts.{Halt, halt_by}
use Rattle.zk_vm.specs.Sessions.{Session}
use Rattle.zk_vm.specs.Step.{State, Step, Verdict, verdict_of, state_after}
use Rattle.zk_vm.specs.Step.Verdict.{GoesOn, WaitsFor, StopsBy}

-- the stop of an instruction at an address that is refused
abbrev pub stop_by : ℕ → Refusal → Stop
stop_by pc (refusal.Fault f) = stop.Fault pc f
stop_by pc (refusal.Limit l) = stop.Limit pc l

-- what becomes of a run where an instruction leads that was finished
abbrev pub verdict_by : ℕ → Result ℕ Refusal → Verdict
verdict_by pc (Ok next) = GoesOn
verdict_by pc (Err r) = StopsBy (stop_by pc r)

-- the address where it leads, the old one where the run does not go on
abbrev pub pc_by : ℕ → Result ℕ Refusal → ℕ
pc_by pc (Ok next) = next
pc_by pc (Err r) = pc

-- the steps that were made then
abbrev pub steps_by : ℕ → Result ℕ Refusal → ℕ
steps_by steps (Ok next) = steps + 1
steps_by steps (Err r) = steps

-- why a machine has stopped then
abbrev pub stopped_by : Option Stop → Verdict → Option Stop
stopped_by stopped (StopsBy stop) = Some stop
stopped_by stopped _ = stopped

-- a machine in a state: it goes on there, waits there, or has its stop
abbrev pub IsPut : Session → Session → Verdict → State → Type 0
IsPut old new GoesOn s = new ≡ record old { state = s }
IsPut old new (WaitsFor w) s = new ≡ record old { state = s; waiting = Some w }
IsPut old new (StopsBy stop) s = (new.stopped ≡ Some stop) × (new.waiting ≡ None) × (new.limits ≡ old.limits)

-- a machine after what a step leads to, as the code tells it
pub record Settles (old new : Session) (answer : Result (Unit {0}) Halt) (x : Step) : Type 0 where
  pub tells : answer ≡ halt_by (verdict_of old.state x)
  pub put : IsPut old new (verdict_of old.state x) (state_after old.state x)

-- where an instruction leads that restores nothing
abbrev pub unrestored_by : GameState → Instr → Option Limit → Result (GameState × ℕ) Refusal
unrestored_by w i None = limited_pc (result_answered w i 0 false)
unrestored_by w i (Some l) = Err (refusal.Limit l)

-- where an instruction leads that restores, by what was loaded
abbrev pub restored_by : GameState → Instr → Result (MemoryMap × FrameList × ℕ) RestoreError
    → Result (GameState × ℕ) Refusal
restored_by w i (Ok (m, f, pc)) = limited_pc (resumed (windows_closed (record w { memory = m; frames = f })) pc)
restored_by w i (Err e) = unrestored_by w i (limit_of e)

-- where an instruction leads that restores a file
abbrev pub restored_on : GameState → Instr → List ℕ → Result (GameState × ℕ) Refusal
restored_on w i file = restored_by w i (restored file w.memory w.frames)

-- ---- steps that are made in silence

-- a state after so many of them
abbrev pub after_steps : State → ℕ → GameState → ℕ → State
after_steps s n w pc = record s { game = w; pc = pc; steps = s.steps + n }

-- A machine has made some steps by instructions that show nothing, whose addresses were noted, and goes on.
pub record GoesAhead (Noted : List ℕ → Type 0) (old new : Session) : Type 0 where
  pub addresses : List ℕ
  pub goes : GoesBy addresses old.state.game old.state.pc new.state.game new.state.pc
  pub there : new ≡ record old { state = after_steps old.state (length addresses) new.state.game new.state.pc }
  pub noted : Noted addresses

-- the instruction after them is refused
pub record StopsAhead (Noted : List ℕ → Type 0) (old new : Session) (answer : Halt) : Type 0 where
  pub addresses : List ℕ
  pub end : GameState
  pub pc : ℕ
  pub goes : GoesBy addresses old.state.game old.state.pc end pc
  pub few : length addresses < old.limits.steps - old.state.steps
  pub refusal : Refusal
  pub refused : IsRefused end pc refusal
  pub noted : Noted (addresses ++ pc ∷ [])
  pub tells : answer ≡ Err (stop_by pc refusal)
  pub free : new.waiting ≡ None

abbrev pub IsAhead : (List ℕ → Type 0) → Session → Session → Result (Unit {0}) Halt → Type 0
IsAhead Noted old new (Ok x) = GoesAhead Noted old new
IsAhead Noted old new (Err h) = StopsAhead Noted old new h
