-- Runs inside a clean set of addresses, as long as what stands in the instructions tells where they lead (Standard,
-- sections 4 to 6 and 15).
use Rattle.std.specs.Prelude.{◌≡◌, ◌+◌, ℕ, Bool, true, false, ◌&&◌, List, [], ◌∷◌, All, Option, Some, None, Result, Ok}
use Rattle.std.specs.Prelude.{Err, is_ok}
use Rattle.zk_mem.specs.declared.memory.Setup.{Setup}
use Rattle.zk_mem.specs.declared.fault.Fault.{Fault}
use Rattle.zk_mem.specs.Fresh.{fresh}
use Rattle.zk_mem.specs.Story.{refusal}
use Rattle.zk_state.specs.Frames.{Frame}
use Rattle.zk_code.specs.declared.instr.Instr.{Instr}
use Rattle.zk_code.specs.Clean.{IsClean, leads_by_variable}
use Rattle.zk_code.specs.Reading.{instr_at}
use Rattle.zk_save.specs.Loading.{restored}
use Rattle.zk_save.specs.States.{WholeState}
use Rattle.zk_step.specs.declared.state.ending.Event.{Event}
use Rattle.zk_step.specs.declared.state.ending.Event.TheVariants.{Restore}
use Rattle.zk_step.specs.declared.state.game_state.View.{View}
use Rattle.zk_step.specs.Laws.{KeepsStory, ReturnInto, is_of_reading}
use Rattle.zk_vm.specs.declared.limits.Limits.{Limits}
use Rattle.zk_vm.specs.declared.stop.Stop.{Stop}
use Rattle.zk_vm.specs.declared.stop.Stop.TheVariants.{Fault as FaultAt}
use Rattle.zk_vm.specs.declared.waiting.Waiting.{Waiting}
use Rattle.zk_vm.specs.Answers.{Answer, answered, file_of}
use Rattle.zk_vm.specs.Log.{Move, after, moved}
use Rattle.zk_vm.specs.Log.Move.{Gets, Goes}
use Rattle.zk_vm.specs.Sessions.{Session, begun}
use Rattle.zk_vm.specs.Step.{State, step}
use Rattle.zk_vm.specs.Step.Step.{Faults}

-- ---- states

-- of some frames, newest first, all but the oldest return into a set
abbrev pub FramesReturn : (ℕ → Type 0) → List Frame → Type 0
FramesReturn P [] = Unit {0}
FramesReturn P (f ∷ fs) = ReturnInto P f.pc fs

-- a state that can be gone back to goes on inside a set, after the store byte at its address (section 15,
-- `restore_undo`)
pub record IsKeptInside (P : ℕ → Type 0) (kept : WholeState) : Type 0 where
  pub frames : FramesReturn P kept.frames
  pub pc : P (kept.pc + 1)

-- a state of play is inside a set: its program counter, the addresses that its routines return to, and the states to go
-- back to
pub record IsInside (P : ℕ → Type 0) (s : State) : Type 0 where
  pub pc : P s.pc
  pub frames : ReturnInto P s.game.frames.current.pc s.game.frames.callers
  pub undo : All (IsKeptInside P) s.undo

-- ---- what nothing is said after

abbrev pub found_by_variable : Result Instr Fault → Bool
found_by_variable (Ok i) = leads_by_variable i
found_by_variable (Err f) = false

-- the instruction at a state's program counter calls or jumps by a variable
unfoldable pub goes_by_variable : State → Bool
goes_by_variable s = found_by_variable (instr_at s.game.memory s.pc)

abbrev pub is_restore : Event → Bool
is_restore Restore = true
is_restore _ = false

abbrev pub is_loaded : State → Option (List ℕ) → Bool
is_loaded s None = false
is_loaded s (Some file) = is_ok (restored file s.game.memory s.game.frames)

-- an answer restores a saved game; a file that is refused restores none
unfoldable pub loads_file : State → Waiting → Answer → Bool
loads_file s w a = is_restore w.wait && is_loaded s (file_of a)

-- a move of a machine carries out such an instruction, or restores a saved game
abbrev pub leaves_by : Option Stop → Option Waiting → List ℕ → Session → Move → Bool
leaves_by None None [] s Goes = goes_by_variable s.state
leaves_by None (Some w) due s (Gets a) = loads_file s.state w a
leaves_by stopped waiting due s m = false

abbrev pub leaves : Session → Move → Bool
leaves s m = leaves_by s.stopped s.waiting s.state.due s m

-- none of some moves does, each at the machine that makes it
unfoldable pub NoneLeaves : List Move → Session → Type 0
NoneLeaves [] s = Unit {0}
NoneLeaves (m ∷ ms) s = (leaves s m ≡ false) × NoneLeaves ms (moved s m).to

-- ---- laws

-- the step from a state, where its program counter is in a set, is no fault of reading
abbrev pub IsRead : (ℕ → Type 0) → State → Type 0
IsRead P s = P s.pc → (f : Fault) → step s ≡ Faults f → is_of_reading f ≡ false

-- where a set is clean for a story, a machine of it is inside after any moves, up to a call or jump by a variable and
-- up to a saved game; no step at an address of the set is ever a fault of reading, and no answer is; and memory always
-- keeps the story
pub record StaysClean (story : List ℕ) (P : ℕ → Type 0) : Type 0 where
  pub inside : (seed : ℕ) (l : Limits) (view : View) (ms : List Move) → NoneLeaves ms (begun story seed l view)
      → (after ms (begun story seed l view)).stopped ≡ None → IsInside P (after ms (begun story seed l view)).state
  pub read : (seed : ℕ) (l : Limits) (view : View) (ms : List Move)
      → (after ms (begun story seed l view)).stopped ≡ None → IsRead P (after ms (begun story seed l view)).state
  pub answers : (s : State) (w : Waiting) (a : Answer) (f : Fault) → answered s w a ≡ Faults f → is_of_reading f ≡ false
  pub memory : (seed : ℕ) (l : Limits) (view : View) (ms : List Move)
      → (after ms (begun story seed l view)).stopped ≡ None
      → KeepsStory (after ms (begun story seed l view)).state.game.memory

-- so it is for each clean set
abbrev pub CleanStays : Type 0
CleanStays = (story : List ℕ) (setup : Setup) (is_in : ℕ → Bool) → refusal story ≡ None
    → IsClean (fresh story setup) (λ a. is_in a ≡ true) → StaysClean story (λ a. is_in a ≡ true)

-- no machine of a story stops at an address of a set by a fault of reading the instruction there, whatever moves it
-- makes
unfoldable pub StopsRead : List ℕ → (ℕ → Type 0) → Type 0
StopsRead story P = (seed : ℕ) (l : Limits) (view : View) (ms : List Move) (a : ℕ) (f : Fault)
    → (after ms (begun story seed l view)).stopped ≡ Some (FaultAt a f) → P a → is_of_reading f ≡ false

-- so it is where runs stay clean
abbrev pub CleanStopsRead : Type 0
CleanStopsRead = (story : List ℕ) (is_in : ℕ → Bool) → StaysClean story (λ a. is_in a ≡ true)
    → StopsRead story (λ a. is_in a ≡ true)
