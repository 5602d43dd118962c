-- A machine in the middle of an instruction's text, as contracts see it.
use Rattle.std.specs.Prelude.{◌≡◌, ◌<◌, ◌+◌, ℕ, Bool, true, false, List, [], ◌∷◌, IfSome, Option, Some, None, Result}
use Rattle.std.specs.Prelude.{Ok, Err}
use Rattle.zk_code.specs.declared.instr.Instr.{Instr}
use Rattle.zk_code.specs.declared.opcode.Opcode.{Opcode}
use Rattle.zk_code.specs.declared.opcode.Opcode.TheVariants as opcode
use Rattle.zk_code.specs.declared.opcode.Printing.TheVariants as printing
use Rattle.zk_code.specs.Reading.{instr_at}
use Rattle.zk_term.specs.Windows.{Windows}
use Rattle.zk_step.specs.declared.output.parts.Half.{Half}
use Rattle.zk_step.specs.declared.state.ending.Event.{Event}
use Rattle.zk_step.specs.declared.state.game_state.GameState.{GameState}
use Rattle.zk_step.specs.Halves.{IsHalf, ShowsSome, rest_text, text_due}
use Rattle.zk_step.specs.Routing.{Signals}
use Rattle.zk_vm.specs.declared.machine.pausing.PausingMachine.TheInside.{Inside}
use Rattle.zk_vm.specs.declared.machine.pausing.Reached.{Reached}
use Rattle.zk_vm.specs.declared.machine.pausing.Reached.TheVariants as reached
use Rattle.zk_vm.specs.declared.machine.pausing.Stepped.{Stepped}
use Rattle.zk_vm.specs.declared.machine.pausing.Stepped.TheVariants as stepped
use Rattle.zk_vm.specs.declared.stop.Stop.{Stop}
use Rattle.zk_vm.specs.Halts.{Halt, IsKeeping, IsStep}
use Rattle.zk_vm.specs.Log.{Entry, IsLog, Move, answers_in, moved, parts_of, signals}
use Rattle.zk_vm.specs.Logged.{IsOn, Ran}
use Rattle.zk_vm.specs.Sessions.{Session}

-- what is still to come of a text of which a part was shown
abbrev pub left_of : GameState → Option Half → Option Signals
left_of w None = None
left_of w (Some h) = Some (rest_text w h.rest)

abbrev pub with_left : Session → Option Half → Session
with_left s half = record s { left = left_of s.state.game half }

abbrev pub pausing_seen : Inside → Session
pausing_seen p = with_left p.machine p.half

-- the instruction at the program counter of a machine that goes on is in the middle of its text
pub record StandsHalf (s : Session) (codes : List ℕ) (draft : Windows) (h : Half) : Type 0 where
  pub on : IsOn s
  pub room : s.state.steps < s.limits.steps
  pub instruction : Instr
  pub fetched : instr_at s.state.game.memory s.state.pc ≡ Ok instruction
  pub half : IsHalf s.state.game instruction codes draft h

pub record IsPausing (p : Inside) : Type 0 where
  pub whole : p.machine.left ≡ None
  pub half : IfSome p.half (StandsHalf p.machine p.codes p.draft)

-- a part of an instruction's text was shown: the machine stands as before
pub record IsCut {S : Type 0} (shows : S → S → Signals → Type 0) (a b : S) (old new : Session) (i : Instr)
    (before : Option Half) (codes : List ℕ) (draft : Windows) (h : Half) : Type 0 where
  pub same : new ≡ old
  pub half : IsHalf old.state.game i codes draft h
  pub shown : ShowsSome shows a b (text_due old.state.game i before) (rest_text old.state.game h.rest)

-- so it was of the instruction at the program counter
pub record IsCutAt {S : Type 0} (shows : S → S → Signals → Type 0) (a b : S) (old new : Session)
    (before : Option Half) (codes : List ℕ) (draft : Windows) (h : Half) : Type 0 where
  pub instruction : Instr
  pub fetched : instr_at old.state.game.memory old.state.pc ≡ Ok instruction
  pub cut : IsCut shows a b old new instruction before codes draft h

-- a machine whose transcript got what it was still to get
abbrev pub told_due : Session → Session
told_due s = record s { state = record s.state { due = [] } }

-- the text of a step, or the rest of it
abbrev pub due_of : GameState → Option Half → Signals → Signals
due_of w None t = t
due_of w (Some h) t = rest_text w h.rest

abbrev pub GotDue : {S : Type 0} → (S → S → Signals → Type 0) → S → S → GameState → Option Half → Signals → Type 0
GotDue {S} shows a b w half t = shows a b (due_of w half t)

-- an instruction may print a long text, or many rows
abbrev pub prints_text : Opcode → Bool
prints_text (opcode.Printing printing.Print) = true
prints_text (opcode.Printing printing.PrintRet) = true
prints_text (opcode.Printing printing.PrintAddr) = true
prints_text (opcode.Printing printing.PrintPaddr) = true
prints_text (opcode.Printing printing.PrintObj) = true
prints_text (opcode.Printing p) = false
prints_text (opcode.Table t) = true
prints_text _ = false

-- the step was made, and the text that was still to come was shown; or nothing was done, for lack of memory
abbrev pub IsMade : {S : Type 0} → (S → S → Signals → Type 0) → S → S → Session → Session → Option Half
    → Result Stepped Halt → Type 0
IsMade {S} shows a b old new half (Ok stepped.Part) = Unit {0}
IsMade {S} shows a b old new half (Ok stepped.Done) = IsStep old new (Ok tt) (GotDue shows a b old.state.game half)
IsMade {S} shows a b old new half (Ok stepped.NoMemory) = (new ≡ old) × IsKeeping old.state × (b ≡ a)
IsMade {S} shows a b old new half (Err h) = IsStep old new (Err h) (GotDue shows a b old.state.game half)

-- ---- how a machine goes on

-- a machine went on, and a screen got what passed
pub record WentOn {S : Type 0} (shows : S → S → Signals → Type 0) (parts : ℕ) (a b : S)
    (s t : Session) : Type 0 where
  pub log : List Entry
  pub is : IsLog s log t
  pub counted : parts_of is.moves ≡ parts
  pub alone : answers_in log ≡ []
  pub got : shows a b (signals log)
  pub on : IsOn t

-- it did so by a move
pub record GoneBy {S : Type 0} (shows : S → S → Signals → Type 0) (parts : ℕ) (a b : S)
    (s t : Session) : Type 0 where
  pub move : Move
  pub counted : parts_of (move ∷ []) ≡ parts
  pub there : t ≡ (moved s move).to
  pub alone : answers_in (moved s move).entries ≡ []
  pub got : shows a b (signals (moved s move).entries)
  pub on : IsOn t

-- ---- what a run comes to

-- a machine has gone on to an instruction that keeps a state, for which there is no memory, and stands before it
pub record StandsShort {S : Type 0} (shows : S → S → Signals → Type 0) (failed : S → Bool) (a b : S)
    (bound parts : ℕ) (old new : Session) : Type 0 where
  pub went : WentOn shows parts a b old new
  pub keeping : IsKeeping new.state
  pub works : failed b ≡ false
  pub few : new.state.steps + parts < bound
  pub room : new.state.steps < new.limits.steps

-- a machine has paused, with memory or for lack of it, or it waits or stops
abbrev pub HasCome : {S : Type 0} → (S → S → Signals → Type 0) → (full failed : S → Bool) → (a b : S)
    → (bound : ℕ) → (old new : Session) → Result Bool Halt → Type 0
HasCome {S} shows full failed a b bound old new (Ok true) =
    (parts : ℕ) × Ran shows full failed (λ l. Unit {0}) a b bound parts old new (Ok tt)
HasCome {S} shows full failed a b bound old new (Ok false) =
    (parts : ℕ) × StandsShort shows failed a b bound parts old new
HasCome {S} shows full failed a b bound old new (Err h) =
    (parts : ℕ) × Ran shows full failed (λ l. Unit {0}) a b bound parts old new (Err h)

-- what a run tells, as its steps tell it
abbrev pub come_to : Result Reached Stop → Result Bool Halt
come_to (Ok (reached.Answer event)) = Err (Ok event)
come_to (Ok reached.Pause) = Ok true
come_to (Ok reached.NoMemory) = Ok false
come_to (Err stop) = Err (Err stop)

-- what is waited for, by what a run has reached
abbrev pub event_reached : Reached → Option Event
event_reached (reached.Answer event) = Some event
event_reached reached.Pause = None
event_reached reached.NoMemory = None
