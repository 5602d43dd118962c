-- The parts of a machine that waits, and the machine that is made of them.
use Rattle.std.specs.Prelude.{List, [], Option, Some, None}
use Rattle.zk_code.specs.declared.instr.Instr.{Instr}
use Rattle.zk_save.specs.States.{WholeState}
use Rattle.zk_step.specs.declared.state.ending.Event.{Event}
use Rattle.zk_step.specs.declared.state.game_state.GameState.{GameState}
use Rattle.zk_vm.specs.declared.limits.Limits.{Limits}
use Rattle.zk_vm.specs.declared.machine.parts.Asking.{Asking}
use Rattle.zk_vm.specs.declared.machine.parts.Place.{Place}
use Rattle.zk_vm.specs.declared.waiting.Waiting.{Waiting}
use Rattle.zk_vm.specs.Sessions.{Session}

-- where a run stands
abbrev pub place_of : Session → Place
place_of s = record { pc = s.state.pc; steps = s.state.steps; reads = s.state.reads }

-- what is asked for, and what its answer reads of the instruction that waits
abbrev pub asking_of : Option Waiting → Option Asking
asking_of None = None
asking_of (Some w) = Some (record { event = w.wait; next = w.instruction.next; store = w.instruction.store })

-- a machine that waits, made of its parts
abbrev pub waiting_with : GameState → Place → Limits → Event → Instr → List WholeState → Session
waiting_with game place limits event i undo = record {
  state = record { game = game; pc = place.pc; steps = place.steps; reads = place.reads; due = []; undo = undo };
  limits = limits;
  waiting = Some (record { wait = event; instruction = i });
  stopped = None;
  left = None;
}
