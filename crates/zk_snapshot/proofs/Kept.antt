-- What is known of a machine that has a snapshot.
use Rattle.std.specs.Prelude.{[], Option, Some, None, Ok, IfSome, OnSome}
use Rattle.std.proofs.Common.{◌≡◌, ◌≤◌, length, refl}
use Rattle.zk_mem.specs.Map.{IsOfFile}
use Rattle.zk_code.specs.Reading.{instr_at}
use Rattle.zk_save.specs.States.{UndoStates, states_in, AreOf}
use Rattle.zk_save.proofs.Shown.{all_sized}
use Rattle.zk_save.proofs.Wholes.{same_of}
use Rattle.zk_state.specs.Frames.{FrameList, bounds_of}
use Rattle.zk_step.specs.declared.state.ending.Event.{Event}
use Rattle.zk_vm.specs.Bounds.{setup_of}
use Rattle.zk_vm.specs.declared.waiting.Waiting.{Waiting}
use Rattle.zk_vm.specs.Halts.{event_waited}
use Rattle.zk_vm.specs.Sessions.{Session}
use Rattle.zk_vm.specs.Parts.{asking_of}
use Rattle.zk_snapshot.specs.Laws.{IsKept}
use Rattle.zk_snapshot.specs.Snapshots.{HasSnapshot}

-- what holds of a machine that waits
waiting_has : (w : Option Waiting) (e : Event) (P : Type 0) → event_waited w ≡ Some e → OnSome (asking_of w) P → P
waiting_has None e P waits holds = absurd cc
waiting_has (Some w) e P waits holds = holds

-- the same, with what waits told by a snapshot
pub while_kept : (s : Session) (P : Type 0) → HasSnapshot s → OnSome (asking_of s.waiting) P → P
while_kept s P has holds = waiting_has s.waiting has.0 P has.1.0 holds

pub are_there : (s : Session) (u : UndoStates) (f : FrameList) → HasSnapshot s
    → OnSome (asking_of s.waiting) (AreOf s.state.game.memory s.state.game.frames u)
    → bounds_of f ≡ bounds_of s.state.game.frames → AreOf s.state.game.memory f u
are_there s u f has are bounds = same_of s.state.game.memory s.state.game.memory s.state.game.frames f u
    refl bounds (while_kept s (AreOf s.state.game.memory s.state.game.frames u) has are)

pub is_kept : (s : Session) (u : UndoStates) → HasSnapshot s
    → bounds_of s.state.game.frames ≡ (s.limits.frames, s.limits.words)
    → OnSome (asking_of s.waiting) (s.stopped ≡ None) → OnSome (asking_of s.waiting) (s.state.due ≡ [])
    → OnSome (asking_of s.waiting) (s.left ≡ None) → OnSome (asking_of s.waiting)
    (s.state.game.memory.setup ≡ setup_of s.limits) → IsOfFile s.state.game.memory
    → IfSome s.waiting (λ w. instr_at s.state.game.memory s.state.pc ≡ Ok w.instruction)
    → s.state.undo ≡ states_in s.state.game.memory.file u → OnSome (asking_of s.waiting)
    (AreOf s.state.game.memory s.state.game.frames u) → s.state.game.memory.static_base ≤ length
    s.state.game.memory.file → IsKept s
is_kept s u has bounds runs due shown setup of_file fetched states are within = record {
  has = has;
  bounds = bounds;
  setup = while_kept s (s.state.game.memory.setup ≡ setup_of s.limits) has setup;
  of_file = of_file;
  within = within;
  sized =
      rw states (all_sized s.state.game.memory s.state.game.frames u within
      (while_kept s (AreOf s.state.game.memory s.state.game.frames u) has are));
  due = while_kept s (s.state.due ≡ []) has due;
  stopped = while_kept s (s.stopped ≡ None) has runs;
  left = while_kept s (s.left ≡ None) has shown;
  fetched = fetched;
}
