-- What the parts of a machine keep to.
use Rattle.std.specs.Prelude.{◌≡◌, ◌≤◌}
use Rattle.zk_save.specs.States.{states_in, AreOf}
use Rattle.zk_state.specs.Frames.{bounds_of}
use Rattle.zk_step.specs.Laws.{fixed_parts}
use Rattle.zk_fast.specs.Caches.{IsCacheOf}
use Rattle.zk_vm.specs.declared.machine.Machine.TheInside.{Inside}
use Rattle.zk_vm.specs.Bounds.{setup_of}
use Rattle.zk_vm.specs.Halts.{CanAnswer, WhileRunning}
use Rattle.zk_vm.specs.Step.{State}

-- the state of play that contracts speak of: the states to go back to are whole
abbrev pub state_seen : Inside → State
state_seen m = record {
  game = m.game;
  pc = m.pc;
  steps = m.steps;
  reads = m.reads;
  due = m.due.items;
  undo = states_in m.game.memory.file m.undo;
}

-- the states to go back to are those of the story; its memory tells it what the limits say; the instructions that were
-- decoded before are the story's
pub record IsOfStory (m : Inside) : Type 0 where
  pub are_of : AreOf m.game.memory m.game.frames m.undo
  pub memory : m.game.memory.setup ≡ setup_of m.limits
  pub cache : IsCacheOf (fixed_parts m.game.memory) m.cache

-- a machine keeps to its limits; while it has no stop its states can be gone back to
pub record IsSound (m : Inside) : Type 0 where
  pub steps : m.steps ≤ m.limits.steps
  pub bounds : bounds_of m.game.frames ≡ (m.limits.frames, m.limits.words)
  pub reads : m.reads ≤ 16777216
  pub most : m.undo.most ≡ m.limits.undo
  pub story : WhileRunning m.stopped (IsOfStory m)
  pub waits : CanAnswer (state_seen m) m.limits m.stopped m.waiting
