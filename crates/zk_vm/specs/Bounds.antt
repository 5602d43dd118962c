-- The bounds of a run.
use Rattle.std.specs.Prelude.{◌≤◌}
use Rattle.zk_mem.specs.declared.memory.Setup.{Setup}
use Rattle.zk_vm.specs.declared.limits.Limits.{Limits}

-- each limit lies in its range
pub record AreInRange (l : Limits) : Type 0 where
  pub frames : 1 ≤ l.frames
  pub undo : l.undo ≤ 64
  pub some_step : 1 ≤ l.steps
  pub steps : l.steps ≤ 1000000000
  pub columns : 20 ≤ l.screen.columns

-- what a story is told of its interpreter (Standard, section 11.1)
abbrev pub setup_of : Limits → Setup
setup_of l = record { undo_states = l.undo; screen = l.screen }
