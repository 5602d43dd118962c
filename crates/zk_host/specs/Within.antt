-- Limits that others allow.
use Rattle.std.specs.Prelude.{◌≤◌}
use Rattle.zk_vm.specs.declared.limits.Limits.{Limits}

-- each limit is at most the other one
pub record AreWithin (limits most : Limits) : Type 0 where
  pub frames : limits.frames ≤ most.frames
  pub words : limits.words ≤ most.words
  pub undo : limits.undo ≤ most.undo
  pub steps : limits.steps ≤ most.steps
