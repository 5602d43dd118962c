-- What a host changes in the memory of a story that waits.
use Rattle.std.specs.Prelude.{◌≡◌, Result, Ok}
use Rattle.zk_mem.specs.declared.fault.Fault.{Fault}
use Rattle.zk_mem.specs.Map.{MemoryMap, word_put}
use Rattle.zk_tables.specs.Tree.{inserted, removed}
use Rattle.zk_vm.specs.declared.machine.changing.Change.{Change}
use Rattle.zk_vm.specs.declared.machine.changing.Change.TheVariants as change
use Rattle.zk_vm.specs.Sessions.{Session}

-- the memory after a change, by the story's own rules: dynamic memory alone changes (section 1.1.1), and the tree as
-- `insert_obj` and `remove_obj` change it (section 15)
abbrev pub changed_by : Change → MemoryMap → Result MemoryMap Fault
changed_by (change.Word a v) m = word_put m a v
changed_by (change.Insertion o d) m = inserted m o d
changed_by (change.Removal o) m = removed m o

-- a machine with another memory
abbrev pub with_memory : Session → MemoryMap → Session
with_memory s m = record s { state = record s.state { game = record s.state.game { memory = m } } }

-- a machine's memory was changed, and nothing else of it
pub record IsChanged (c : Change) (old new : Session) : Type 0 where
  pub memory : changed_by c old.state.game.memory ≡ Ok new.state.game.memory
  pub beside : new ≡ with_memory old new.state.game.memory
