-- Marks on property lists.
use Rattle.std.specs.Prelude.{◌↔◌, ℕ, Bool, List}
use Rattle.zk_mem.specs.Map.{MemoryMap}
use Rattle.zk_tables.specs.declared.lists.Property.{Property}
use Rattle.zk_tables.specs.PropertyList.{IsPropertyList}
use Rattle.zk_inspect.specs.Lists.{IsMarked}

-- a property list lies in data at an address (Standard, section 12.4)
abbrev pub HasList : MemoryMap → ℕ → Type 0
HasList m a = (ps : List Property) × IsPropertyList m a ps

-- marks on all of them
pub record AreListMarks (m : MemoryMap) (marks : List Bool) : Type 0 where
  pub exact : (a : ℕ) → IsMarked marks a ↔ HasList m a
