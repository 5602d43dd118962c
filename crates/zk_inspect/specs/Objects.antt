-- The objects that are listed, and what may be wrong with them (Standard, sections 12.3 to 12.5).
use Rattle.std.specs.Prelude.{◌≡◌, ◌≢◌, ◌⊎◌, ℕ, ◌<◌, Result, Ok, Err, min}
use Rattle.zk_mem.specs.declared.fault.Fault.{Fault}
use Rattle.zk_mem.specs.declared.fault.Fault.TheVariants.{BadProperty}
use Rattle.zk_mem.specs.Header.{header_of}
use Rattle.zk_mem.specs.Map.{MemoryMap}
use Rattle.zk_tables.specs.Layout.{entry_of}
use Rattle.zk_tables.specs.Links.{link_at, parent_of, sibling_of, child_of}
use Rattle.zk_tables.specs.Properties.{list_of, table_of}
use Rattle.zk_tables.specs.PropertyList.{LeavesData}

-- an object that is listed, with the address of its entry: there is an object table, and the entry lies in data and
-- begins below the property table of each object before it
pub record IsListed (m : MemoryMap) (o entry : ℕ) : Type 0 where
  pub tabled : (header_of m.file).objects ≢ 0
  pub stands : entry_of m o ≡ Ok entry
  pub below : (p table : ℕ) → p < o → table_of m p ≡ Ok table → entry < table

-- an object of a story
abbrev pub IsObject : MemoryMap → ℕ → Type 0
IsObject m o = (entry : ℕ) × IsListed m o entry

-- a link of an object names an object that is not listed
pub record LeadsPast (m : MemoryMap) (o : ℕ) : Type 0 where
  pub named : ℕ
  pub some : named ≢ 0
  pub past : (entry : ℕ) → IsListed m named entry → ⊥
  pub names : (link_at m (parent_of o) ≡ Ok named) ⊎ ((link_at m (sibling_of o) ≡ Ok named)
      ⊎ (link_at m (child_of o) ≡ Ok named))

-- the property list of an object does not lie in data (section 12.4)
abbrev pub LacksList : MemoryMap → ℕ → Type 0
LacksList m o = (list_of m o ≡ Err BadProperty) ⊎ ((a : ℕ) × (list_of m o ≡ Ok a) × LeavesData m a)

-- something holds of a listed object whose entry stands at an address
abbrev pub HasObject : MemoryMap → (ℕ → Type 0) → ℕ → Type 0
HasObject m P a = (o : ℕ) × IsListed m o a × P o

-- the lower one of an address and another, where there is one
abbrev pub lower_of : Result ℕ Fault → ℕ → ℕ
lower_of (Ok table) lowest = min lowest table
lower_of (Err f) lowest = lowest
