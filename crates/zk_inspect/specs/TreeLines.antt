-- The lines of the tree of objects (Standard, section 12.3). What a line looks like is zkit's choice.
use Rattle.std.specs.Prelude.{◌≡◌, ◌<◌, ◌≤◌, ℕ, Bool, List, All, Contains, ◌++◌, map, codes, decimal, if◌then◌else◌}
use Rattle.std.specs.List.{flat_map, range_with_len}
use Rattle.zk_mem.specs.Map.{MemoryMap}
use Rattle.zk_tables.specs.Links.{link_at, parent_of}
use Rattle.zk_inspect.specs.declared.fact.Fact.{Fact}
use Rattle.zk_inspect.specs.declared.fact.Fact.TheVariants as fact
use Rattle.zk_inspect.specs.declared.fact.Node.{Node}
use Rattle.zk_inspect.specs.ObjectLines.{label_text, number_or_none}
use Rattle.zk_inspect.specs.Objects.{IsObject}

-- two spaces for each level
unfoldable pub indent : ℕ → List ℕ
indent level = flat_map (λ i. codes "  ") (range_with_len 0 level)

-- an object that was listed before
unfoldable pub again_text : ℕ → List ℕ
again_text o = decimal o ++ codes " *"

-- an object: its number and its name, or a star in place of the name where it was listed before
unfoldable pub row_text : MemoryMap → Node → List ℕ
row_text m row = if row.again then again_text row.object else label_text m row.object

-- its line
unfoldable pub row_line : MemoryMap → Node → List ℕ
row_line m row = indent row.level ++ row_text m row

-- among some rows stands an object with none above it
abbrev pub StandsAtTop : List Node → ℕ → Type 0
StandsAtTop rows o = (again : Bool) × Contains rows (record { level = 0; object = o; again = again })

-- rows of some objects, among which stand at least those that are wanted at the top
pub record AreRows (Has Wants : ℕ → Type 0) (facts : List Fact) : Type 0 where
  pub rows : List Node
  pub are : facts ≡ map fact.Node rows
  pub objects : All (λ row. Has row.object) rows
  pub top : (o : ℕ) → Wants o → StandsAtTop rows o

-- one of the first objects
abbrev pub IsUpTo : ℕ → ℕ → Type 0
IsUpTo count o = (0 < o) × (o ≤ count)

-- an object that names no parent, or none that can be read
abbrev pub HasNoParent : MemoryMap → ℕ → Type 0
HasNoParent m o = number_or_none (link_at m (parent_of o)) ≡ 0

-- a root of the tree: an object of a story without a parent
abbrev pub IsRoot : MemoryMap → ℕ → Type 0
IsRoot m o = IsObject m o × HasNoParent m o

-- rows of objects of a story
abbrev pub AreSomeRows : MemoryMap → List Fact → Type 0
AreSomeRows m = AreRows (IsObject m) (λ o. ⊥)

-- rows of objects of a story, with one of each root
abbrev pub AreTreeRows : MemoryMap → List Fact → Type 0
AreTreeRows m = AreRows (IsObject m) (IsRoot m)
