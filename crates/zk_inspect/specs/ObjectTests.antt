-- Tests on the objects of a story.
use Rattle.std.specs.Prelude.{◌≡◌, ◌↔◌, ℕ, ◌<◌, ◌≤◌, IsOk, Bool, true, false, ◌||◌, Result, Ok, Err, nat_lt}
use Rattle.zk_mem.specs.declared.fault.Fault.{Fault}
use Rattle.zk_mem.specs.declared.fault.Fault.TheVariants.{BadTree, BadProperty}
use Rattle.zk_mem.specs.Map.{MemoryMap}
use Rattle.zk_tables.specs.Chain.{children_of}
use Rattle.zk_tables.specs.Layout.{entry_of}
use Rattle.zk_tables.specs.Links.{link_at, parent_of, sibling_of, child_of}
use Rattle.zk_tables.specs.Properties.{properties_of}
use Rattle.zk_inspect.specs.Objects.{IsListed}
use Rattle.zk_inspect.specs.ListMarks.{AreListMarks}
use Rattle.zk_inspect.specs.Siblings.{IsAhead}
use Rattle.zk_inspect.specs.declared.objects.Objects.{Objects}
use Rattle.zk_inspect.specs.declared.objects.Question.{Question}
use Rattle.zk_inspect.specs.declared.objects.Question.TheVariants.{Links, Chain, Properties}
use Rattle.zk_inspect.specs.declared.check.finding.Number.{Number}
use Rattle.zk_inspect.specs.declared.check.finding.Number.TheVariants as number

-- a link names an object past the last
abbrev pub is_past : ℕ → Result ℕ Fault → Bool
is_past count (Ok o) = nat_lt count o
is_past count (Err f) = false

-- one of an object's links does
abbrev pub leads_past : MemoryMap → ℕ → ℕ → Bool
leads_past m count o = is_past count (link_at m (parent_of o)) || is_past count (link_at m (sibling_of o)) ||
    is_past count (link_at m (child_of o))

-- a tree is bad
abbrev pub is_bad_tree : {A : Type 0} → Result A Fault → Bool
is_bad_tree (Err BadTree) = true
is_bad_tree _ = false

-- a property list is bad
abbrev pub is_bad_property : {A : Type 0} → Result A Fault → Bool
is_bad_property (Err BadProperty) = true
is_bad_property _ = false

-- the answer to a question on an object, where so many are listed
abbrev pub answer : MemoryMap → ℕ → Question → ℕ → Bool
answer m count Links o = leads_past m count o
answer m count Chain o = is_bad_tree (children_of m o)
answer m count Properties o = is_bad_property (properties_of m o)

-- the address is that of the entry of one of so many objects, of which the question is answered with yes
pub record IsAnswered (m : MemoryMap) (count : ℕ) (q : Question) (most a : ℕ) : Type 0 where
  pub object : ℕ
  pub few : object ≤ most
  pub stands : entry_of m object ≡ Ok a
  pub yes : answer m count q object ≡ true

-- so many objects are listed, and each has an entry
pub record IsCounted (m : MemoryMap) (n : ℕ) : Type 0 where
  pub listed : (o e : ℕ) → IsListed m o e ↔ ((o ≤ n) × (entry_of m o ≡ Ok e))
  pub whole : (o : ℕ) → 0 < o → o ≤ n → IsOk (entry_of m o)

-- how many objects there are, and where their siblings lead
pub record AreObjects (m : MemoryMap) (objects : Objects) : Type 0 where
  pub counted : IsCounted m objects.count
  pub far : IsAhead m 65536 objects.far_siblings.items
  pub lists : AreListMarks m objects.lists

-- the finding that a question asks for
abbrev pub object_number : Question → Number
object_number Links = number.ObjectLinks
object_number Chain = number.ChainWithARepeat
object_number Properties = number.PropertyList
