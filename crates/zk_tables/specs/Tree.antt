-- Taking an object out of the tree, and putting it in (Standard, sections 12.3 and 15, remove_obj and
-- insert_obj).
use Rattle.std.specs.Prelude.{◌≡◌, ◌≢◌, ℕ, List, [], ◌∷◌, Option, Some, None, Result, Ok, Err, ◌==◌, ◌||◌}
use Rattle.std.specs.Prelude.{if◌then◌else◌}
use Rattle.zk_mem.specs.declared.fault.Fault.{Fault}
use Rattle.zk_mem.specs.declared.fault.Fault.TheVariants.{BadObject, BadTree}
use Rattle.zk_mem.specs.Results.{◌>>=◌}
use Rattle.zk_mem.specs.Map.{MemoryMap}
use Rattle.zk_tables.specs.declared.links.LinkPlace.{LinkPlace}
use Rattle.zk_tables.specs.Layout.{entry_of}
use Rattle.zk_tables.specs.Links.{parent_of, sibling_of, child_of, link_at, link_put}
use Rattle.zk_tables.specs.Chain.{children_of, IsChain, Repeats, MeetsBad}

-- the link that names o, in a chain whose first object a link names
abbrev pub naming_in : LinkPlace → List ℕ → ℕ → Result LinkPlace Fault
naming_in place [] o = Err BadTree
naming_in place (x ∷ xs) o = if x == o then Ok place else naming_in (sibling_of x) xs o

-- the same, where the children are those of an object
unfoldable pub naming_among : MemoryMap → ℕ → ℕ → Result LinkPlace Fault
naming_among m parent o = children_of m parent >>= λ xs. naming_in (child_of parent) xs o

-- the link that names an object in the whole chain of its parent, where it has a parent
unfoldable pub naming_of : MemoryMap → ℕ → Result (Option LinkPlace) Fault
naming_of m o = do
  parent ← link_at m (parent_of o)
  if parent == 0 then Ok None else (naming_among m parent o >>= λ place. Ok (Some place))

-- the link that names an object gets the object's sibling; the object's parent and sibling become 0
unfoldable pub unlinked : MemoryMap → LinkPlace → ℕ → Result MemoryMap Fault
unlinked m place o = do
  next ← link_at m (sibling_of o)
  named ← link_put m place next
  orphan ← link_put named (parent_of o) 0
  link_put orphan (sibling_of o) 0

-- an object without a parent stays as it is
unfoldable pub unlinked_where : MemoryMap → ℕ → Option LinkPlace → Result MemoryMap Fault
unlinked_where m o None = Ok m
unlinked_where m o (Some place) = unlinked m place o

-- the memory after an object is removed from its parent
unfoldable pub removed : MemoryMap → ℕ → Result MemoryMap Fault
removed m o = naming_of m o >>= unlinked_where m o

-- an object's sibling becomes the child of d, its parent d, and the child of d the object
unfoldable pub linked : MemoryMap → ℕ → ℕ → Result MemoryMap Fault
linked m o d = do
  next ← link_at m (child_of d)
  before ← link_put m (sibling_of o) next
  within ← link_put before (parent_of o) d
  link_put within (child_of d) o

-- the memory after an object is removed from its parent and put into another, as its first child
unfoldable pub inserted : MemoryMap → ℕ → ℕ → Result MemoryMap Fault
inserted m o d =
    if o == 0 || d == 0
    then Ok m
    else (entry_of m o >>= λ _. entry_of m d >>= λ _. removed m o >>= λ without. linked without o d)

-- ---- a law

-- the chain of the parent's children decides what is removed; one that repeats an object or meets a bad
-- one refuses
pub record IsRemoval (m : MemoryMap) (o parent : ℕ) : Type 0 where
  pub chain : (xs : List ℕ) → IsChain m parent xs
      → removed m o ≡ (naming_in (child_of parent) xs o >>= λ place. unlinked m place o)
  pub repeats : Repeats m parent → removed m o ≡ Err BadTree
  pub meets_bad : MeetsBad m parent → removed m o ≡ Err BadObject

-- of each object with a parent
abbrev pub ChainsDecide : Type 0
ChainsDecide = (m : MemoryMap) (o parent : ℕ) → parent ≢ 0 → link_at m (parent_of o) ≡ Ok parent → IsRemoval m o parent
