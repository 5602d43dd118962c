-- What becomes of the tree when an object is taken out of it or put in (Standard, sections 12.3 and 15,
-- remove_obj and insert_obj).
use Rattle.std.specs.Prelude.{◌≡◌, ◌≢◌, ℕ, ◌+◌, ◌<◌, ◌≤◌, List, [], ◌∷◌, length, nat_eq, not, ◌⊎◌, true, false, Ok, Err}
use Rattle.std.specs.Prelude.{IsOk}
use Rattle.std.specs.List.{Contains, filter}
use Rattle.zk_mem.specs.declared.fault.Fault.{Fault}
use Rattle.zk_mem.specs.declared.fault.Fault.TheVariants.{BadObject, BadTree, ReadOnly}
use Rattle.zk_mem.specs.Map.{MemoryMap, HasBytes, cell_at}
use Rattle.zk_tables.specs.declared.links.LinkPlace.{LinkPlace}
use Rattle.zk_tables.specs.Layout.{layout_of, is_entry}
use Rattle.zk_tables.specs.Links.{parent_of, sibling_of, child_of, address_of, link_at}
use Rattle.zk_tables.specs.Chain.{IsChain}
use Rattle.zk_tables.specs.Tree.{removed, inserted}

-- a byte of a link
pub record IsByteOf (m : MemoryMap) (place : LinkPlace) (a : ℕ) : Type 0 where
  -- the link begins here
  pub start : ℕ
  pub address : address_of m place ≡ Ok start
  -- and takes so many bytes as the version's links have
  pub low : start ≤ a
  pub high : a < start + (layout_of m.version).link_bytes

-- of a memory, nothing but some links changes
pub record ChangesOnly (m n : MemoryMap) (places : List LinkPlace) : Type 0 where
  -- every other link names what it named
  pub links : (q : LinkPlace) → (Contains places q → ⊥) → link_at n q ≡ link_at m q
  -- every byte outside these links is as it was
  pub others : (a : ℕ) → ((place : LinkPlace) → Contains places place → IsByteOf m place a → ⊥)
      → cell_at n a ≡ cell_at m a
  -- and so is all else that memory has
  pub version : n.version ≡ m.version
  pub static_base : n.static_base ≡ m.static_base
  pub file : n.file ≡ m.file
  pub setup : n.setup ≡ m.setup
  pub size : length n.bytes ≡ length m.bytes

-- objects, without one of them
abbrev pub without : ℕ → List ℕ → List ℕ
without object xs = filter (λ x. not (nat_eq x object)) xs

-- the link that names an object among the children of its parent
pub record IsNaming (m : MemoryMap) (object parent : ℕ) (place : LinkPlace) : Type 0 where
  -- it names the object
  pub names : link_at m place ≡ Ok object
  -- the children of the parent
  pub children : List ℕ
  pub chain : IsChain m parent children
  -- it is the child of the parent, or the sibling of one of the children
  pub among : (place ≡ child_of parent) ⊎ ((x : ℕ) × Contains children x × (place ≡ sibling_of x))

-- an object is taken out from among the children of its parent
pub record IsTakenOut (m n : MemoryMap) (object parent : ℕ) : Type 0 where
  -- it has no parent then
  pub no_parent : link_at n (parent_of object) ≡ Ok 0
  -- nor a sibling
  pub no_sibling : link_at n (sibling_of object) ≡ Ok 0
  -- the link that named it
  pub place : LinkPlace
  pub naming : IsNaming m object parent place
  -- names the sibling that it had
  pub closed : link_at n place ≡ link_at m (sibling_of object)
  -- nothing else changes
  pub only : ChangesOnly m n (place ∷ parent_of object ∷ sibling_of object ∷ [])
  -- the parent's children are those it had, without the object
  pub children : (xs : List ℕ) → IsChain m parent xs → IsChain n parent (without object xs)
  -- children among which the object was not are the same
  pub elsewhere : (other : ℕ) (xs : List ℕ) → IsChain m other xs → (Contains xs object → ⊥) → IsChain n other xs

-- a removal takes an object out; one without a parent stays as it is
pub record IsRemoved (m n : MemoryMap) (object parent : ℕ) : Type 0 where
  -- without a parent, nothing changes
  pub lone : parent ≡ 0 → n ≡ m
  pub taken : parent ≢ 0 → IsTakenOut m n object parent

-- each removal
abbrev pub RemovalsTakeOut : Type 0
RemovalsTakeOut = (m n : MemoryMap) (object parent : ℕ) → link_at m (parent_of object) ≡ Ok parent
    → removed m object ≡ Ok n → IsRemoved m n object parent

-- an object that had a parent is put into a destination
pub record IsMoved (m n : MemoryMap) (object destination parent : ℕ) : Type 0 where
  -- the link that named it among its parent's children
  pub place : LinkPlace
  pub naming : IsNaming m object parent place
  -- names the sibling that it had, unless it is the one that names the object anew
  pub closed : place ≢ child_of destination → link_at n place ≡ link_at m (sibling_of object)
  -- nothing changes but this link and the three that are written for the destination
  pub only : ChangesOnly m n (place ∷ parent_of object ∷ sibling_of object ∷ child_of destination ∷ [])
  -- another parent's children are those it had, without the object
  pub children : (xs : List ℕ) → parent ≢ destination → IsChain m parent xs → IsChain n parent (without object xs)

-- an object is put into a destination, as its first child
pub record IsPutIn (m n : MemoryMap) (object destination : ℕ) : Type 0 where
  -- its parent is the destination
  pub parent : link_at n (parent_of object) ≡ Ok destination
  -- whose child it is
  pub child : link_at n (child_of destination) ≡ Ok object
  -- the memory between, once it was taken out
  pub between : MemoryMap
  pub taken_out : removed m object ≡ Ok between
  -- its sibling is what the destination's child was then
  pub sibling : link_at n (sibling_of object) ≡ link_at between (child_of destination)
  -- where it had no parent, nothing else changes
  pub lone : link_at m (parent_of object) ≡ Ok 0
      → ChangesOnly m n (parent_of object ∷ sibling_of object ∷ child_of destination ∷ [])
  -- where it had one, it leaves that one's children
  pub moved : (parent : ℕ) → parent ≢ 0 → link_at m (parent_of object) ≡ Ok parent
      → IsMoved m n object destination parent
  -- the destination's children are the object, and those it had without it; had it the object, it was the object's
  -- parent
  pub children : (xs : List ℕ) → IsChain m destination xs
      → (Contains xs object → link_at m (parent_of object) ≡ Ok destination)
      → IsChain n destination (object ∷ without object xs)
  -- another object's children among which the object was not are the same
  pub elsewhere : (other : ℕ) (xs : List ℕ) → other ≢ destination → IsChain m other xs → (Contains xs object → ⊥)
      → IsChain n other xs

-- an insertion puts an object into a destination; where one of the two is 0, nothing changes
pub record IsInserted (m n : MemoryMap) (object destination : ℕ) : Type 0 where
  pub none : (object ≡ 0) ⊎ (destination ≡ 0) → n ≡ m
  pub put_in : object ≢ 0 → destination ≢ 0 → IsPutIn m n object destination

-- each insertion, where memory holds bytes
abbrev pub InsertionsPutFirst : Type 0
InsertionsPutFirst = (m n : MemoryMap) (object destination : ℕ) → HasBytes m
    → inserted m object destination ≡ Ok n → IsInserted m n object destination

-- ---- when they are made

-- a link that may be written
pub record IsWritable (m : MemoryMap) (place : LinkPlace) : Type 0 where
  -- the link begins here
  pub start : ℕ
  pub address : address_of m place ≡ Ok start
  -- and ends in dynamic memory (section 1.1.1)
  pub dynamic : start + (layout_of m.version).link_bytes ≤ m.static_base

-- the links that a removal writes may be written
pub record AllowsRemoval (m : MemoryMap) (object parent : ℕ) : Type 0 where
  pub naming : (place : LinkPlace) → IsNaming m object parent place → IsWritable m place
  pub its_parent : IsWritable m (parent_of object)
  pub its_sibling : IsWritable m (sibling_of object)

-- whether an object is removed
pub record IsRemovable (m : MemoryMap) (object parent : ℕ) : Type 0 where
  -- without a parent, it is, and nothing changes
  pub lone : parent ≡ 0 → removed m object ≡ Ok m
  -- where it is among its parent's children, it is
  pub among : (xs : List ℕ) → parent ≢ 0 → IsChain m parent xs → Contains xs object
      → AllowsRemoval m object parent → IsOk (removed m object)
  -- else it is refused as read-only
  pub fixed : (xs : List ℕ) (e : Fault) → parent ≢ 0 → IsChain m parent xs → Contains xs object
      → removed m object ≡ Err e → e ≡ ReadOnly
  -- where it is not among them, it is refused
  pub strange : (xs : List ℕ) → parent ≢ 0 → IsChain m parent xs → (Contains xs object → ⊥)
      → removed m object ≡ Err BadTree

-- each object with the parent that it has
abbrev pub RemovalsAreMade : Type 0
RemovalsAreMade =
    (m : MemoryMap) (object parent : ℕ) → link_at m (parent_of object) ≡ Ok parent → IsRemovable m object parent

-- the links that an insertion writes may be written
pub record AllowsInsertion (m : MemoryMap) (object destination : ℕ) : Type 0 where
  pub its_parent : IsWritable m (parent_of object)
  pub its_sibling : IsWritable m (sibling_of object)
  pub first : IsWritable m (child_of destination)

-- whether an object is inserted
pub record IsInsertable (m : MemoryMap) (object destination : ℕ) : Type 0 where
  -- where one of the two is 0, nothing changes
  pub none : (object ≡ 0) ⊎ (destination ≡ 0) → inserted m object destination ≡ Ok m
  -- where one has no entry, it is refused
  pub bad : object ≢ 0 → destination ≢ 0 → (is_entry m object ≡ false) ⊎ (is_entry m destination ≡ false)
      → inserted m object destination ≡ Err BadObject
  -- what is not removed is not inserted, for the same reason
  pub stays : (e : Fault) → is_entry m object ≡ true → is_entry m destination ≡ true → removed m object ≡ Err e
      → inserted m object destination ≡ Err e
  -- what is removed is refused as read-only alone
  pub fixed : (e : Fault) → is_entry m object ≡ true → is_entry m destination ≡ true → IsOk (removed m object)
      → inserted m object destination ≡ Err e → e ≡ ReadOnly
  -- and else inserted
  pub comes : is_entry m object ≡ true → is_entry m destination ≡ true → IsOk (removed m object)
      → AllowsInsertion m object destination → IsOk (inserted m object destination)

-- each two objects
abbrev pub InsertionsAreMade : Type 0
InsertionsAreMade = (m : MemoryMap) (object destination : ℕ) → IsInsertable m object destination
