-- The chain of an object's children (Standard, sections 12.3 and 12.5).
use Rattle.std.specs.Prelude.{◌≡◌, ◌≢◌, true, false, ℕ, zero, suc, List, [], ◌∷◌, length, ◌≤◌, nat_eq, ◌==◌, ◌⊎◌, ◌↔◌}
use Rattle.std.specs.Prelude.{if◌then◌else◌, Result, Ok, Err}
use Rattle.std.specs.List.{IsDistinct, list_any}
use Rattle.zk_mem.specs.declared.fault.Fault.{Fault}
use Rattle.zk_mem.specs.declared.fault.Fault.TheVariants.{BadObject, BadTree}
use Rattle.zk_mem.specs.Results.{◌>>=◌}
use Rattle.zk_mem.specs.Map.{MemoryMap}
use Rattle.zk_tables.specs.Layout.{is_entry, entry_of, entries}
use Rattle.zk_tables.specs.Links.{link_at, sibling_of, child_of}

-- from x along the siblings of xs, in order, to y; x is the first of xs
unfoldable pub IsPath : MemoryMap → ℕ → List ℕ → ℕ → Type 0
IsPath m x [] y = x ≡ y
IsPath m x (o ∷ os) y = (x ≡ o) × (o ≢ 0) × ((next : ℕ) × (link_at m (sibling_of o) ≡ Ok next) × IsPath m next os y)

-- the same, from the child of an object (section 12.3)
pub record IsPathFrom (m : MemoryMap) (o : ℕ) (xs : List ℕ) (y : ℕ) : Type 0 where
  pub first : ℕ
  pub child : link_at m (child_of o) ≡ Ok first
  pub path : IsPath m first xs y

-- xs are the children of an object: first its child, each next the sibling of the one before, the
-- last without a sibling, and none comes twice
pub record IsChain (m : MemoryMap) (o : ℕ) (xs : List ℕ) : Type 0 where
  pub whole : IsPathFrom m o xs 0
  pub apart : IsDistinct nat_eq xs

-- the path comes back to an object on it, so the tree is not well-founded (section 12.5)
pub record Repeats (m : MemoryMap) (o : ℕ) : Type 0 where
  pub xs : List ℕ
  pub again : ℕ
  pub path : IsPathFrom m o xs again
  pub among : list_any (nat_eq again) xs ≡ true

-- an object without an entry (section 12.3)
abbrev pub IsBad : MemoryMap → ℕ → Type 0
IsBad m o = (o ≢ 0) × (is_entry m o ≡ false)

-- the object itself is bad, or the path comes to one that is
abbrev pub MeetsBad : MemoryMap → ℕ → Type 0
MeetsBad m o = IsBad m o ⊎ ((xs : List ℕ) × (bad : ℕ) × IsPathFrom m o xs bad × IsBad m bad)

-- ---- the chain, walked from its front on

-- the objects from x on, where so many may follow one another
unfoldable pub chain_from : MemoryMap → ℕ → ℕ → Result (List ℕ) Fault
chain_from m zero x = if x == 0 then Ok [] else (entry_of m x >>= λ _. Err BadTree)
chain_from m (suc n) x =
    if x == 0 then Ok [] else (link_at m (sibling_of x) >>= λ next. chain_from m n next >>= λ xs. Ok (x ∷ xs))

-- the children of an object; no more can follow one another than have entries
unfoldable pub children_of : MemoryMap → ℕ → Result (List ℕ) Fault
children_of m o = link_at m (child_of o) >>= chain_from m (entries m)

-- how many objects a chain has
abbrev pub how_many : Result (List ℕ) Fault → Result ℕ Fault
how_many chain = chain >>= λ xs. Ok (length xs)

-- ---- a law

-- the children are the chain, and each fault has its reason; one of the three is there, and no two are
pub record IsChildren (m : MemoryMap) (o : ℕ) : Type 0 where
  pub chain : (xs : List ℕ) → (children_of m o ≡ Ok xs) ↔ IsChain m o xs
  pub repeats : (children_of m o ≡ Err BadTree) ↔ Repeats m o
  pub meets_bad : (children_of m o ≡ Err BadObject) ↔ MeetsBad m o
  pub bounded : (xs : List ℕ) → IsChain m o xs → length xs ≤ entries m
  pub one : ((xs : List ℕ) × IsChain m o xs) ⊎ (Repeats m o ⊎ MeetsBad m o)
  pub no_repeat : (xs : List ℕ) → IsChain m o xs → Repeats m o → ⊥
  pub no_bad : (xs : List ℕ) → IsChain m o xs → MeetsBad m o → ⊥
  pub not_both : Repeats m o → MeetsBad m o → ⊥

-- of each object
abbrev pub ChildrenAreChains : Type 0
ChildrenAreChains = (m : MemoryMap) (o : ℕ) → IsChildren m o
