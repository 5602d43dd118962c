-- Where code ends, and which routine stands after it (Standard, sections 1.2.3, 4.7, 5.2 and 5.3). That a routine
-- stands after other code says nothing about runs.
use Rattle.std.specs.Prelude.{◌≡◌, ◌≤◌, ◌<◌, ◌+◌, ◌-◌, ◌*◌, ◌/◌, ◌⊎◌, ℕ, false, List, [], ◌∷◌, Some}
use Rattle.zk_mem.specs.Header.{unit_length}
use Rattle.zk_mem.specs.Map.{MemoryMap}
use Rattle.zk_code.specs.declared.instr.Instr.{Instr}
use Rattle.zk_code.specs.Grammar.{IsInstruction}
use Rattle.zk_code.specs.Reach.{goes_on, branch_address, jump_address}
use Rattle.zk_code.specs.Routines.{code_start}

-- ---- where code ends

-- instructions one after another, from an address up to another
pub data IsStraight (m : MemoryMap) : ℕ → List Instr → ℕ → Type 0 where
  Nothing : (a : ℕ) → IsStraight m a [] a
  Then : (a b c : ℕ) (i : Instr) (is : List Instr) → IsInstruction m a i b → IsStraight m b is c
      → IsStraight m a (i ∷ is) c

-- the branch of an instruction, or its jump by a constant, leads to an address in the story (section 4.7)
abbrev pub LeadsTo : MemoryMap → Instr → ℕ → Type 0
LeadsTo m i t = (branch_address i ≡ Some t) ⊎ (jump_address m i ≡ Some t)

-- an instruction leads to no address at or past another
abbrev pub LeadsBelow : MemoryMap → ℕ → Instr → Type 0
LeadsBelow m e i = (t : ℕ) → LeadsTo m i t → t < e

-- none of some does
abbrev pub LeadBelow : MemoryMap → ℕ → List Instr → Type 0
LeadBelow m e [] = Unit {0}
LeadBelow m e (i ∷ is) = LeadsBelow m e i × LeadBelow m e is

-- code from an address up to another may end there: its last instruction does not go on, and none of its own leads
-- there or past it
pub record MayEnd (m : MemoryMap) (a e : ℕ) : Type 0 where
  pub code : List Instr
  pub at : ℕ
  pub last : Instr
  pub straight : IsStraight m a code at
  pub stands : IsInstruction m at last e
  pub stops : goes_on last.opcode ≡ false
  pub below : LeadBelow m e code
  pub last_below : LeadsBelow m e last

-- the extent of code at an address: up to the least end that it may have
pub record IsExtent (m : MemoryMap) (a e : ℕ) : Type 0 where
  pub ends : MayEnd m a e
  pub least : (b : ℕ) → MayEnd m a b → e ≤ b

-- ---- neighbours

-- the least byte address at or after another that a packed address stands for (section 1.2.3)
unfoldable pub next_packed : MemoryMap → ℕ → ℕ
next_packed m a = (a + unit_length m.version - 1) / unit_length m.version * unit_length m.version

-- a routine stands at an address: a count of local variables, and code that has an extent (sections 5.2 and 5.3)
pub record IsRoutine (m : MemoryMap) (r : ℕ) : Type 0 where
  pub start : ℕ
  pub end : ℕ
  pub begins : code_start m r ≡ Some start
  pub extent : IsExtent m start end

-- a routine stands at the least packed address at or after the extent of code at an address
pub record FollowsCode (m : MemoryMap) (a n : ℕ) : Type 0 where
  pub end : ℕ
  pub extent : IsExtent m a end
  pub next : n ≡ next_packed m end
  pub routine : IsRoutine m n

-- the neighbour of code is the routine that follows it; or, where none does, the one that follows what stands there: a
-- compiler may leave code that nothing leads to
pub data IsNeighbour (m : MemoryMap) (a n : ℕ) : Type 0 where
  Next : FollowsCode m a n → IsNeighbour m a n
  Past : (e : ℕ) → IsExtent m a e → ((k : ℕ) → FollowsCode m a k → ⊥) → FollowsCode m e n → IsNeighbour m a n
