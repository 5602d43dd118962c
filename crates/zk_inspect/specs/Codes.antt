-- The code of a story, as two lists.
use Rattle.std.specs.Prelude.{◌≡◌, ℕ, ◌≤◌, List, length, max, Some}
use Rattle.std.specs.List.{Contains}
use Rattle.zk_mem.specs.Map.{MemoryMap}
use Rattle.zk_code.specs.Reach.{IsReached, IsReachedFrom, IsCalled, IsCalledFrom}
use Rattle.zk_code.specs.Routines.{code_start}
use Rattle.zk_inspect.specs.declared.reach.code.Code.{Code}
use Rattle.zk_inspect.specs.Lists.{IsListOf}

-- a routine stands at one of some addresses
abbrev pub IsRoutineAt : MemoryMap → List ℕ → ℕ → Type 0
IsRoutineAt m named r = (start : ℕ) × Contains named r × (code_start m r ≡ Some start)

-- a routine is named, or is called by a constant in what is reached from some
pub data IsRoutineFrom (m : MemoryMap) (roots named : List ℕ) (r : ℕ) : Type 0 where
  Named : IsRoutineAt m named r → IsRoutineFrom m roots named r
  Called : IsCalledFrom m roots r → IsRoutineFrom m roots named r

-- the addresses that are reached from some, and the routines that are named or called there
pub record IsCodeFrom (m : MemoryMap) (roots named : List ℕ) (code : Code) : Type 0 where
  pub addresses : IsListOf (IsReachedFrom m roots) code.addresses
  pub routines : IsListOf (IsRoutineFrom m roots named) code.routines

-- the reachable code: what is reached from the first instruction, and the routines that are called there by a constant
pub record IsCodeOf (m : MemoryMap) (code : Code) : Type 0 where
  pub addresses : IsListOf (IsReached m) code.addresses
  pub routines : IsListOf (IsCalled m) code.routines

-- addresses lie in the story, or where a word of the header can name them
abbrev pub AreNear : MemoryMap → List ℕ → Type 0
AreNear m roots = (a : ℕ) → Contains roots a → a ≤ max (length m.bytes) 65535

-- a memory has one
abbrev pub OneCode : Type 0
OneCode = (m : MemoryMap) (c d : Code) → IsCodeOf m c → IsCodeOf m d → c ≡ d
