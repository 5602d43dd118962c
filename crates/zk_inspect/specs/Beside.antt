-- The code that lies in a story: what is reached, and the routines that stand one after another beside it (Standard,
-- sections
-- 1.2.3, 5 and 5.5). That one lies there says nothing about runs.
use Rattle.std.specs.Prelude.{◌≡◌, ◌⊎◌, ◌↔◌, ℕ, List, [], ◌∷◌, ◌++◌, length, Some, option_to_list, nat_lt}
use Rattle.std.specs.Prelude.{if◌then◌else◌}
use Rattle.std.specs.List.{flat_map}
use Rattle.zk_mem.specs.Header.{header_of}
use Rattle.zk_mem.specs.Map.{MemoryMap}
use Rattle.zk_code.specs.Extent.{IsNeighbour}
use Rattle.zk_code.specs.Reach.{first_alone}
use Rattle.zk_code.specs.Routines.{code_start}
use Rattle.zk_inspect.specs.declared.reach.code.Code.{Code}
use Rattle.zk_inspect.specs.declared.whole.Whole.{Whole}
use Rattle.zk_inspect.specs.Codes.{IsCodeFrom, IsCodeOf, IsRoutineAt}
use Rattle.zk_inspect.specs.Lists.{IsAmong, IsListOf, IsMarked}

-- those of some addresses that lie in the story
unfoldable pub inside : MemoryMap → List ℕ → List ℕ
inside m = flat_map (λ a. if nat_lt a (length m.bytes) then a ∷ [] else [])

-- the first instructions of some routines (section 5.3)
unfoldable pub starts : MemoryMap → List ℕ → List ℕ
starts m = flat_map (λ r. option_to_list (code_start m r))

-- where a search begins: at the first instruction (section 5.5), at addresses, and at routines
abbrev pub roots_of : MemoryMap → List ℕ → List ℕ → List ℕ
roots_of m addresses routines = first_alone m ++ inside m addresses ++ starts m routines

-- the code of a story, where addresses of code and routines are named
abbrev pub IsNamedCode : MemoryMap → List ℕ → List ℕ → Code → Type 0
IsNamedCode m addresses routines = IsCodeFrom m (roots_of m addresses routines) routines

-- where nothing is named, the code is what is reached from the first instruction
abbrev pub NothingNamedAddsNothing : Type 0
NothingNamedAddsNothing = (m : MemoryMap) (code : Code) → IsNamedCode m [] [] code → IsCodeOf m code

-- a routine is the neighbour of another one
abbrev pub IsNextRoutine : MemoryMap → ℕ → ℕ → Type 0
IsNextRoutine m r n = (start : ℕ) × (code_start m r ≡ Some start) × IsNeighbour m start n

-- a routine lies beside some: it is one of them, the neighbour of the first code, or the neighbour of one that does
abbrev pub LiesBeside : MemoryMap → List ℕ → ℕ → Type 0
LiesBeside m routines =
    IsAmong (λ r. IsRoutineAt m routines r ⊎ IsNeighbour m (header_of m.file).first_instruction r) (IsNextRoutine m)

-- the code that lies in a story where some is named: what is reached from that and from the routines that lie beside,
-- with marks on those of the routines that are reached without these
pub record IsWhole (m : MemoryMap) (addresses routines : List ℕ) (w : Whole) : Type 0 where
  pub near : Code
  pub near_is : IsNamedCode m addresses routines near
  pub reached : (r : ℕ) → IsMarked w.reached r ↔ IsRoutineAt m near.routines r
  pub beside : List ℕ
  pub beside_is : IsListOf (LiesBeside m near.routines) beside
  pub code : IsNamedCode m addresses beside w.code
