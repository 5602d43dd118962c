-- What a search for reachable code has found.
use Rattle.std.specs.Prelude.{◌≡◌, ℕ, ◌<◌, ◌≤◌, Bool, true, false, List, ◌++◌, length, get_or, Some}
use Rattle.std.specs.List.{Contains, sum_by}
use Rattle.zk_mem.specs.Map.{MemoryMap}
use Rattle.zk_code.specs.declared.instr.Instr.{Instr}
use Rattle.zk_code.specs.Grammar.{IsInstruction}
use Rattle.zk_code.specs.Reach.{IsReachedFrom, IsCalledFrom, goes_on, branch_address, jump_address, constant_call}
use Rattle.zk_code.specs.Routines.{code_start}
use Rattle.zk_inspect.specs.declared.reach.Search.{Search}
use Rattle.zk_inspect.specs.Lists.{IsMarked}

-- how often a mark counts
abbrev pub one : Bool → ℕ
one true = 1
one false = 0

-- what was found is reached, and was put into the list once
pub record IsSearch (m : MemoryMap) (roots : List ℕ) (s : Search) : Type 0 where
  pub size : length m.bytes < length s.marks
  pub routine_size : length m.bytes < length s.routines
  pub reached : (a : ℕ) → Contains s.found a → IsReachedFrom m roots a
  pub called : (r : ℕ) → IsMarked s.routines r → IsCalledFrom m roots r
  pub found : (a : ℕ) → IsMarked s.marks a → Contains s.found a
  pub count : length s.found ≡ sum_by one s.marks

-- a later state of a search
pub record Grows (s t : Search) : Type 0 where
  pub size : length t.marks ≡ length s.marks
  pub routine_size : length t.routines ≡ length s.routines
  pub marks : (a : ℕ) → IsMarked s.marks a → IsMarked t.marks a
  pub routines : (r : ℕ) → IsMarked s.routines r → IsMarked t.routines r
  pub more : List ℕ
  pub found : t.found ≡ s.found ++ more

-- all ways on from the instruction at an address were found, and the routine that it calls
pub record IsExpanded (m : MemoryMap) (s : Search) (a : ℕ) : Type 0 where
  pub behind : (b : ℕ) (i : Instr) → IsInstruction m a i b → goes_on i.opcode ≡ true → IsMarked s.marks b
  pub branches : (b c : ℕ) (i : Instr) → IsInstruction m a i b → branch_address i ≡ Some c → IsMarked s.marks c
  pub jumps : (b c : ℕ) (i : Instr) → IsInstruction m a i b → jump_address m i ≡ Some c → IsMarked s.marks c
  pub calls : (b r c : ℕ) (i : Instr) → IsInstruction m a i b → constant_call m i ≡ Some r
      → code_start m r ≡ Some c → IsMarked s.routines r × IsMarked s.marks c

-- the roots were found, and the first so many that were found are expanded
pub record IsOnItsWay (m : MemoryMap) (from : List ℕ) (s : Search) (done : ℕ) : Type 0 where
  pub search : IsSearch m from s
  pub roots : (a : ℕ) → Contains from a → IsMarked s.marks a
  pub expanded : (k : ℕ) → k < done → IsExpanded m s (get_or s.found k 0)
  pub within : done ≤ length s.found
