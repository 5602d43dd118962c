-- Worked examples of clean code, and of code that is not, by the Standard's sections 1.1.1, 4.7, 5.2 and 6.4, worked
-- out by hand.
use Rattle.std.specs.Prelude.{◌≡◌, ℕ, Bool, true, false, ◌||◌, ◌==◌, [], ◌∷◌}
use Rattle.zk_mem.specs.Map.{MemoryMap}
use Rattle.zk_code.specs.declared.branch.BranchTarget.TheVariants.{ReturnTrue, At, Below, Past}
use Rattle.zk_code.specs.declared.opcode.Opcode.TheVariants.{Call, Control, Printing, Routine}
use Rattle.zk_code.specs.declared.opcode.Call.TheVariants.{CallVs, CallVn2}
use Rattle.zk_code.specs.declared.opcode.Control.TheVariants.{Jump, Quit}
use Rattle.zk_code.specs.declared.opcode.Printing.TheVariants.{PrintPaddr}
use Rattle.zk_code.specs.declared.opcode.Routine.TheVariants.{Ret}
use Rattle.zk_code.specs.declared.operands.Operand.TheVariants.{Large, Small, Variable}
use Rattle.zk_code.specs.Clean.{IsOutside, LeadsOut, IsLow, IsClean, leads_by_variable}
use Rattle.zk_code.specs.guards.ReachExamples.{before_53, branching_to, calling_story, hundred}

-- a target before the story or past its end lies outside, and no other does (section 4.7)
abbrev pub TargetsOutside : Type 0
TargetsOutside = IsOutside (Below 8) × IsOutside (Past 100) × (IsOutside (At 20) → ⊥) × (IsOutside ReturnTrue → ⊥)

-- a branch, a jump by a constant and a call of no routine lead out of a story of 100 bytes; a routine's count of local
-- variables is 0 in each of its bytes. What a variable says does not count, nor does a call of 0 (sections 4.7, 5.2 and
-- 6.4)
abbrev pub WaysOut : Type 0
WaysOut =
    LeadsOut (hundred 3) (branching_to (Past 100))
    × (LeadsOut (hundred 3) (branching_to (At 20)) → ⊥)
    × LeadsOut (hundred 3) (before_53 (Control Jump) (Large 49 ∷ []))
    × (LeadsOut (hundred 3) (before_53 (Control Jump) (Large 10 ∷ [])) → ⊥)
    × (LeadsOut (hundred 3) (before_53 (Control Jump) (Variable 49 ∷ [])) → ⊥)
    × LeadsOut (hundred 3) (before_53 (Call CallVs) (Small 50 ∷ []))
    × (LeadsOut (hundred 3) (before_53 (Call CallVs) (Small 49 ∷ [])) → ⊥)
    × (LeadsOut (hundred 3) (before_53 (Call CallVs) (Small 0 ∷ [])) → ⊥)

-- the same story with dynamic memory up to here
abbrev pub hundred_from : ℕ → MemoryMap
hundred_from base = record (hundred 3) { static_base = base }

-- an instruction at 50 is low where its first byte is one of dynamic memory, and so is one that calls the routine at 38
-- where that byte is; another operand than the first names no routine, and a call of 0 calls none (sections 1.1.1 and
-- 6.4)
abbrev pub LowCode : Type 0
LowCode =
    IsLow (hundred_from 51) 50 (before_53 (Control Quit) [])
    × (IsLow (hundred_from 50) 50 (before_53 (Control Quit) []) → ⊥)
    × IsLow (hundred_from 39) 50 (before_53 (Call CallVs) (Small 19 ∷ []))
    × (IsLow (hundred_from 38) 50 (before_53 (Call CallVs) (Small 19 ∷ [])) → ⊥)
    × (IsLow (hundred_from 39) 50 (before_53 (Call CallVs) (Small 30 ∷ Small 19 ∷ [])) → ⊥)
    × (IsLow (hundred_from 39) 50 (before_53 (Call CallVs) (Small 0 ∷ [])) → ⊥)
    × (IsLow (hundred_from 39) 50 (before_53 (Printing PrintPaddr) (Small 19 ∷ [])) → ⊥)

-- a call and a jump by a variable, and no other; an argument may be one (sections 4.2.2, 6.4 and 15)
abbrev pub WaysByVariable : Type 0
WaysByVariable =
    (leads_by_variable (before_53 (Call CallVs) (Variable 5 ∷ Small 7 ∷ [])) ≡ true)
    × (leads_by_variable (before_53 (Call CallVn2) (Small 7 ∷ Variable 5 ∷ [])) ≡ false)
    × (leads_by_variable (before_53 (Control Jump) (Variable 0 ∷ [])) ≡ true)
    × (leads_by_variable (before_53 (Control Jump) (Large 10 ∷ [])) ≡ false)
    × (leads_by_variable (before_53 (Control Quit) []) ≡ false)
    × (leads_by_variable (before_53 (Routine Ret) (Variable 5 ∷ [])) ≡ false)
    × (leads_by_variable (before_53 (Printing PrintPaddr) (Variable 5 ∷ [])) ≡ false)

-- ---- sets of addresses

-- the addresses that are reached in the story of 26 bytes
abbrev pub is_called_code : ℕ → Bool
is_called_code a = (a == 8) || ((a == 11) || ((a == 15) || ((a == 19) || ((a == 20) || (a == 25)))))

-- the same story with dynamic memory up to here
abbrev pub calling_from : ℕ → MemoryMap
calling_from base = record calling_story { static_base = base }

-- they are clean where dynamic memory ends before the first of them; a byte more, and they are not; nor are they with
-- an address more where no instruction stands, or without one that is a way on (sections 1.1.1, 4.7 and 5)
abbrev pub CleanAndNot : Type 0
CleanAndNot =
    IsClean (calling_from 8) (λ a. is_called_code a ≡ true)
    × (IsClean (calling_from 9) (λ a. is_called_code a ≡ true) → ⊥)
    × (IsClean (calling_from 8) (λ a. (is_called_code a || (a == 26)) ≡ true) → ⊥)
    × (IsClean (calling_from 8) (λ a. ((a == 8) || ((a == 11) || ((a == 15) || ((a == 20) || (a == 25))))) ≡ true) → ⊥)
