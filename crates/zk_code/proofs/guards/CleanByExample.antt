use Rattle.zk_code.proofs.guards.ReachedByExample.{clean_and_not}
-- Single instructions that lead out of a story, or may be rewritten, and others.
use Rattle.std.proofs.Common.{◌≡◌, ◌<◌, ◌≤◌, inl, inr, ℕ, true, List, [], ◌∷◌, Option, Some, None, refl, sym, subst}
use Rattle.std.proofs.Common.{arith}
use Rattle.zk_mem.specs.Header.{unit_length}
use Rattle.zk_mem.specs.Map.{MemoryMap, cell_at}
use Rattle.zk_code.specs.declared.branch.Branch.{Branch}
use Rattle.zk_code.specs.declared.branch.BranchTarget.{BranchTarget}
use Rattle.zk_code.specs.declared.branch.BranchTarget.TheVariants.{At, Past}
use Rattle.zk_code.specs.declared.instr.Instr.{Instr}
use Rattle.zk_code.specs.declared.opcode.Opcode.TheVariants.{Call, Control, Printing}
use Rattle.zk_code.specs.declared.opcode.Call.TheVariants.{CallVs}
use Rattle.zk_code.specs.declared.opcode.Control.TheVariants.{Jump, Quit}
use Rattle.zk_code.specs.declared.opcode.Printing.TheVariants.{PrintPaddr}
use Rattle.zk_code.specs.declared.operands.Operand.{Operand}
use Rattle.zk_code.specs.declared.operands.Operand.TheVariants.{Large, Small, Variable}
use Rattle.zk_code.specs.Clean.{IsOutside, LeadsOut, IsLow}
use Rattle.zk_code.specs.guards.CleanExamples.{TargetsOutside, WaysOut, LowCode, hundred_from}
use Rattle.zk_code.specs.Reach.{constant_jump, constant_call}
use Rattle.zk_code.specs.guards.ReachExamples.{before_53, branching_to, hundred}
use Rattle.zk_code.specs.Routines.{count_at}
use Rattle.zk_code.specs.Targets.{offset_target, jump_target}

no : ⊥ → ⊥
no p = p

pub targets_outside : TargetsOutside
targets_outside = (tt, tt, no, no)

-- what there is has another property
other : {A : Type 0} (P : A → Type 0) (o : Option A) (y : A) → (P y → ⊥) → Some y ≡ o
    → ((x : A) × (o ≡ Some x) × P x) → ⊥
other {A} P o y not e h = let same : y ≡ h.0 = cc in not (subst P (sym same) h.2)

-- or there is nothing
nothing : {A : Type 0} (P : A → Type 0) (o : Option A) → None ≡ o → ((x : A) × (o ≡ Some x) × P x) → ⊥
nothing {A} P o e h = absurd (let there = h.1 in cc)

some_none : (x : ℕ) (o : Option ℕ) → o ≡ Some x → o ≡ None → ⊥
some_none x o e n = absurd cc

-- what leads nowhere, or by one of the three ways to a place in the story, stays
abbrev Stays : Instr → Type 0
Stays i = LeadsOut (hundred 3) i → ⊥

abbrev NoBranch : Instr → Type 0
NoBranch i = ((b : Branch) × (i.branch ≡ Some b) × IsOutside b.target) → ⊥

abbrev NoJump : Instr → Type 0
NoJump i = ((t : BranchTarget) × (constant_jump (hundred 3) i ≡ Some t) × IsOutside t) → ⊥

abbrev NoCall : Instr → Type 0
NoCall i = ((r : ℕ) × (constant_call (hundred 3) i ≡ Some r) × (count_at (hundred 3) r ≡ None)) → ⊥

all_stay : (i : Instr) → NoBranch i → NoJump i → NoCall i → Stays i
all_stay i b j c h = elim h [ inl x ↦ b x | inr y ↦ elim y [ inl x ↦ j x | inr x ↦ c x ] ]

no_branch : (i : Instr) → None ≡ i.branch → NoBranch i
no_branch i e = nothing (λ (b : Branch). IsOutside b.target) i.branch e

no_jump : (i : Instr) → None ≡ constant_jump (hundred 3) i → NoJump i
no_jump i e = nothing IsOutside (constant_jump (hundred 3) i) e

no_call : (i : Instr) → None ≡ constant_call (hundred 3) i → NoCall i
no_call i e = nothing (λ (r : ℕ). count_at (hundred 3) r ≡ None) (constant_call (hundred 3) i) e

abbrev branching : Instr
branching = branching_to (At 20)

abbrev jumping : Operand → Instr
jumping operand = before_53 (Control Jump) (operand ∷ [])

abbrev calling : ℕ → Instr
calling packed = before_53 (Call CallVs) (Small packed ∷ [])

branch_stays : Stays branching
unfolding constant_jump constant_call
branch_stays =
    all_stay branching (other (λ (b : Branch). IsOutside b.target) branching.branch
    (record { on = true; target = At 20 }) no refl) (no_jump branching refl) (no_call branching refl)

jump_stays : Stays (jumping (Large 10))
unfolding constant_jump constant_call offset_target jump_target
jump_stays = all_stay (jumping (Large 10)) (no_branch (jumping (Large 10)) refl)
    (other IsOutside (constant_jump (hundred 3) (jumping (Large 10))) (At 61) no refl)
    (no_call (jumping (Large 10)) refl)

variable_stays : Stays (jumping (Variable 49))
unfolding constant_jump constant_call
variable_stays = all_stay (jumping (Variable 49)) (no_branch (jumping (Variable 49)) refl)
    (no_jump (jumping (Variable 49)) refl) (no_call (jumping (Variable 49)) refl)

call_stays : Stays (calling 49)
unfolding constant_jump constant_call count_at unit_length cell_at
call_stays = all_stay (calling 49) (no_branch (calling 49) refl) (no_jump (calling 49) refl)
    (other (λ (r : ℕ). count_at (hundred 3) r ≡ None) (constant_call (hundred 3) (calling 49)) 98
    (some_none 0 (count_at (hundred 3) 98) refl) refl)

none_stays : Stays (calling 0)
unfolding constant_jump constant_call
none_stays = all_stay (calling 0) (no_branch (calling 0) refl) (no_jump (calling 0) refl) (no_call (calling 0) refl)

pub ways_out : WaysOut
unfolding constant_jump constant_call count_at offset_target jump_target unit_length cell_at
ways_out = (
  inl (record { on = true; target = Past 100 }, refl, tt),
  branch_stays,
  inr (inl (Past 100, refl, tt)),
  jump_stays,
  variable_stays,
  inr (inr (100, refl, refl)),
  call_stays,
  none_stays,
)

high : (m : MemoryMap) (a : ℕ) (i : Instr) → m.static_base ≤ a
    → (((r : ℕ) × (constant_call m i ≡ Some r) × (r < m.static_base)) → ⊥) → IsLow m a i → ⊥
high m a i le c h = elim h [ inl lt ↦ absurd (omega (arith, le, lt)) | inr x ↦ c x ]

-- a call by these operands with dynamic memory up to here
abbrev call : List Operand → Instr
call operands = before_53 (Call CallVs) operands

-- calls the routine at r
low_by : (base r : ℕ) (i : Instr) → constant_call (hundred_from base) i ≡ Some r → r < base
    → IsLow (hundred_from base) 50 i
low_by base r i e lt = inr (r, e, lt)

high_by : (base r : ℕ) (i : Instr) → base ≤ 50 → base ≤ r → Some r ≡ constant_call (hundred_from base) i
    → IsLow (hundred_from base) 50 i → ⊥
high_by base r i le above e =
    high (hundred_from base) 50 i le (other (λ q. q < base) (constant_call (hundred_from base) i) r
    (λ lt. absurd (omega (arith, above, lt))) e)

calls_none : (base : ℕ) (i : Instr) → base ≤ 50 → None ≡ constant_call (hundred_from base) i
    → IsLow (hundred_from base) 50 i → ⊥
calls_none base i le e =
    high (hundred_from base) 50 i le (nothing (λ r. r < base) (constant_call (hundred_from base) i) e)

pub low_code : LowCode
unfolding constant_call unit_length
low_code = (
  inl (omega arith),
  calls_none 50 (before_53 (Control Quit) []) (omega arith) refl,
  low_by 39 38 (call (Small 19 ∷ [])) refl (omega arith),
  high_by 38 38 (call (Small 19 ∷ [])) (omega arith) (omega arith) refl,
  high_by 39 60 (call (Small 30 ∷ Small 19 ∷ [])) (omega arith) (omega arith) refl,
  calls_none 39 (call (Small 0 ∷ [])) (omega arith) refl,
  calls_none 39 (before_53 (Printing PrintPaddr) (Small 19 ∷ [])) (omega arith) refl,
)

pub ruleset all = (clean_and_not, targets_outside, ways_out, low_code)
