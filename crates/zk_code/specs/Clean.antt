-- Code that no run leaves and none rewrites, as far as what stands in the instructions tells it (Standard, sections
-- 1.1.1,
-- 4.7, 5.2, 6.4 and 15).
use Rattle.std.specs.Prelude.{◌≡◌, ◌<◌, ◌⊎◌, ℕ, Bool, ◌&&◌, ◌||◌, Some, None, is_none}
use Rattle.zk_mem.specs.Map.{MemoryMap}
use Rattle.zk_code.specs.declared.branch.Branch.{Branch}
use Rattle.zk_code.specs.declared.branch.BranchTarget.{BranchTarget}
use Rattle.zk_code.specs.declared.branch.BranchTarget.TheVariants.{Below, Past}
use Rattle.zk_code.specs.declared.instr.Instr.{Instr}
use Rattle.zk_code.specs.Grammar.{IsInstruction}
use Rattle.zk_code.specs.Reach.{IsClosed, constant_call, constant_jump, first_alone, first_constant, is_call, is_jump}
use Rattle.zk_code.specs.Routines.{count_at}

-- a target lies outside the story (section 4.7)
abbrev pub IsOutside : BranchTarget → Type 0
IsOutside (Below d) = Unit {0}
IsOutside (Past a) = Unit {0}
IsOutside _ = ⊥

-- an instruction leads out of the story: its branch, a jump by a constant, or a call by a constant of no routine
abbrev pub LeadsOut : MemoryMap → Instr → Type 0
LeadsOut m i =
    ((b : Branch) × (i.branch ≡ Some b) × IsOutside b.target)
    ⊎ (((t : BranchTarget) × (constant_jump m i ≡ Some t) × IsOutside t)
    ⊎ ((r : ℕ) × (constant_call m i ≡ Some r) × (count_at m r ≡ None)))

-- what the instruction at an address does may be rewritten: its first byte lies in dynamic memory, or the count of
-- local variables of a routine that it calls by a constant does (sections 1.1.1 and 5.2)
abbrev pub IsLow : MemoryMap → ℕ → Instr → Type 0
IsLow m a i = (a < m.static_base) ⊎ ((r : ℕ) × (constant_call m i ≡ Some r) × (r < m.static_base))

-- an instruction calls or jumps by a variable, so that nothing in it tells where it leads (sections 4.2.2 and 6.4)
unfoldable pub leads_by_variable : Instr → Bool
leads_by_variable i = (is_call i.opcode || is_jump i.opcode) && is_none (first_constant i.operands)

-- addresses that have the first instruction and each way on; at each of them stands an instruction, which does not lead
-- out of the story, and which no run rewrites
pub record IsClean (m : MemoryMap) (P : ℕ → Type 0) : Type 0 where
  pub closed : IsClosed m (first_alone m) P
  pub decodes : (a : ℕ) → P a → (i : Instr) × IsInstruction m a i i.next
  pub inside : (a b : ℕ) (i : Instr) → P a → IsInstruction m a i b → LeadsOut m i → ⊥
  pub above : (a b : ℕ) (i : Instr) → P a → IsInstruction m a i b → IsLow m a i → ⊥
