-- Ways on lead inside the story, or to its end.
use Rattle.std.proofs.Common.{◌≡◌, ℕ, ◌+◌, ◌<◌, ◌≤◌, ◌||◌, Bool, true, false, List, length, Option, Some, None, refl}
use Rattle.std.proofs.Common.{arith, nat_lt, if◌then◌else◌}
use Rattle.std.specs.Prelude.{option_map}
use Rattle.zk_inspect.proofs.Marking.{some_same}
use Rattle.std.proofs.lemmas.Grind.{common_steps}
use Rattle.zk_mem.specs.Map.{MemoryMap, cell_at}
use Rattle.zk_code.specs.declared.instr.Instr.{Instr}
use Rattle.zk_code.specs.Grammar.{BranchData, IsInstruction, branch_of}
use Rattle.zk_code.specs.Grammar.BranchData.{NoBranch, OneByte, TwoBytes}
use Rattle.zk_code.specs.Reach.{IsReachedFrom, IsCalledFrom, goes_on, address_in, branch_address, constant_jump}
use Rattle.zk_code.specs.Reach.{jump_address, constant_call, first_constant, is_jump}
use Rattle.zk_code.specs.Reach.IsReachedFrom.{Behind, Branches, Jumps, Calls}
use Rattle.zk_code.specs.Routines.{count_at, code_start, values_length}
use Rattle.zk_code.specs.Targets.{landing, offset_target, branch_target, jump_target}
use Rattle.zk_code.proofs.Longer.{ends_inside}

-- a landing inside is inside
pub landing_inside : (n up down c : ℕ) → address_in (landing n up down) ≡ Some c → c < n
landing_inside n up down c h = grind (arith, common_steps)

pub offset_inside : (n values from offset c : ℕ) → address_in (offset_target n values from offset) ≡ Some c → c < n
unfolding offset_target
offset_inside n values from offset c h = grind (arith, common_steps, landing_inside)

pub target_inside : (n after offset c : ℕ) → address_in (branch_target n after offset) ≡ Some c → c < n
unfolding branch_target
target_inside n after offset c h = grind (arith, common_steps, offset_inside)

-- what stands after an instruction
pub behind_inside : (m : MemoryMap) (a : ℕ) (i : Instr) (b : ℕ) → IsInstruction m a i b → b ≤ length m.bytes
behind_inside m a i b s = (ends_inside m a i b s).1

-- its branch, by its data
branch_by : (m : MemoryMap) (i : Instr) (middle c : ℕ) (kind : BranchData)
    → i.branch ≡ branch_of (length m.bytes) middle kind → branch_address i ≡ Some c → c < length m.bytes
unfolding branch_address
branch_by m i middle c NoBranch e h = let k = rw e at h in absurd cc
branch_by m i middle c (OneByte on offset) e h = target_inside (length m.bytes) middle offset c (rw e at h)
branch_by m i middle c (TwoBytes on offset) e h = target_inside (length m.bytes) middle offset c (rw e at h)

pub branch_inside : (m : MemoryMap) (a : ℕ) (i : Instr) (b c : ℕ) → IsInstruction m a i b
    → branch_address i ≡ Some c → c < length m.bytes
branch_inside m a i b c s h = branch_by m i s.0.middle c s.0.branch_data s.0.branch h

-- a jump
jump_by : (m : MemoryMap) (i : Instr) (c : ℕ) (jumps : Bool) (v : Option ℕ) → is_jump i.opcode ≡ jumps
    → first_constant i.operands ≡ v → jump_address m i ≡ Some c → c < length m.bytes
unfolding jump_address constant_jump jump_target
jump_by m i c true (Some v) e f h = offset_inside (length m.bytes) 65536 i.next v c (rw (e, f) at h)
jump_by m i c true None e f h = let k = rw (e, f) at h in absurd cc
jump_by m i c false v e f h = let k = rw e at h in absurd cc

pub jump_inside : (m : MemoryMap) (i : Instr) (c : ℕ) → jump_address m i ≡ Some c → c < length m.bytes
jump_inside m i c h = jump_by m i c (is_jump i.opcode) (first_constant i.operands) refl refl h

-- a routine and its first instruction
allowed_by : (f : ℕ → ℕ) (n r c v : ℕ) (b : Bool) → (nat_lt 15 v || nat_lt n (f v)) ≡ b → r < f v
    → option_map f (if b then None else Some v) ≡ Some c → (r < n) × (c ≤ n)
allowed_by f n r c v true e lt h = absurd cc
allowed_by f n r c v false e lt h =
    let same = some_same (f v) c h in
    let le : f v ≤ n = grind (arith, common_steps) in
    (omega arith, omega arith)

routine_by : (m : MemoryMap) (r c : ℕ) (cell : Option ℕ) → cell_at m r ≡ cell → code_start m r ≡ Some c
    → (r < length m.bytes) × (c ≤ length m.bytes)
unfolding code_start count_at
routine_by m r c None e h = let k = rw e at h in absurd cc
routine_by m r c (Some v) e h = allowed_by (λ k. r + 1 + values_length m k) (length m.bytes) r c v
    (nat_lt 15 v || nat_lt (length m.bytes) (r + 1 + values_length m v)) refl (omega arith) (rw e at h)

pub routine_inside : (m : MemoryMap) (r c : ℕ) → code_start m r ≡ Some c → (r < length m.bytes) × (c ≤ length m.bytes)
routine_inside m r c h = routine_by m r c (cell_at m r) refl h

-- what is reached next
pub reached_behind : (m : MemoryMap) (roots : List ℕ) (a : ℕ) (i : Instr) (b : ℕ) → IsReachedFrom m roots a
    → IsInstruction m a i b → goes_on i.opcode ≡ true → IsReachedFrom m roots b
reached_behind m roots a i b r s g = Behind a b i r s g

pub reached_branch : (m : MemoryMap) (roots : List ℕ) (a : ℕ) (i : Instr) (b c : ℕ) → IsReachedFrom m roots a
    → IsInstruction m a i b → branch_address i ≡ Some c → IsReachedFrom m roots c
reached_branch m roots a i b c r s g = Branches a b c i r s g

pub reached_jump : (m : MemoryMap) (roots : List ℕ) (a : ℕ) (i : Instr) (b c : ℕ) → IsReachedFrom m roots a
    → IsInstruction m a i b → jump_address m i ≡ Some c → IsReachedFrom m roots c
reached_jump m roots a i b c r s g = Jumps a b c i r s g

pub reached_call : (m : MemoryMap) (roots : List ℕ) (a : ℕ) (i : Instr) (b r c : ℕ) → IsReachedFrom m roots a
    → IsInstruction m a i b → constant_call m i ≡ Some r → code_start m r ≡ Some c → IsReachedFrom m roots c
reached_call m roots a i b r c k s g h = Calls a b r c i k s g h

pub called_by : (m : MemoryMap) (roots : List ℕ) (a : ℕ) (i : Instr) (b r c : ℕ) → IsReachedFrom m roots a
    → IsInstruction m a i b → constant_call m i ≡ Some r → code_start m r ≡ Some c → IsCalledFrom m roots r
called_by m roots a i b r c k s g h =
    record { address = a; next = b; instr = i; start = c; reached = k; stands = s; call = g; routine = h }
