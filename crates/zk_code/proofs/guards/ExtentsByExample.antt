-- Where code ends in two short stories.
use Rattle.std.specs.Prelude.{⊤}
use Rattle.std.proofs.Common.{◌≡◌, ◌∙◌, ◌<◌, ◌≤◌, ℕ, Bool, true, false, List, [], ◌∷◌, Some, None, nat_lt, refl, sym}
use Rattle.std.proofs.Common.{subst, ap, arith, inl, inr}
use Rattle.std.specs.List.{list_all}
use Rattle.zk_mem.specs.Header.{unit_length}
use Rattle.zk_mem.specs.Map.{MemoryMap, HasBytes, cell_at, code_word_at}
use Rattle.zk_mem.specs.declared.fault.Fault.{Fault}
use Rattle.zk_code.specs.declared.branch.BranchTarget.TheVariants.{At}
use Rattle.zk_code.specs.declared.instr.Instr.{Instr}
use Rattle.zk_code.specs.declared.opcode.Opcode.TheVariants as opcode
use Rattle.zk_code.specs.declared.opcode.Comparison.TheVariants.{Jz}
use Rattle.zk_code.specs.declared.opcode.Idle.TheVariants.{Nop}
use Rattle.zk_code.specs.declared.opcode.Routine.{Routine as RoutineOperation}
use Rattle.zk_code.specs.declared.opcode.Routine.TheVariants.{Rtrue, Rfalse}
use Rattle.zk_code.specs.declared.operands.Operand.TheVariants.{Small}
use Rattle.zk_code.specs.Grammar.{IsInstruction}
use Rattle.zk_code.specs.Reach.{goes_on, branch_address, constant_jump, jump_address}
use Rattle.zk_code.specs.Reading.{code_byte, code_word, types_at, with_types, with_type_bytes, extended_at, head_by}
use Rattle.zk_code.specs.Reading.{head_at, operand_at, operands_at, store_at, branch_by, branch_here, branch_at}
use Rattle.zk_code.specs.Reading.{text_at, instr_at}
use Rattle.zk_code.specs.Routines.{count_at, code_start}
use Rattle.zk_code.specs.Table.{two_operand, one_operand, zero_operand, variable_operand, extended}
use Rattle.zk_code.specs.Targets.{offset_target, branch_target, jump_target}
use Rattle.zk_code.specs.Extent.{LeadsBelow, IsExtent, IsRoutine, IsNeighbour, FollowsCode, next_packed}
use Rattle.zk_code.specs.Extent.IsNeighbour.{Next, Past}
use Rattle.zk_code.specs.guards.ExtentExamples.{story_of, padded, with_dead_code, CodeEndsPastItsBranches}
use Rattle.zk_code.specs.guards.ExtentExamples.{CodeWithoutAnEnd, NeighboursAfterPadding, NeighboursPastDeadCode}
use Rattle.zk_code.proofs.Extents.{IsWalk, PastBy, walk_begins, walk_on, walk_stops, walk_fails, one_extent, no_start}
use Rattle.zk_code.proofs.Extents.{not_following, no_neighbour, none_past}
use Rattle.zk_code.proofs.guards.ReachedByExample.{below_256}
use Rattle.zk_code.proofs.Whole.{found_at, only_at}

-- the definitions that are opened here
unfoldable opened : ⊤
unfolding code_byte code_word types_at with_types with_type_bytes extended_at head_by head_at operand_at
    operands_at store_at branch_by branch_here branch_at text_at instr_at two_operand one_operand zero_operand
    variable_operand extended offset_target branch_target cell_at code_word_at
opened = tt

has_bytes : (version : ℕ) (bytes : List ℕ) → list_all (λ b. nat_lt b 256) bytes ≡ true
    → HasBytes (story_of version bytes)
unfolding cell_at
has_bytes version bytes small = record { below = λ a v. below_256 bytes a v small }

abbrev in_padded : HasBytes padded
in_padded = has_bytes 5 padded.bytes refl

abbrev in_dead : HasBytes with_dead_code
in_dead = has_bytes 3 with_dead_code.bytes refl

-- ---- instructions

abbrev jz : Instr
jz = record {
  opcode = opcode.Comparison Jz;
  operands = Small 0 ∷ [];
  store = None;
  branch = Some (record { on = true; target = At 5 });
  text = None;
  next = 4;
}

abbrev plain : RoutineOperation → ℕ → Instr
plain operation next =
    record { opcode = opcode.Routine operation; operands = []; store = None; branch = None; text = None; next = next }

abbrev nop : Instr
nop = record { opcode = opcode.Idle Nop; operands = []; store = None; branch = None; text = None; next = 14 }

at_1 : IsInstruction padded 1 jz 4
unfolding opened
at_1 = found_at padded 1 jz in_padded refl

at_4 : IsInstruction padded 4 (plain Rtrue 5) 5
unfolding opened
at_4 = found_at padded 4 (plain Rtrue 5) in_padded refl

at_5 : IsInstruction padded 5 (plain Rfalse 6) 6
unfolding opened
at_5 = found_at padded 5 (plain Rfalse 6) in_padded refl

at_9 : IsInstruction padded 9 (plain Rtrue 10) 10
unfolding opened
at_9 = found_at padded 9 (plain Rtrue 10) in_padded refl

at_13 : IsInstruction padded 13 nop 14
unfolding opened
at_13 = found_at padded 13 nop in_padded refl

none_at_10 : (i : Instr) (b : ℕ) → IsInstruction padded 10 i b → ⊥
unfolding opened
none_at_10 i b s = let e = only_at padded 10 i b s in absurd cc

none_at_14 : (i : Instr) (b : ℕ) → IsInstruction padded 14 i b → ⊥
unfolding opened
none_at_14 i b s = let e = only_at padded 14 i b s in absurd cc

dead_1 : IsInstruction with_dead_code 1 (plain Rtrue 2) 2
unfolding opened
dead_1 = found_at with_dead_code 1 (plain Rtrue 2) in_dead refl

dead_2 : IsInstruction with_dead_code 2 (plain Rtrue 3) 3
unfolding opened
dead_2 = found_at with_dead_code 2 (plain Rtrue 3) in_dead refl

dead_5 : IsInstruction with_dead_code 5 (plain Rfalse 6) 6
unfolding opened
dead_5 = found_at with_dead_code 5 (plain Rfalse 6) in_dead refl

-- ---- where they lead

past_none : (m : MemoryMap) (past : ℕ) (i : Instr) → branch_address i ≡ None → jump_address m i ≡ None
    → PastBy m past past i
past_none m past i b j =
    λ e. (
      λ le. (
        le,
        λ t h. elim h [
          | inl x ↦ absurd (let k = sym b ∙ x in cc)
          | inr x ↦ absurd (let k = sym j ∙ x in cc)
        ],
      ),
      λ h. h.0,
    )

jz_leads : PastBy padded 6 0 jz
unfolding branch_address constant_jump jump_address
jz_leads = λ e. (
  λ le. (
    omega arith,
    λ t h. elim h [
      | inl x ↦ (let same : 5 ≡ t = cc in omega arith)
      | inr x ↦ absurd (let k = x in cc)
    ],
  ),
  λ h. let lt : 5 < e = h.1 5 (inl refl) in omega arith,
)

plain_leads : (m : MemoryMap) (past next : ℕ) (operation : RoutineOperation) → PastBy m past past (plain operation next)
unfolding branch_address constant_jump jump_address
plain_leads m past next operation = past_none m past (plain operation next) refl refl

nop_leads : PastBy padded 0 0 nop
unfolding branch_address constant_jump jump_address
nop_leads = past_none padded 0 nop refl refl

-- ---- extents

-- a return alone
alone : (m : MemoryMap) (a b : ℕ) (operation : RoutineOperation) → goes_on (opcode.Routine operation) ≡ false
    → IsInstruction m a (plain operation b) b → IsExtent m a b
alone m a b operation stops s =
    walk_stops m a a 0 0 b (plain operation b) (walk_begins m a) s (plain_leads m 0 b operation) stops (omega arith)

rtrue_stops : goes_on (opcode.Routine Rtrue) ≡ false
unfolding goes_on
rtrue_stops = refl

rfalse_stops : goes_on (opcode.Routine Rfalse) ≡ false
unfolding goes_on
rfalse_stops = refl

jz_goes_on : goes_on jz.opcode ≡ true
unfolding goes_on
jz_goes_on = refl

nop_goes_on : goes_on nop.opcode ≡ true
unfolding goes_on
nop_goes_on = refl

walk_4 : IsWalk padded 1 4 6
walk_4 = walk_on padded 1 1 0 6 4 jz (walk_begins padded 1) at_1 jz_leads
    (λ stop _. absurd (let e = sym jz_goes_on ∙ stop in cc))

walk_5 : IsWalk padded 1 5 6
walk_5 =
    walk_on padded 1 4 6 6 5 (plain Rtrue 5) walk_4 at_4 (plain_leads padded 6 5 Rtrue) (λ _ le. absurd (omega arith))

extent_1 : IsExtent padded 1 6
extent_1 = walk_stops padded 1 5 6 6 6 (plain Rfalse 6) walk_5 at_5 (plain_leads padded 6 6 Rfalse) rfalse_stops
    (omega arith)

pub code_ends_past_its_branches : CodeEndsPastItsBranches
code_ends_past_its_branches = (extent_1, λ h. absurd (let e = one_extent padded 1 6 5 extent_1 h in cc))

pub code_without_an_end : CodeWithoutAnEnd
code_without_an_end =
    walk_fails padded 13 14 0 (walk_on padded 13 13 0 0 14 nop (walk_begins padded 13) at_13 nop_leads
    (λ stop _. absurd (let e = sym nop_goes_on ∙ stop in cc))) none_at_14

-- ---- neighbours

next_6 : 8 ≡ next_packed padded 6
unfolding next_packed unit_length
next_6 = refl

next_10 : 12 ≡ next_packed padded 10
unfolding next_packed unit_length
next_10 = refl

begins_8 : code_start padded 8 ≡ Some 9
unfolding count_at code_start cell_at
begins_8 = refl

no_routine_12 : code_start padded 12 ≡ None
unfolding count_at code_start cell_at
no_routine_12 = refl

routine_8 : IsRoutine padded 8
routine_8 = record { start = 9; end = 10; begins = begins_8; extent = alone padded 9 10 Rtrue rtrue_stops at_9 }

no_routine_10 : IsRoutine padded (next_packed padded 10) → ⊥
no_routine_10 h = no_start padded 12 no_routine_12 (subst (IsRoutine padded) (sym next_10) h)

no_end_10 : (k : ℕ) → FollowsCode padded 10 k → ⊥
no_end_10 k h = walk_fails padded 10 10 0 (walk_begins padded 10) none_at_10 h.end h.extent

pub neighbours_after_padding : NeighboursAfterPadding
neighbours_after_padding = (
  Next (record { end = 6; extent = extent_1; next = next_6; routine = routine_8 }),
  λ n h. none_past padded 9 10 n (not_following padded 9 10 (alone padded 9 10 Rtrue rtrue_stops at_9)
      no_routine_10) (alone padded 9 10 Rtrue rtrue_stops at_9) no_end_10 h,
)

dead_next_2 : 2 ≡ next_packed with_dead_code 2
unfolding next_packed unit_length
dead_next_2 = refl

dead_next_3 : 4 ≡ next_packed with_dead_code 3
unfolding next_packed unit_length
dead_next_3 = refl

dead_begins_4 : code_start with_dead_code 4 ≡ Some 5
unfolding count_at code_start cell_at
dead_begins_4 = refl

dead_none_2 : code_start with_dead_code 2 ≡ None
unfolding count_at code_start cell_at
dead_none_2 = refl

dead_routine_4 : IsRoutine with_dead_code 4
dead_routine_4 =
    record { start = 5; end = 6; begins = dead_begins_4; extent = alone with_dead_code 5 6 Rfalse rfalse_stops dead_5 }

pub neighbours_past_dead_code : NeighboursPastDeadCode
neighbours_past_dead_code =
    let none : IsRoutine with_dead_code 2 → ⊥ = no_start with_dead_code 2 dead_none_2 in
    let first : IsExtent with_dead_code 1 2 = alone with_dead_code 1 2 Rtrue rtrue_stops dead_1 in (
      none,
      Past 2 first (not_following with_dead_code 1 2 first
          (λ h. none (subst (IsRoutine with_dead_code) (sym dead_next_2) h)))
          (record {
            end = 3;
            extent = alone with_dead_code 2 3 Rtrue rtrue_stops dead_2;
            next = dead_next_3;
            routine = dead_routine_4;
          }),
    )

pub ruleset all =
    (code_ends_past_its_branches, code_without_an_end, neighbours_after_padding, neighbours_past_dead_code)
