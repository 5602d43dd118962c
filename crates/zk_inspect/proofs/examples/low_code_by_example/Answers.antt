-- What is reached is low or not by its address and by the routine that it calls.
use Rattle.std.proofs.Common.{◌≡◌, ◌<◌, ℕ, zero, suc, Bool, true, false, ◌||◌, ◌&&◌, eqb, inl, inr, List, [], ◌∷◌, Some}
use Rattle.std.proofs.Common.{None, nat_lt, refl, sym, subst, arith, slice_get}
use Rattle.std.specs.List.{list_all}
use Rattle.std.proofs.lemmas.Bool.{eqb-true}
use Rattle.std.proofs.lemmas.Bool.Decides.{nat_tests}
use Rattle.zk_mem.specs.Header.{header_of, unit_length}
use Rattle.zk_mem.specs.Map.{MemoryMap, HasBytes, cell_at, code_word_at}
use Rattle.zk_code.specs.declared.instr.Instr.{Instr}
use Rattle.zk_code.specs.declared.opcode.Opcode.TheVariants as opcode
use Rattle.zk_code.specs.declared.opcode.Call.TheVariants.{CallVs}
use Rattle.zk_code.specs.declared.operands.Operand.TheVariants.{Large}
use Rattle.zk_code.specs.guards.CleanExamples.{calling_from, is_called_code}
use Rattle.zk_code.specs.Grammar.{IsInstruction}
use Rattle.zk_code.specs.Reach.{IsClosed, IsReached, first_alone, constant_call, constant_jump, jump_address}
use Rattle.zk_code.specs.Reach.IsReachedFrom.{Root}
use Rattle.zk_code.specs.Reading.{code_byte, code_word, types_at, with_types, with_type_bytes, extended_at, head_by}
use Rattle.zk_code.specs.Reading.{head_at, operand_at, operands_at, store_at, branch_by, branch_here, branch_at}
use Rattle.zk_code.specs.Reading.{text_at, instr_at}
use Rattle.zk_code.specs.Routines.{count_at, code_start}
use Rattle.zk_code.specs.Table.{two_operand, one_operand, zero_operand, variable_operand, extended}
use Rattle.zk_code.specs.Targets.{offset_target, branch_target}
use Rattle.zk_code.proofs.Reached.{has_one, reach_is_least}
use Rattle.zk_code.proofs.guards.ReachedByExample.{clean_and_not}
use Rattle.zk_code.proofs.Same.{instruction_alike}
use Rattle.zk_code.proofs.Whole.{found_at}
use Rattle.zk_inspect.specs.Findings.{Finds, IsLowCode}
use Rattle.zk_inspect.specs.guards.LowExamples.{calling_back, calling_back_from}
use Rattle.zk_inspect.specs.Tests.{is_low}
use Rattle.zk_inspect.proofs.Checks.{low_code_test}
use Rattle.zk_inspect.proofs.examples.low_code_by_example.Goals as goal

-- ---- low by its own address

-- where dynamic memory ends tells nothing of what stands at an address
alike : (base other a b : ℕ) (i : Instr) → IsInstruction (calling_from base) a i b
    → IsInstruction (calling_from other) a i b
alike base other a b i s = instruction_alike (calling_from base) (calling_from other) a i b
    (record { version = refl; size = refl; bytes = refl }) s

closed : (base : ℕ) → IsClosed (calling_from base) (first_alone (calling_from base)) (λ a. is_called_code a ≡ true)
unfolding header_of constant_jump jump_address constant_call count_at code_start cell_at
closed base = let c = clean_and_not.0.closed in record {
  roots = c.roots;
  behind = λ a b i h s. c.behind a b i h (alike base 8 a b i s);
  branches = λ a b d i h s. c.branches a b d i h (alike base 8 a b i s);
  jumps = λ a b d i h s. c.jumps a b d i h (alike base 8 a b i s);
  calls = λ a b r d i h s. c.calls a b r d i h (alike base 8 a b i s);
}

within : (base a : ℕ) → IsReached (calling_from base) a → is_called_code a ≡ true
within base a r =
    (reach_is_least (calling_from base) (first_alone (calling_from base))).1 is_called_code (closed base) a r

one_of : (Q : ℕ → Type 0) (n a : ℕ) (x y : Bool) → eqb a n ≡ x → (x || y) ≡ true → Q n → (y ≡ true → Q a) → Q a
one_of Q n a true y e h q rest = subst Q (sym (eqb-true a n e)) q
one_of Q n a false y e h q rest = rest h

each : (Q : ℕ → Type 0) → Q 8 → Q 11 → Q 15 → Q 19 → Q 20 → Q 25 → (a : ℕ) → is_called_code a ≡ true → Q a
each Q q8 q11 q15 q19 q20 q25 a h =
    one_of Q 8 a _ _ refl h q8 (λ h.
    one_of Q 11 a _ _ refl h q11 (λ h.
    one_of Q 15 a _ _ refl h q15 (λ h.
    one_of Q 19 a _ _ refl h q19 (λ h.
    one_of Q 20 a _ _ refl h q20 (λ h.
    subst Q (sym (eqb-true a 25 h)) q25)))))

-- a low one is the first
abbrev IsFirst : ℕ → Type 0
IsFirst a = is_low (calling_from 9) a ≡ true → a ≡ 8

all_first : (a : ℕ) → is_called_code a ≡ true → IsFirst a
unfolding code_byte code_word types_at with_types with_type_bytes extended_at head_by head_at operand_at
    operands_at store_at branch_by branch_here branch_at text_at instr_at two_operand one_operand zero_operand
    variable_operand extended offset_target branch_target cell_at code_word_at constant_call unit_length
all_first =
    each IsFirst (λ _. refl) (λ e. absurd cc) (λ e. absurd cc) (λ e. absurd cc) (λ e. absurd cc) (λ e. absurd cc)

first_low : IsLowCode (calling_from 9) 8
unfolding header_of
first_low = let first = clean_and_not.0.decodes 8 refl in
    record {
      next = first.0.next;
      instr = first.0;
      reached = Root 8 (has_one 8);
      stands = alike 8 9 8 first.0.next first.0 first.1;
      low = inl (omega arith);
    }

none_low : (a : ℕ) → IsLowCode (calling_from 8) a → ⊥
none_low a p = clean_and_not.0.above a p.next p.instr (within 8 a p.reached) p.stands p.low

pub returns-clause-low_instructions : goal.returns-clause-low_instructions
unfolding Finds
returns-clause-low_instructions c =
    (none_low, first_low, λ a p. all_first a (within 9 a p.reached) (low_code_test (calling_from 9) a p))

-- ---- low by the routine that it calls

both : (x y : Bool) → (x && y) ≡ true → (x ≡ true) × (y ≡ true)
both true y h = (refl, h)
both false y h = absurd cc

below_256 : (bytes : List ℕ) (a v : ℕ) → list_all (λ b. nat_lt b 256) bytes ≡ true
    → slice_get bytes a ≡ Some v → v < 256
below_256 [] a v h e = absurd cc
below_256 (b ∷ bytes) zero v h e =
    let same : b ≡ v = cc in
    let test : nat_lt v 256 ≡ true = rw same at (both (nat_lt b 256) (list_all (λ b. nat_lt b 256) bytes) h).0 in
    grind (arith, nat_tests)
below_256 (b ∷ bytes) (suc a) v h e =
    below_256 bytes a v (both (nat_lt b 256) (list_all (λ b. nat_lt b 256) bytes) h).1 e

has_bytes : HasBytes (calling_back_from 9)
unfolding cell_at
has_bytes = record { below = λ a v. below_256 calling_back a v refl }

abbrev call : Instr
call = record {
  opcode = opcode.Call CallVs;
  operands = Large 4 ∷ [];
  store = Some 0;
  branch = None;
  text = None;
  next = 15;
}

call_stands : IsInstruction (calling_back_from 9) 10 call 15
unfolding code_byte code_word types_at with_types with_type_bytes extended_at head_by head_at operand_at
    operands_at store_at branch_by branch_here branch_at text_at instr_at two_operand one_operand zero_operand
    variable_operand extended offset_target branch_target cell_at code_word_at
call_stands = found_at (calling_back_from 9) 10 call has_bytes refl

call_low : IsLowCode (calling_back_from 9) 10
unfolding header_of constant_call unit_length
call_low = record {
  next = 15;
  instr = call;
  reached = Root 10 (has_one 10);
  stands = call_stands;
  low = inr (8, refl, omega arith);
}

not_low : (m : MemoryMap) (a : ℕ) → is_low m a ≡ false → IsLowCode m a → ⊥
not_low m a e p = let low = low_code_test m a p in absurd cc

pub returns-clause-low_routines : goal.returns-clause-low_routines
unfolding Finds code_byte code_word types_at with_types with_type_bytes extended_at head_by head_at operand_at
    operands_at store_at branch_by branch_here branch_at text_at instr_at two_operand one_operand zero_operand
    variable_operand extended offset_target branch_target cell_at code_word_at constant_call unit_length
returns-clause-low_routines c = (
  call_low,
  not_low (calling_back_from 9) 9 refl,
  not_low (calling_back_from 9) 15 refl,
  not_low (calling_back_from 8) 10 refl,
)
