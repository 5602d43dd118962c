-- What is reached in a story of 26 bytes.
use Rattle.std.specs.Prelude.{⊤}
use Rattle.std.proofs.Common.{◌≡◌, ◌<◌, ℕ, zero, suc, Bool, true, false, ◌||◌, ◌&&◌, ◌≤◌, inl, inr, eqb, List, [], ◌∷◌}
use Rattle.std.proofs.Common.{Some, None, nat_lt, refl, sym, subst, arith, slice_get}
use Rattle.std.specs.Prelude.{◌==◌}
use Rattle.std.specs.List.{list_all}
use Rattle.std.proofs.lemmas.Bool.{eqb-true}
use Rattle.std.proofs.lemmas.Bool.Decides.{nat_tests}
use Rattle.zk_mem.specs.Header.{header_of, unit_length}
use Rattle.zk_mem.specs.Map.{HasBytes, cell_at, code_word_at}
use Rattle.zk_code.specs.declared.branch.BranchTarget.TheVariants.{At}
use Rattle.zk_code.specs.declared.instr.Instr.{Instr}
use Rattle.zk_code.specs.declared.opcode.Opcode.TheVariants as opcode
use Rattle.zk_code.specs.declared.opcode.Comparison.TheVariants.{Jz}
use Rattle.zk_code.specs.declared.opcode.Call.TheVariants.{CallVs}
use Rattle.zk_code.specs.declared.opcode.Routine.TheVariants.{Rtrue, Rfalse}
use Rattle.zk_code.specs.declared.opcode.Control.TheVariants.{Jump}
use Rattle.zk_code.specs.declared.operands.Operand.TheVariants.{Large, Small}
use Rattle.zk_code.specs.Grammar.{IsInstruction}
use Rattle.zk_code.specs.Reach.{goes_on, branch_address, constant_jump, jump_address, constant_call, first_alone}
use Rattle.zk_code.specs.Reach.{IsReached, IsCalled, IsClosed}
use Rattle.zk_code.specs.Reach.IsReachedFrom.{Root, Behind, Branches, Jumps, Calls}
use Rattle.zk_code.specs.guards.ReachExamples.{calling, WaysAreReached, RestIsNotReached, RoutineIsCalled}
use Rattle.zk_code.specs.Clean.{IsClean, IsLow, IsOutside, LeadsOut}
use Rattle.zk_code.specs.guards.CleanExamples.{CleanAndNot, calling_from, is_called_code}
use Rattle.zk_code.specs.Reading.{code_byte, code_word, types_at, with_types, with_type_bytes, extended_at, head_by}
use Rattle.zk_code.specs.Reading.{head_at, operand_at, operands_at, store_at, branch_by, branch_here, branch_at}
use Rattle.zk_code.specs.Reading.{text_at, instr_at}
use Rattle.zk_code.specs.Routines.{count_at, code_start}
use Rattle.zk_code.specs.Table.{two_operand, one_operand, zero_operand, variable_operand, extended}
use Rattle.zk_code.specs.Targets.{offset_target, branch_target, jump_target}
use Rattle.zk_code.proofs.Reached.{reach_is_least, has_one, only_one}
use Rattle.zk_code.proofs.Standing.{some_is}
use Rattle.zk_code.proofs.Whole.{at_most_one, found_at}
use Rattle.zk_code.proofs.Longer.{ends_inside}

-- the definitions that are opened here
unfoldable opened : ⊤
unfolding code_byte code_word types_at with_types with_type_bytes extended_at head_by head_at operand_at
    operands_at store_at branch_by branch_here branch_at text_at instr_at two_operand one_operand zero_operand
    variable_operand extended offset_target branch_target cell_at code_word_at
opened = tt

-- ---- its instructions

both : (x y : Bool) → (x && y) ≡ true → (x ≡ true) × (y ≡ true)
both true y h = (refl, h)
both false y h = absurd cc

pub below_256 : (bytes : List ℕ) (a v : ℕ) → list_all (λ b. nat_lt b 256) bytes ≡ true
    → slice_get bytes a ≡ Some v → v < 256
below_256 [] a v h e = absurd cc
below_256 (b ∷ bytes) zero v h e =
    let same : b ≡ v = cc in
    let test : nat_lt v 256 ≡ true = rw same at (both (nat_lt b 256) (list_all (λ b. nat_lt b 256) bytes) h).0 in
    grind (arith, nat_tests)
below_256 (b ∷ bytes) (suc a) v h e =
    below_256 bytes a v (both (nat_lt b 256) (list_all (λ b. nat_lt b 256) bytes) h).1 e

module _ (base : ℕ) where
  has_bytes : HasBytes (calling_from base)
  unfolding cell_at
  has_bytes = record { below = λ a v. below_256 calling a v refl }

  abbrev jz : Instr
  jz = record {
    opcode = opcode.Comparison Jz;
    operands = Small 0 ∷ [];
    store = None;
    branch = Some (record { on = true; target = At 20 });
    text = None;
    next = 11;
  }

  abbrev call : Instr
  call = record {
    opcode = opcode.Call CallVs;
    operands = Small 11 ∷ [];
    store = Some 0;
    branch = None;
    text = None;
    next = 15;
  }

  abbrev jump : Instr
  jump = record {
    opcode = opcode.Control Jump;
    operands = Large 3 ∷ [];
    store = None;
    branch = None;
    text = None;
    next = 18;
  }

  abbrev rtrue_before : ℕ → Instr
  rtrue_before next =
      record { opcode = opcode.Routine Rtrue; operands = []; store = None; branch = None; text = None; next = next }

  abbrev rfalse : Instr
  rfalse = record { opcode = opcode.Routine Rfalse; operands = []; store = None; branch = None; text = None; next = 21 }

  at_8 : IsInstruction (calling_from base) 8 jz 11
  unfolding opened
  at_8 = found_at (calling_from base) 8 jz has_bytes refl

  at_11 : IsInstruction (calling_from base) 11 call 15
  unfolding opened
  at_11 = found_at (calling_from base) 11 call has_bytes refl

  at_15 : IsInstruction (calling_from base) 15 jump 18
  unfolding opened
  at_15 = found_at (calling_from base) 15 jump has_bytes refl

  at_19 : IsInstruction (calling_from base) 19 (rtrue_before 20) 20
  unfolding opened
  at_19 = found_at (calling_from base) 19 (rtrue_before 20) has_bytes refl

  at_20 : IsInstruction (calling_from base) 20 rfalse 21
  unfolding opened
  at_20 = found_at (calling_from base) 20 rfalse has_bytes refl

  at_25 : IsInstruction (calling_from base) 25 (rtrue_before 26) 26
  unfolding opened
  at_25 = found_at (calling_from base) 25 (rtrue_before 26) has_bytes refl

  -- ---- what is reached

  first : IsReached (calling_from base) 8
  unfolding header_of
  first = Root 8 (has_one 8)

  second : IsReached (calling_from base) 11
  unfolding goes_on
  second = Behind 8 11 jz first at_8 refl

  third : IsReached (calling_from base) 15
  unfolding goes_on
  third = Behind 11 15 call second at_11 refl

  ways : IsReached (calling_from base) 8 × IsReached (calling_from base) 11 × IsReached (calling_from base) 20
      × IsReached (calling_from base) 15 × IsReached (calling_from base) 19 × IsReached (calling_from base) 25
  unfolding branch_address constant_jump jump_address constant_call count_at code_start offset_target jump_target
      unit_length cell_at
  ways = (
    first,
    second,
    Branches 8 11 20 jz first at_8 refl,
    third,
    Jumps 15 18 19 jump third at_15 refl,
    Calls 11 15 22 25 call second at_11 refl refl,
  )

  called : IsCalled (calling_from base) 22
  unfolding constant_call count_at code_start unit_length cell_at
  called = record {
    address = 11;
    next = 15;
    instr = call;
    start = 25;
    reached = second;
    stands = at_11;
    call = refl;
    routine = refl;
  }

  -- ---- and what is not

  -- the addresses that are reached
  abbrev is_in : ℕ → Bool
  is_in = is_called_code

  one_of : (Q : ℕ → Type 0) (n a : ℕ) (x y : Bool) → eqb a n ≡ x → (x || y) ≡ true → Q n → (y ≡ true → Q a) → Q a
  one_of Q n a true y e h q rest = subst Q (sym (eqb-true a n e)) q
  one_of Q n a false y e h q rest = rest h

  each : (Q : ℕ → Type 0) → Q 8 → Q 11 → Q 15 → Q 19 → Q 20 → Q 25 → (a : ℕ) → is_in a ≡ true → Q a
  each Q q8 q11 q15 q19 q20 q25 a h =
      one_of Q 8 a _ _ refl h q8 (λ h.
      one_of Q 11 a _ _ refl h q11 (λ h.
      one_of Q 15 a _ _ refl h q15 (λ h.
      one_of Q 19 a _ _ refl h q19 (λ h.
      one_of Q 20 a _ _ refl h q20 (λ h.
      subst Q (sym (eqb-true a 25 h)) q25)))))

  -- the ways on from an instruction lead to these
  record StaysIn (i : Instr) (b : ℕ) : Type 0 where
    behind : goes_on i.opcode ≡ true → is_in b ≡ true
    branches : (c : ℕ) → branch_address i ≡ Some c → is_in c ≡ true
    jumps : (c : ℕ) → jump_address (calling_from base) i ≡ Some c → is_in c ≡ true
    calls : (r c : ℕ) → constant_call (calling_from base) i ≡ Some r → code_start (calling_from base) r ≡ Some c
        → is_in c ≡ true

  abbrev AllStayIn : ℕ → Type 0
  AllStayIn a = (b : ℕ) (i : Instr) → IsInstruction (calling_from base) a i b → StaysIn i b

  -- there is no other instruction there
  alone : (a : ℕ) (j : Instr) (c : ℕ) → IsInstruction (calling_from base) a j c → StaysIn j c → AllStayIn a
  alone a j c t h = λ b i s. let same = at_most_one (calling_from base) a j i c b t s in
      subst (λ b. StaysIn i b) same.1 (subst (λ i. StaysIn i c) same.0 h)

  in_by : (n c : ℕ) → is_in n ≡ true → Some n ≡ Some c → is_in c ≡ true
  in_by n c h e = let same : n ≡ c = cc in rw same at h

  none_in : (c : ℕ) → None ≡ Some c → is_in c ≡ true
  none_in c e = absurd cc

  jz_stays : StaysIn jz 11
  unfolding goes_on branch_address constant_jump jump_address constant_call
  jz_stays =
      record { behind = λ _. refl; branches = λ c. in_by 20 c refl; jumps = none_in; calls = λ r c e _. absurd cc }

  started : (r c : ℕ) → Some 22 ≡ Some r → code_start (calling_from base) r ≡ Some c → is_in c ≡ true
  unfolding count_at code_start cell_at
  started r c e h = let same : 22 ≡ r = cc in in_by 25 c refl (rw (← same) at h)

  call_stays : StaysIn call 15
  unfolding goes_on branch_address constant_jump jump_address constant_call unit_length
  call_stays = record { behind = λ _. refl; branches = none_in; jumps = none_in; calls = started }

  jump_stays : StaysIn jump 18
  unfolding goes_on branch_address constant_jump jump_address constant_call offset_target jump_target
  jump_stays =
      record { behind = λ e. absurd cc; branches = none_in; jumps = λ c. in_by 19 c refl; calls = λ r c e _. absurd cc }

  rtrue_stays : (b : ℕ) → StaysIn (rtrue_before b) b
  unfolding goes_on branch_address constant_jump jump_address constant_call
  rtrue_stays b = record { behind = λ e. absurd cc; branches = none_in; jumps = none_in; calls = λ r c e _. absurd cc }

  rfalse_stays : StaysIn rfalse 21
  unfolding goes_on branch_address constant_jump jump_address constant_call
  rfalse_stays = record { behind = λ e. absurd cc; branches = none_in; jumps = none_in; calls = λ r c e _. absurd cc }

  all_stay : (a : ℕ) → is_in a ≡ true → AllStayIn a
  all_stay = each AllStayIn
      (alone 8 jz 11 at_8 jz_stays)
      (alone 11 call 15 at_11 call_stays)
      (alone 15 jump 18 at_15 jump_stays)
      (alone 19 (rtrue_before 20) 20 at_19 (rtrue_stays 20))
      (alone 20 rfalse 21 at_20 rfalse_stays)
      (alone 25 (rtrue_before 26) 26 at_25 (rtrue_stays 26))

  closed : IsClosed (calling_from base) (first_alone (calling_from base)) (λ a. is_in a ≡ true)
  unfolding header_of
  closed = record {
    roots = only_one (λ a. is_in a ≡ true) 8 refl;
    behind = λ a b i h s. (all_stay a h b i s).behind;
    branches = λ a b c i h s. (all_stay a h b i s).branches c;
    jumps = λ a b c i h s. (all_stay a h b i s).jumps c;
    calls = λ a b r c i h s. (all_stay a h b i s).calls r c;
  }

  within : (a : ℕ) → IsReached (calling_from base) a → is_in a ≡ true
  within = (reach_is_least (calling_from base) (first_alone (calling_from base))).1 is_in closed

  -- ---- and whether it is clean

  -- an instruction stays in the story, above dynamic memory that ends before the first
  record StaysClean (a : ℕ) (i : Instr) : Type 0 where
    inside : LeadsOut (calling_from base) i → ⊥
    above : base ≤ 8 → IsLow (calling_from base) a i → ⊥

  abbrev AllStayClean : ℕ → Type 0
  AllStayClean a = (b : ℕ) (i : Instr) → IsInstruction (calling_from base) a i b → StaysClean a i

  alone_clean : (a : ℕ) (j : Instr) (c : ℕ) → IsInstruction (calling_from base) a j c → StaysClean a j → AllStayClean a
  alone_clean a j c t h =
      λ b i s. let same = at_most_one (calling_from base) a j i c b t s in subst (λ i. StaysClean a i) same.0 h

  -- what has no branch, no jump and no call stays
  still : (a : ℕ) (i : Instr) → 8 ≤ a → i.branch ≡ None → constant_jump (calling_from base) i ≡ None
      → constant_call (calling_from base) i ≡ None → StaysClean a i
  still a i le b j c = record {
    inside =
        λ h. elim h [
          | inl x ↦ absurd (let e = x.1 in cc)
          | inr y ↦ elim y [
            | inl x ↦ absurd (let e = x.1 in cc)
            | inr x ↦ absurd (let e = x.1 in cc)
          ]
        ];
    above = λ low h. elim h [ inl lt ↦ absurd (omega (arith, le, low, lt)) | inr x ↦ absurd (let e = x.1 in cc) ];
  }

  jz_clean : StaysClean 8 jz
  unfolding constant_jump constant_call
  jz_clean = record {
    inside =
        λ h. elim h [
          | inl x ↦ (let same : record { on = true; target = At 20 } ≡ x.0 = some_is _ _ x.1 in
              subst (λ b. IsOutside b.target) (sym same) x.2)
          | inr y ↦ elim y [ inl x ↦ absurd (let e = x.1 in cc) | inr x ↦ absurd (let e = x.1 in cc) ]
        ];
    above = λ low h. elim h [ inl lt ↦ absurd (omega (arith, low, lt)) | inr x ↦ absurd (let e = x.1 in cc) ];
  }

  call_clean : StaysClean 11 call
  unfolding constant_jump constant_call unit_length count_at cell_at
  call_clean = record {
    inside =
        λ h. elim h [
          | inl x ↦ absurd (let e = x.1 in cc)
          | inr y ↦ elim y [
            | inl x ↦ absurd (let e = x.1 in cc)
            | inr x ↦ absurd (let same : 22 ≡ x.0 = some_is _ _ x.1 in let e = rw (← same) at x.2 in cc)
          ]
        ];
    above =
        λ low h. elim h [
          | inl lt ↦ absurd (omega (arith, low, lt))
          | inr x ↦ absurd (let same : 22 ≡ x.0 = some_is _ _ x.1 in omega (arith, same, low, x.2))
        ];
  }

  jump_clean : StaysClean 15 jump
  unfolding constant_jump constant_call offset_target jump_target
  jump_clean = record {
    inside =
        λ h. elim h [
          | inl x ↦ absurd (let e = x.1 in cc)
          | inr y ↦ elim y [
            | inl x ↦ (let same : At 19 ≡ x.0 = some_is _ _ x.1 in subst IsOutside (sym same) x.2)
            | inr x ↦ absurd (let e = x.1 in cc)
          ]
        ];
    above = λ low h. elim h [ inl lt ↦ absurd (omega (arith, low, lt)) | inr x ↦ absurd (let e = x.1 in cc) ];
  }

  rest_clean : (a b : ℕ) → 8 ≤ a → StaysClean a (rtrue_before b)
  unfolding constant_jump constant_call
  rest_clean a b le = still a (rtrue_before b) le refl refl refl

  rfalse_clean : StaysClean 20 rfalse
  unfolding constant_jump constant_call
  rfalse_clean = still 20 rfalse (omega arith) refl refl refl

  all_clean : (a : ℕ) → is_in a ≡ true → AllStayClean a
  all_clean = each AllStayClean
      (alone_clean 8 jz 11 at_8 jz_clean)
      (alone_clean 11 call 15 at_11 call_clean)
      (alone_clean 15 jump 18 at_15 jump_clean)
      (alone_clean 19 (rtrue_before 20) 20 at_19 (rest_clean 19 20 (omega arith)))
      (alone_clean 20 rfalse 21 at_20 rfalse_clean)
      (alone_clean 25 (rtrue_before 26) 26 at_25 (rest_clean 25 26 (omega arith)))

  abbrev Decodes : ℕ → Type 0
  Decodes a = (i : Instr) × IsInstruction (calling_from base) a i i.next

  all_decode : (a : ℕ) → is_in a ≡ true → Decodes a
  all_decode = each Decodes (jz, at_8) (call, at_11) (jump, at_15) (rtrue_before 20, at_19) (rfalse, at_20)
      (rtrue_before 26, at_25)

  clean : base ≤ 8 → IsClean (calling_from base) (λ a. is_in a ≡ true)
  clean low = record {
    closed = closed;
    decodes = all_decode;
    inside = λ a b i h s. (all_clean a h b i s).inside;
    above = λ a b i h s. (all_clean a h b i s).above low;
  }

  first_is_low : 8 < base → IsClean (calling_from base) (λ a. is_in a ≡ true) → ⊥
  first_is_low lt h = h.above 8 11 jz refl at_8 (inl lt)

  none_at_the_end : IsClean (calling_from base) (λ a. (is_called_code a || (a == 26)) ≡ true) → ⊥
  none_at_the_end h = let i = h.decodes 26 refl in let ends = ends_inside (calling_from base) 26 i.0 i.0.next
      i.1 in let end : i.0.next ≤ 26 = ends.1 in let some = ends.0 in absurd (omega (arith, end, some))

  way_is_missing : IsClean (calling_from base)
      (λ a. ((a == 8) || ((a == 11) || ((a == 15) || ((a == 20) || (a == 25))))) ≡ true) → ⊥
  unfolding constant_jump jump_address offset_target jump_target
  way_is_missing h = absurd (let e : false ≡ true = h.closed.jumps 15 18 19 jump refl at_15 refl in cc)

-- ---- the laws

pub ways_are_reached : WaysAreReached
ways_are_reached = ways 0

pub routine_is_called : RoutineIsCalled
routine_is_called = called 0

pub rest_is_not_reached : RestIsNotReached
rest_is_not_reached = (
  λ r. let h : is_called_code 18 ≡ true = within 0 18 r in absurd cc,
  λ r. let h : is_called_code
      21 ≡ true = within 0 21 r in absurd cc,
  λ r. let h : is_called_code 22 ≡ true = within 0 22 r in absurd cc,
)

pub clean_and_not : CleanAndNot
clean_and_not = (clean 8 (omega arith), first_is_low 9 (omega arith), none_at_the_end 8, way_is_missing 8)

pub ruleset of_reach_by_example = (ways_are_reached, rest_is_not_reached, routine_is_called)
