-- An instruction at an address of a clean set ends inside the set, unless it calls or jumps by a variable.
use Rattle.std.proofs.Common.{◌≡◌, ◌≤◌, ◌⊎◌, inl, inr, ◌∙◌, ℕ, ◌+◌, ◌-◌, ◌&&◌, ◌||◌, Bool, true, false, List, [], ◌∷◌}
use Rattle.std.proofs.Common.{length, drop, Option, Some, None, Result, Ok, refl, sym, ap, subst, arith}
use Rattle.std.specs.Prelude.{◌==◌, is_none, option_map, if◌then◌else◌}
use Rattle.std.proofs.lemmas.List.{drop-drop}
use Rattle.std.proofs.lemmas.Bool.{cases_lt}
use Rattle.zk_mem.specs.declared.fault.Fault.{Fault}
use Rattle.zk_mem.specs.Header.{header_of, unpacked}
use Rattle.zk_mem.specs.Map.{MemoryMap, cell_at}
use Rattle.zk_code.specs.declared.branch.Branch.{Branch}
use Rattle.zk_code.specs.declared.branch.BranchTarget.{BranchTarget}
use Rattle.zk_code.specs.declared.branch.BranchTarget.TheVariants.{ReturnFalse, ReturnTrue, At, Below, Past}
use Rattle.zk_code.specs.declared.instr.Instr.{Instr}
use Rattle.zk_code.specs.declared.opcode.Opcode.{Opcode}
use Rattle.zk_code.specs.declared.opcode.Opcode.TheVariants as opcode
use Rattle.zk_code.specs.declared.operands.Operand.{Operand}
use Rattle.zk_code.specs.declared.operands.Operand.TheVariants.{Large, Small, Variable}
use Rattle.zk_code.specs.Clean.{IsClean, leads_by_variable}
use Rattle.zk_code.specs.Grammar.{IsInstruction}
use Rattle.zk_code.specs.Laws.{IsSameFrom}
use Rattle.zk_code.specs.Reach.{branch_address, constant_call, constant_jump, first_constant, goes_on, is_call, is_jump}
use Rattle.zk_code.specs.Reach.{jump_address}
use Rattle.zk_code.specs.Routines.{allowed_count, count_at, code_start, values_length}
use Rattle.zk_code.specs.Reading.{instr_at}
use Rattle.zk_code.specs.Targets.{jump_target}
use Rattle.zk_code.proofs.Reached.{has_one}
use Rattle.zk_code.proofs.Whole.{only_at}
use Rattle.zk_code.proofs.Same.{cell_alike, instruction_alike}
use Rattle.zk_code.proofs.Standing.{some_is}
use Rattle.zk_step.specs.declared.state.ending.Ending.{Ending}
use Rattle.zk_step.specs.declared.state.ending.Ending.TheVariants as ending
use Rattle.zk_step.specs.declared.state.finish.Continuation.{Continuation}
use Rattle.zk_step.specs.declared.state.finish.Continuation.TheVariants.{To}
use Rattle.zk_step.specs.declared.state.game_state.GameState.{GameState}
use Rattle.zk_step.specs.Finish.{agrees, continuation_of, continuation_after}
use Rattle.zk_step.specs.Laws.{EndsBy, IsOneStory, KeepsStory}
use Rattle.zk_step.specs.Routines.{RoutineHeader, routine_at, routine_of}
use Rattle.zk_step.specs.Values.{first}
use Rattle.zk_step.specs.Variables.{operand_read, operands_read}
use Rattle.zk_step.proofs.FixedParts.{Leaves, gives, leaves_after, value_left}
use Rattle.zk_step.proofs.Sweep.{EndsInto, GoesOnInto, LeadsInto}

same_ok : {A : Type 0} (x y : A) → ◌≡◌ {A = Result A Fault} (Ok x) (Ok y) → x ≡ y
same_ok {A} x y e = cc

-- ---- the first value

-- a constant first operand is the first value
first_value : (w : GameState) (os : List Operand) (c : ℕ) → first_constant os ≡ Some c
    → Leaves (λ (p : GameState × List ℕ). first p.1 ≡ c) (operands_read w os)
unfolding operands_read operand_read
first_value w [] c e = absurd cc
first_value w (Large x ∷ os) c e = leaves_after (operands_read w os) _ (λ r. gives (some_is x c e))
first_value w (Small x ∷ os) c e = leaves_after (operands_read w os) _ (λ r. gives (some_is x c e))
first_value w (Variable v ∷ os) c e = absurd cc

there_by : (x : Bool) (o : Option ℕ) → (x && is_none o) ≡ false → x ≡ true → (c : ℕ) × (o ≡ Some c)
there_by true None h e = absurd cc
there_by true (Some c) h e = (c, refl)
there_by false o h e = absurd cc

either : (x y : Bool) → (x ≡ true) ⊎ (y ≡ true) → (x || y) ≡ true
either true y h = refl
either false true h = refl
either false false (inl h) = absurd cc
either false false (inr h) = absurd cc

-- what calls or jumps by no variable has a constant first operand
constant_first : (i : Instr) → leads_by_variable i ≡ false → (is_call i.opcode ≡ true) ⊎ (is_jump i.opcode ≡ true)
    → (c : ℕ) × (first_constant i.operands ≡ Some c)
unfolding leads_by_variable
constant_first i h which = there_by _ (first_constant i.operands) h (either (is_call i.opcode) (is_jump i.opcode) which)

-- ---- the same story

drop_from : (xs : List ℕ) (s a : ℕ) → s ≤ a → drop a xs ≡ drop (a - s) (drop s xs)
drop_from xs s a le = let e : s + (a - s) ≡ a = omega arith in rw (drop-drop (a - s) s xs, e) refl

-- memories of one story are the same from the static base on
pub same_from : (m n : MemoryMap) (a : ℕ) → KeepsStory m → KeepsStory n → IsOneStory m n → m.static_base ≤ a
    → IsSameFrom a m n
same_from m n a hm hn e le =
    let base = e.base in
    let tail : drop m.static_base n.bytes ≡ drop m.static_base m.bytes = (rw base at hn.keeps)
    ∙ ap (drop m.static_base) e.file ∙ sym hm.keeps in
    record {
      version = sym (e.version);
      size = hm.size ∙ ap length (sym e.file) ∙ sym hn.size;
      bytes = drop_from m.bytes m.static_base a le ∙ ap (drop (a - m.static_base)) (sym tail)
          ∙ sym (drop_from n.bytes m.static_base a le);
    }

by_value : (o p : Option ℕ) → ((v : ℕ) → o ≡ Some v → p ≡ Some v) → ((v : ℕ) → p ≡ Some v → o ≡ Some v) → o ≡ p
by_value None None f g = refl
by_value None (Some v) f g = g v refl
by_value (Some v) p f g = sym (f v refl)

same_cell : (m n : MemoryMap) (a : ℕ) → IsSameFrom a m n → cell_at m a ≡ cell_at n a
same_cell m n a s =
    let back : IsSameFrom a n m = record { version = sym s.version; size = sym s.size; bytes = sym s.bytes } in
    by_value (cell_at m a) (cell_at n a) (λ v. cell_alike m n a a v s (omega arith))
    (λ v. cell_alike n m a a v back (omega arith))

same_allowed : (m n : MemoryMap) (a : ℕ) (o : Option ℕ) → m.version ≡ n.version → length m.bytes ≡ length n.bytes
    → allowed_count m a o ≡ allowed_count n a o
same_allowed m n a None version size = refl
same_allowed m n a (Some c) version size = rw (version, size) refl

same_count : (m n : MemoryMap) (a : ℕ) → IsSameFrom a m n → count_at m a ≡ count_at n a
unfolding count_at
same_count m n a s = ap (allowed_count m a) (same_cell m n a s) ∙ same_allowed m n a (cell_at n a) s.version s.size

start_by : (m n : MemoryMap) (a : ℕ) (o : Option ℕ) (r : RoutineHeader) → m.version ≡ n.version
    → routine_of n a o ≡ Ok r → option_map (λ c. a + 1 + values_length m c) o ≡ Some r.start
start_by m n a None r version e = absurd cc
start_by m n a (Some c) r version e =
    let start : a + 1 + values_length n c ≡ r.start = ap (λ (h : RoutineHeader). h.start) (same_ok _ r e) in
    rw version (ap Some start)

-- a routine at or above the static base begins where it does in the other memory
start_alike : (m n : MemoryMap) (a : ℕ) (r : RoutineHeader) → IsSameFrom a m n → routine_at n a ≡ Ok r
    → code_start m a ≡ Some r.start
unfolding routine_at code_start
start_alike m n a r s e = start_by m n a (count_at m a) r s.version (ap (routine_of n a) (same_count m n a s) ∙ e)

-- ---- an instruction of a clean set

call_goes_on : (o : Opcode) → is_call o ≡ true → goes_on o ≡ true
unfolding goes_on
call_goes_on (opcode.Call operation) e = refl
call_goes_on o e = absurd cc

module _ (m : MemoryMap) (P : ℕ → Type 0) (clean : IsClean m P) (keeps : KeepsStory m) (a : ℕ) (i : Instr)
    (inside : P a) (stands : IsInstruction m a i i.next) where
  pub next_inside : goes_on i.opcode ≡ true → P i.next
  next_inside on = clean.closed.behind a i.next i inside stands on

  way_into : (t : BranchTarget) → ((c : ℕ) → t ≡ At c → P c) → LeadsInto P (continuation_of t)
  way_into ReturnFalse h = tt
  way_into ReturnTrue h = tt
  way_into (At c) h = h c refl
  way_into (Below n) h = tt
  way_into (Past c) h = tt

  branch_inside : (b : Branch) (c : ℕ) → i.branch ≡ Some b → b.target ≡ At c → P c
  unfolding branch_address
  branch_inside b c e t = clean.closed.branches a i.next c i inside stands (rw (e, t) refl)

  if_into : (x : Bool) (v w : Continuation) → LeadsInto P v → LeadsInto P w → LeadsInto P (if x then v else w)
  if_into true v w h k = h
  if_into false v w h k = k

  on_by : (o : Option Branch) (truth : Option Bool) → P i.next
      → ((b : Branch) (c : ℕ) → o ≡ Some b → b.target ≡ At c → P c) → LeadsInto P (continuation_after o i.next truth)
  unfolding continuation_after
  on_by None truth next h = next
  on_by (Some b) None next h = next
  on_by (Some b) (Some truth) next h =
      if_into (agrees b.on truth) (continuation_of b.target) (To i.next) (way_into b.target (λ c. h b c refl)) next

  pub goes_inside : goes_on i.opcode ≡ true → GoesOnInto P i
  goes_inside on = λ truth. on_by i.branch truth (next_inside on) branch_inside

  jump_inside : (c : ℕ) → is_jump i.opcode ≡ true → first_constant i.operands ≡ Some c
      → LeadsInto P (continuation_of (jump_target (length m.bytes) i.next c))
  unfolding jump_address constant_jump
  jump_inside c jump constant = way_into (jump_target (length m.bytes) i.next c)
      (λ t e. clean.closed.jumps a i.next t i inside stands (rw (jump, constant, e) refl))

  called : (p : ℕ) → is_call i.opcode ≡ true → first_constant i.operands ≡ Some p → (p == 0) ≡ false
      → constant_call m i ≡ Some (unpacked m.version p)
  unfolding constant_call
  called p call constant some = rw (call, constant, some) refl

  module _ (n : MemoryMap) (same : KeepsStory n) (story : IsOneStory m n) where
    call_inside : (p : ℕ) (r : RoutineHeader) → constant_call m i ≡ Some (unpacked m.version p)
        → routine_at n (unpacked n.version p) ≡ Ok r → P r.start
    call_inside p r call found =
        let q = unpacked m.version p in
        let there : routine_at n q ≡ Ok r = ap (λ (v : ℕ). routine_at n (unpacked v p)) (sym story.version) ∙ found in
        elim (cases_lt q m.static_base) [
          | inl low ↦ absurd (clean.above a i.next i inside stands (inr (q, call, low)))
          | inr high ↦ clean.closed.calls a i.next q r.start i inside stands call
              (start_alike m n q r (same_from m n q keeps same story high) there)
        ]

    jump_there : (c : ℕ) → is_jump i.opcode ≡ true → first_constant i.operands ≡ Some c
        → LeadsInto P (continuation_of (jump_target (length n.bytes) i.next c))
    jump_there c jump constant =
        let size : length m.bytes ≡ length n.bytes = keeps.size ∙ ap length (sym story.file) ∙ sym same.size in
        subst (λ (l : ℕ). LeadsInto P (continuation_of (jump_target l i.next c))) size (jump_inside c jump constant)

    module _ (known : leads_by_variable i ≡ false) (w u : GameState) (vs : List ℕ)
        (taken : operands_read w i.operands ≡ Ok (u, vs)) where
      is_first : (c : ℕ) → first_constant i.operands ≡ Some c → first vs ≡ c
      is_first c constant = value_left (operands_read w i.operands) (u, vs) (first_value w i.operands c constant) taken

      constant : (is_call i.opcode ≡ true) ⊎ (is_jump i.opcode ≡ true) → first_constant i.operands ≡ Some (first vs)
      constant which = let c = constant_first i known which in c.1 ∙ ap Some (sym (is_first c.0 c.1))

      -- each ending of the instruction leads into the set
      pub ends_inside : (e : Ending) → EndsBy i.opcode vs e → EndsInto P n i e
      ends_inside (ending.GoOn x truth) by = goes_inside by truth
      ends_inside (ending.Jump offset) by =
          subst (λ (c : ℕ). LeadsInto P (continuation_of (jump_target (length n.bytes) i.next c))) (sym by.1)
          (jump_there (first vs) by.0 (constant (inr by.0)))
      ends_inside (ending.Call p most) by = (
        next_inside (call_goes_on i.opcode by.0),
        λ r found. call_inside p r
            (called p by.0 (constant (inl by.0) ∙ ap Some (sym by.1)) by.2) found,
      )
      ends_inside (ending.Return x) by = tt
      ends_inside (ending.Throw x n) by = tt
      ends_inside ending.Restart by =
          subst (λ (file : List ℕ). P (header_of file).first_instruction) (sym story.file)
          (clean.closed.roots _ (has_one _))
      ends_inside (ending.Asks request) by = tt

  -- the instruction is read there in each memory of the story
  pub read_inside : (n : MemoryMap) → KeepsStory n → IsOneStory m n → instr_at n a ≡ Ok i
  read_inside n same story =
      elim (cases_lt a m.static_base) [
        | inl low ↦ absurd (clean.above a i.next i inside stands (inl low))
        | inr high ↦ (only_at n a i i.next (instruction_alike m n a i i.next
            (same_from m n a keeps same story high) stands))
      ]
