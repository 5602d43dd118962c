-- Where nothing is spelled and no opcode is bad, some bytes more spell an instruction.
use Rattle.std.proofs.Common.{◌≡◌, ℕ, zero, suc, ◌+◌, ◌<◌, ◌≤◌, true, List, [], ◌∷◌, ◌++◌, length, Option, Some, None}
use Rattle.std.proofs.Common.{Result, Ok, Err, refl, sym, ap, ◌∙◌, arith, ◌⊎◌, inl, inr}
use Rattle.std.specs.Prelude.{IfErr, slice_get, nat_le}
use Rattle.std.proofs.lemmas.Bool.{cases_lt}
use Rattle.std.proofs.lemmas.Bool.Decides.{nat_tests}
use Rattle.std.proofs.lemmas.List.{length-append}
use Rattle.zk_mem.specs.declared.fault.Fault.{Fault}
use Rattle.zk_mem.specs.declared.fault.Fault.TheVariants.{CodePastEnd, BadOpcode, MissingOperand}
use Rattle.zk_mem.specs.Map.{MemoryMap, cell_at, HasBytes}
use Rattle.zk_code.specs.declared.instr.Instr.{Instr}
use Rattle.zk_code.specs.declared.table.OpcodeRow.{OpcodeRow}
use Rattle.zk_code.specs.declared.opcode.Opcode.TheVariants.{Comparison}
use Rattle.zk_code.specs.declared.opcode.Comparison.TheVariants.{Jz, Jl}
use Rattle.zk_code.specs.declared.table.Follows.TheVariants.{Branches}
use Rattle.zk_code.specs.declared.operands.OperandType.{OperandType}
use Rattle.zk_code.specs.declared.operands.OperandType.TheVariants.{LargeConstant, SmallConstant, Omitted}
use Rattle.zk_code.specs.Table.{two_operand, one_operand, extended}
use Rattle.zk_code.specs.Reading.{code_byte, with_types, head_by, head_at, instr_at}
use Rattle.zk_code.specs.Grammar.{Stands, Form, Long2OP, Short1OP, Short0OP, Extended, Variable2OP, VariableVAR}
use Rattle.zk_code.specs.Grammar.{DoubleVariable, opcode_bytes, IsForm, entry_of, NamesNone, IsRefusal, longer, CutOff}
use Rattle.zk_code.proofs.Standing.{cell_inside, cell_there, byte_again}
use Rattle.zk_code.proofs.Heads.{head_none}
use Rattle.zk_code.proofs.Whole.{IsExcluded, parts_at, parts_take, parts_err, refused_at, refusing_at}
use Rattle.zk_code.proofs.Longer.{stands_back, spells_back, cut_lacks}
use Rattle.zk_code.proofs.Room.{EndsMarked, parts_inside}

-- so many bytes 128
abbrev markers : ℕ → List ℕ
markers zero = []
markers (suc n) = 128 ∷ markers n

-- there are as many
markers_long : (n : ℕ) → length (markers n) ≡ n
markers_long zero = refl
markers_long (suc n) = let r = markers_long n in omega arith

-- each is 128
slice_markers : (n c v : ℕ) → slice_get (markers n) c ≡ Some v → v ≡ 128
slice_markers zero c v e = absurd cc
slice_markers (suc n) zero v e = cc
slice_markers (suc n) (suc c) v e = slice_markers n c v e

-- what stands in a list with a 2 and bytes 128 after it
slice_pad : (xs : List ℕ) (n c v : ℕ) → slice_get (xs ++ 2 ∷ markers n) c ≡ Some v
    → (slice_get xs c ≡ Some v) ⊎ (((c ≡ length xs) × (v ≡ 2)) ⊎ ((length xs < c) × (v ≡ 128)))
slice_pad [] n zero v e = inr (inl (refl, cc))
slice_pad [] n (suc c) v e = inr (inr (omega arith, slice_markers n c v e))
slice_pad (x ∷ xs) n zero v e = inl e
slice_pad (x ∷ xs) n (suc c) v e =
    elim (slice_pad xs n c v e) [
      | inl p ↦ inl p
      | inr p ↦ elim p [
        | inl q ↦ (let k = q.0 in inr (inl (omega arith, q.1)))
        | inr q ↦ (let k = q.0 in inr (inr (omega arith, q.1)))
      ]
    ]

-- the memory with a 2 and bytes 128 after it
abbrev padded : MemoryMap → ℕ → MemoryMap
padded m a = longer m (2 ∷ markers (a + 40))

-- what stands there
cell_pad : (m : MemoryMap) (a c v : ℕ) → cell_at (padded m a) c ≡ Some v → (cell_at m c ≡ Some v)
    ⊎ (((c ≡ length m.bytes) × (v ≡ 2)) ⊎ ((length m.bytes < c) × (v ≡ 128)))
unfolding cell_at
cell_pad m a c v e = slice_pad m.bytes (a + 40) c v e

-- how long it is
padded_long : (m : MemoryMap) (a : ℕ) → length (m.bytes ++ 2 ∷ markers (a + 40)) ≡ length m.bytes + 1 + (a + 40)
padded_long m a = omega (arith, length-append m.bytes (2 ∷ markers (a + 40)), markers_long (a + 40))

-- those are bytes
padded_bytes : (m : MemoryMap) (a : ℕ) → HasBytes m → HasBytes (padded m a)
padded_bytes m a fits = record {
  below = λ c v e. elim (cell_pad m a c v e) [
    | inl p ↦ fits.below c v p
    | inr p ↦ elim p [ inl q ↦ (let k = q.1 in omega arith) | inr q ↦ (let k = q.1 in omega arith) ]
  ];
}

-- each after the 2 is 128
padded_marked : (m : MemoryMap) (a : ℕ) → EndsMarked (padded m a) (length m.bytes + 1)
padded_marked m a = record {
  marked = λ c v le e. elim (cell_pad m a c v e) [
    | inl p ↦ (let lt = cell_inside m c v p in absurd (omega arith))
    | inr p ↦ elim p [ inl q ↦ (let k = q.0 in absurd (omega arith)) | inr q ↦ q.1 ]
  ];
  long = (let long = padded_long m a in omega arith);
}

-- 2 and 128 begin an instruction in every version, and 190 2 from 5 on
abbrev jl : OpcodeRow
jl = record { opcode = Comparison Jl; least = 2; follows = Branches }

-- 2 is the number of `jl` in each version
jl_listed : (v : ℕ) → two_operand v 2 ≡ Some jl
unfolding two_operand
jl_listed v = refl

-- a byte 2 begins `jl`
head_2 : (m : MemoryMap) (a : ℕ) → code_byte m a ≡ Ok 2 → head_at m a ≡ with_types (two_operand m.version 2)
    SmallConstant SmallConstant (a + 1)
unfolding head_at head_by
head_2 m a e = rw e refl

-- an opcode that is there is not bad
bad_short : (op : Option OpcodeRow) (j k : OperandType) (b : ℕ) (o : OpcodeRow) → op ≡ Some o
    → with_types op j k b ≡ Err BadOpcode → ⊥
unfolding with_types
bad_short op j k b o e h = let q = rw e at h in absurd cc

-- the entry of `jz`
abbrev jz : OpcodeRow
jz = record { opcode = Comparison Jz; least = 1; follows = Branches }

-- 0 is the number of `jz` in each version
jz_listed : (v : ℕ) → one_operand v 0 ≡ Some jz
unfolding one_operand
jz_listed v = refl

-- a byte 128 begins `jz`
head_128 : (m : MemoryMap) (a : ℕ) → code_byte m a ≡ Ok 128 → head_at m a ≡ with_types (one_operand m.version 0)
    LargeConstant Omitted (a + 1)
unfolding head_at head_by
head_128 m a e = rw e refl

-- no opcode is bad that begins with 2
not_bad_2 : (m : MemoryMap) (a : ℕ) → code_byte m a ≡ Ok 2 → head_at m a ≡ Err BadOpcode → ⊥
not_bad_2 m a e h = bad_short (two_operand m.version 2) SmallConstant SmallConstant (a + 1) jl
    (jl_listed m.version) (sym (head_2 m a e) ∙ h)

-- no opcode is bad that begins with 128
not_bad_128 : (m : MemoryMap) (a : ℕ) → code_byte m a ≡ Ok 128 → head_at m a ≡ Err BadOpcode → ⊥
not_bad_128 m a e h = bad_short (one_operand m.version 0) LargeConstant Omitted (a + 1) jz (jz_listed m.version)
    (sym (head_128 m a e) ∙ h)

-- 2 is a number of EXT from version 5 on
extended_there : (v : ℕ) → 5 ≤ v → extended v 2 ≡ None → ⊥
unfolding extended
extended_there v le h = let u : nat_le 5 v ≡ true = grind (arith, nat_tests) in let q = rw u at h in absurd cc

-- no opcode is bad whose second byte lies after the story
no_bad_over : (m : MemoryMap) (a : ℕ) (f : Form) (p : ℕ) → a < length m.bytes → length m.bytes < p
    → IsForm m.version f → Stands (padded m a) a (opcode_bytes f) p → entry_of m.version f ≡ None → ⊥
no_bad_over m a (Long2OP n j k) p lt past f s e = let q = s.1 in omega arith
no_bad_over m a (Short1OP n k) p lt past f s e = let q = s.1 in omega arith
no_bad_over m a (Short0OP n) p lt past f s e = let q = s.1 in omega arith
no_bad_over m a (Extended n t) p lt past f s e =
    let q = s.1.1 in
    elim (cell_pad m a (a + 1) n s.1.0) [
      | inl c ↦ (let k = cell_inside m (a + 1) n c in omega arith)
      | inr c ↦ elim c [
        | inl d ↦ extended_there m.version f (rw d.1 at e)
        | inr d ↦ (let k = d.0 in omega arith)
      ]
    ]
no_bad_over m a (Variable2OP n t) p lt past f s e = let q = s.1 in omega arith
no_bad_over m a (VariableVAR n t) p lt past f s e = let q = s.1 in omega arith
no_bad_over m a (DoubleVariable n t u) p lt past f s e = let q = s.1 in omega arith

-- no opcode is bad that lies after the story
no_bad_behind : (m : MemoryMap) (a g : ℕ) → length m.bytes ≤ a → cell_at (padded m a) a ≡ Some g
    → head_at (padded m a) a ≡ Err BadOpcode → ⊥
no_bad_behind m a g le c h =
    elim (cell_pad m a a g c) [
      | inl p ↦ (let lt = cell_inside m a g p in omega arith)
      | inr p ↦ elim p [
        | inl q ↦ not_bad_2 (padded m a) a (byte_again (padded m a) a 2 (c ∙ ap Some q.1)) h
        | inr q ↦ not_bad_128 (padded m a) a (byte_again (padded m a) a 128 (c ∙ ap Some q.1)) h
      ]
    ]

-- no bytes after the story make an opcode bad
no_bad : (m : MemoryMap) (a : ℕ) → (NamesNone m a → ⊥) → NamesNone (padded m a) a → ⊥
no_bad m a h n =
    elim (cases_lt a (length m.bytes)) [
      | inr le ↦ (let long = padded_long m a in no_bad_behind m a _ le (cell_there (padded m a) a (omega arith))
          (head_none (padded m a) a n))
      | inl lt ↦ elim (cases_lt (length m.bytes) n.1) [
        | inl past ↦ no_bad_over m a n.0 n.1 lt past n.2 n.3 n.4
        | inr inside ↦ h (n.0, n.1, n.2, stands_back m (2 ∷ markers (a + 40)) (opcode_bytes n.0) a n.1 inside n.3, n.4)
      ]
    ]

-- where nothing is spelled, an instruction is that ends after the story
cut_by : (m : MemoryMap) (a : ℕ) (r : Result (Instr × ℕ) Fault) → HasBytes m → IsExcluded m a CodePastEnd
    → parts_at (padded m a) a ≡ r → CutOff m a
cut_by m a (Ok p) fits h e =
    let s = (parts_take (padded m a) a p (padded_bytes m a fits) e).0 in
    elim (cases_lt (length m.bytes) p.0.next) [
      | inl past ↦ (2 ∷ markers (a + 40), p.0, p.0.next, s, past)
      | inr le ↦ (let back = spells_back m (2 ∷ markers (a + 40)) a p.0 p.0.next le s in
          absurd (h.1 back.0 p.0.next back.1))
    ]
cut_by m a (Err d) fits h e =
    let more = padded_bytes m a fits in
    elim (parts_err (padded m a) a d more e) [
      | inl p ↦ (let long = padded_long m a in
          absurd (parts_inside (padded m a) (length m.bytes + 1) a more (padded_marked m a) (omega arith) (rw p at e)))
      | inr p ↦ absurd (no_bad m a h.0 p.0)
    ]

-- where bytes lack, some bytes more spell an instruction
pub lacks_cut : (m : MemoryMap) (a : ℕ) → HasBytes m → IsExcluded m a CodePastEnd → CutOff m a
lacks_cut m a fits h = cut_by m a (parts_at (padded m a) a) fits h refl

-- ---- the refusals

-- the two ways to say a refusal are one
refusal_from : (m : MemoryMap) (a : ℕ) (d : Fault) → HasBytes m → IsExcluded m a d → IsRefusal m a d
refusal_from m a CodePastEnd fits h = lacks_cut m a fits h
refusal_from m a BadOpcode fits h = h
refusal_from m a MissingOperand fits h = h
refusal_from m a d fits h = absurd h

-- and back
excluded_from : (m : MemoryMap) (a : ℕ) (d : Fault) → IsRefusal m a d → IsExcluded m a d
excluded_from m a CodePastEnd h = cut_lacks m a h
excluded_from m a BadOpcode h = h
excluded_from m a MissingOperand h = h
excluded_from m a d h = absurd h

-- a refusal has its reason
pub refused_for : (m : MemoryMap) (a : ℕ) (d : Fault) → HasBytes m → instr_at m a ≡ Err d → IsRefusal m a d
refused_for m a d fits e = refusal_from m a d fits (refused_at m a d fits e)

-- a reason that is there refuses
pub refusing_for : (m : MemoryMap) (a : ℕ) (d : Fault) → HasBytes m → IsRefusal m a d → instr_at m a ≡ Err d
refusing_for m a d fits h = refusing_at m a d fits (excluded_from m a d h)

-- as clauses of a result
pub is_refused : (m : MemoryMap) (a : ℕ) (r : Result Instr Fault) → HasBytes m → r ≡ instr_at m a
    → IfErr r (IsRefusal m a)
is_refused m a (Ok i) fits e = tt
is_refused m a (Err d) fits e = refused_for m a d fits (sym e)

-- a refusal whose reason is there is the result
pub is_refusing : (m : MemoryMap) (a : ℕ) (r : Result Instr Fault) → HasBytes m → r ≡ instr_at m a → (d : Fault)
    → IsRefusal m a d → r ≡ Err d
is_refusing m a r fits e d h = e ∙ refusing_for m a d fits h
