-- Operands that are read one after another.
use Rattle.std.proofs.Common.{◌≡◌, ℕ, ◌+◌, ◌<◌, List, [], ◌∷◌, ◌++◌, length, drop, true, false, Ok, Err, get_or}
use Rattle.std.proofs.Common.{drop-cons, ◌≤◌, refl, append_assoc, add-one}
use Rattle.std.proofs.lemmas.List.{append-nil, drop_all}
use Rattle.zk_mem.specs.Map.{MemoryMap}
use Rattle.zk_mem.specs.declared.fault.Fault.{Fault}
use Rattle.zk_code.specs.declared.operands.OperandType.{OperandType}
use Rattle.zk_code.specs.declared.operands.Operand.{Operand}
use Rattle.zk_code.specs.declared.operands.OperandType.TheVariants.{LargeConstant}
use Rattle.zk_code.specs.Operands.{is_omitted}
use Rattle.zk_code.specs.Reading.{Read, after, operands_at, operand_at}

-- operands after operands
after-after : (xs ys : List Operand) (r : Read (List Operand)) → after xs (after ys r) ≡ after (xs ++ ys) r
after-after xs ys (Ok x) = simp append_assoc
after-after xs ys (Err e) = refl

-- an operand more
pub types_step : (before : List Operand) (m : MemoryMap) (k : OperandType) (ks : List OperandType) (a : ℕ)
    (o : Operand) (b : ℕ) → is_omitted k ≡ false → operand_at m k a ≡ Ok (o, b)
    → after before (operands_at m (k ∷ ks) a) ≡ after (before ++ o ∷ []) (operands_at m ks b)
unfolding operands_at
types_step before m k ks a o b n h = rw (n, h) (after-after before (o ∷ []) (operands_at m ks b))

-- an omitted type ends the operands
pub types_stop : (before : List Operand) (m : MemoryMap) (k : OperandType) (ks : List OperandType) (a : ℕ)
    → is_omitted k ≡ true → after before (operands_at m (k ∷ ks) a) ≡ Ok (before, a)
unfolding operands_at
types_stop before m k ks a n = rw n (simp append-nil)

-- an operand that fails
pub types_fault : (before : List Operand) (m : MemoryMap) (k : OperandType) (ks : List OperandType) (a : ℕ)
    (e : Fault) → is_omitted k ≡ false → operand_at m k a ≡ Err e → after before (operands_at m (k ∷ ks) a) ≡ Err e
unfolding operands_at
types_fault before m k ks a e n h = rw (n, h) refl

-- no type is left
pub types_end : (before : List Operand) (m : MemoryMap) (a : ℕ) → after before (operands_at m [] a) ≡ Ok (before, a)
unfolding operands_at
types_end before m a = simp append-nil

-- at an index of a list of types
pub loop_step : (before : List Operand) (m : MemoryMap) (ks : List OperandType) (i : ℕ) (a : ℕ) (o : Operand)
    (b : ℕ) → i < length ks → is_omitted (get_or ks i LargeConstant) ≡ false
    → operand_at m (get_or ks i LargeConstant) a ≡ Ok (o, b) → after before (operands_at m (drop i ks) a) ≡ after
    (before ++ o ∷ []) (operands_at m (drop (i + 1) ks) b)
loop_step before m ks i a o b lt n h =
    rw (drop-cons ks i LargeConstant, ← add-one i) (types_step before m (get_or ks i LargeConstant)
    (drop (i + 1) ks) a o b n h)

-- the same for an omitted type
pub loop_stop : (before : List Operand) (m : MemoryMap) (ks : List OperandType) (i : ℕ) (a : ℕ) → i < length ks
    → is_omitted (get_or ks i LargeConstant) ≡ true → after before (operands_at m (drop i ks) a) ≡ Ok (before, a)
loop_stop before m ks i a lt n =
    rw (drop-cons ks i LargeConstant) (types_stop before m (get_or ks i LargeConstant) _ a n)

-- for an operand that fails
pub loop_fault : (before : List Operand) (m : MemoryMap) (ks : List OperandType) (i : ℕ) (a : ℕ) (e : Fault)
    → i < length ks → is_omitted (get_or ks i LargeConstant) ≡ false
    → operand_at m (get_or ks i LargeConstant) a ≡ Err e → after before (operands_at m (drop i ks) a) ≡ Err e
loop_fault before m ks i a e lt n h =
    rw (drop-cons ks i LargeConstant) (types_fault before m (get_or ks i LargeConstant) _ a e n h)

-- and past the last type
pub loop_end : (before : List Operand) (m : MemoryMap) (ks : List OperandType) (i : ℕ) (a : ℕ) → length ks ≤ i
    → after before (operands_at m (drop i ks) a) ≡ Ok (before, a)
loop_end before m ks i a h = rw (drop_all i ks h) (types_end before m a)

pub ruleset of_read_operands = (loop_step, loop_stop, loop_fault, loop_end)
