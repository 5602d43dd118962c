-- What stands before the operands.
use Rattle.std.proofs.Common.{◌≡◌, ℕ, zero, suc, ◌+◌, ◌*◌, ◌/◌, ◌%◌, ◌<◌, ◌≤◌, Bool, true, false, cond, List, [], ◌∷◌}
use Rattle.std.proofs.Common.{◌++◌, length, Option, Some, None, Result, Ok, Err, refl, sym, ap, ◌∙◌, arith, ◌⊎◌, inl}
use Rattle.std.proofs.Common.{inr}
use Rattle.std.specs.Prelude.{nat_le, nat_lt, ◌==◌, ◌&&◌}
use Rattle.std.proofs.lemmas.Bool.{cases_lt, cases_eq}
use Rattle.std.proofs.lemmas.Bool.Decides.{nat_tests}
use Rattle.zk_mem.specs.declared.fault.Fault.{Fault}
use Rattle.zk_mem.specs.declared.fault.Fault.TheVariants.{CodePastEnd, BadOpcode}
use Rattle.zk_mem.specs.Map.{MemoryMap, cell_at, HasBytes}
use Rattle.zk_code.specs.declared.table.OpcodeRow.{OpcodeRow}
use Rattle.zk_code.specs.declared.head.Head.{Head}
use Rattle.zk_code.specs.declared.operands.OperandType.{OperandType}
use Rattle.zk_code.specs.declared.operands.OperandType.TheVariants.{LargeConstant, SmallConstant, VariableNumber}
use Rattle.zk_code.specs.declared.operands.OperandType.TheVariants.{Omitted}
use Rattle.zk_code.specs.Table.{two_operand, one_operand, zero_operand, variable_operand, extended, has_two_type_bytes}
use Rattle.zk_code.specs.Reading.{code_byte, operands_at, type_by_bits, types_by_byte, type_by_bit, four_omitted}
use Rattle.zk_code.specs.Reading.{types_at, with_type_bytes, extended_at, with_types, head_by, head_at}
use Rattle.zk_code.specs.Grammar.{Stands, type_bits, type_bit, FourTypes, type_byte, four_types, Form, Long2OP}
use Rattle.zk_code.specs.Grammar.{Short1OP, Short0OP, Extended, Variable2OP, VariableVAR, DoubleVariable, opcode_bytes}
use Rattle.zk_code.specs.Grammar.{type_bytes, types_of, entry_of, IsLongType, IsGiven, IsForm, NamesNone}
use Rattle.zk_code.proofs.Standing.{stands_join, stands_long, byte_takes, byte_again, byte_err, byte_inside}
use Rattle.zk_code.proofs.Steps.{Reads, read_ok, read_err, read_then, read_more, read_as, read_or, read_byte}

-- ---- type bytes

-- the bits of the type that two bits give
bits_of_type : (n : ℕ) → n < 4 → type_bits (type_by_bits n) ≡ n
bits_of_type zero h = refl
bits_of_type (suc zero) h = refl
bits_of_type (suc (suc zero)) h = refl
bits_of_type (suc (suc (suc zero))) h = refl
bits_of_type (suc (suc (suc (suc n)))) h = absurd (omega arith)

-- the type that the bits of a type give
type_of_bits : (k : OperandType) → type_by_bits (type_bits k) ≡ k
type_of_bits LargeConstant = refl
type_of_bits SmallConstant = refl
type_of_bits VariableNumber = refl
type_of_bits Omitted = refl

-- a type has two bits
bits_below : (k : OperandType) → type_bits k < 4
bits_below LargeConstant = omega arith
bits_below SmallConstant = omega arith
bits_below VariableNumber = omega arith
bits_below Omitted = omega arith

-- the types that a type byte gives
abbrev types_by : ℕ → FourTypes
types_by t = record {
  first = type_by_bits (t / 64);
  second = type_by_bits (t / 16 % 4);
  third = type_by_bits (t / 4 % 4);
  fourth = type_by_bits (t % 4);
}

-- a type byte is that of its types
type_byte_by : (t : ℕ) → t < 256 → type_byte (types_by t) ≡ t
type_byte_by t h =
    let p = bits_of_type (t / 64) (omega arith) in
    let q = bits_of_type (t / 16 % 4) (omega arith) in
    let r = bits_of_type (t / 4 % 4) (omega arith) in
    let s = bits_of_type (t % 4) (omega arith) in
    rw (p, q, r, s) (omega arith)

-- the types of a type byte are those that it is made of
types_again : (t : FourTypes) → types_by_byte (type_byte t) ≡ four_types t
types_again t =
    let p = bits_below t.first in
    let q = bits_below t.second in
    let r = bits_below t.third in
    let s = bits_below t.fourth in
    let e1 : type_byte t / 64 ≡ type_bits t.first = omega arith in
    let e2 : type_byte t / 16 % 4 ≡ type_bits t.second = omega arith in
    let e3 : type_byte t / 4 % 4 ≡ type_bits t.third = omega arith in
    let e4 : type_byte t % 4 ≡ type_bits t.fourth = omega arith in
    let k1 : type_by_bits (type_byte t / 64) ≡ t.first = ap type_by_bits e1 ∙ type_of_bits t.first in
    let k2 : type_by_bits (type_byte t / 16 % 4) ≡ t.second = ap type_by_bits e2 ∙ type_of_bits t.second in
    let k3 : type_by_bits (type_byte t / 4 % 4) ≡ t.third = ap type_by_bits e3 ∙ type_of_bits t.third in
    let k4 : type_by_bits (type_byte t % 4) ≡ t.fourth = ap type_by_bits e4 ∙ type_of_bits t.fourth in
    cc

-- a type byte that is read is one
abbrev OneByte : MemoryMap → ℕ → List OperandType × ℕ → Type 0
OneByte m a x = (t : FourTypes) × (x.0 ≡ four_types t ++ four_omitted) × Stands m a (type_byte t ∷ []) x.1

one_read : {F : Fault → Type 0} (m : MemoryMap) (a : ℕ) → HasBytes m → (length m.bytes ≤ a → F CodePastEnd)
    → Reads (OneByte m a) F (types_at m false a)
unfolding types_at
one_read m a fits lack =
    read_then _ _ (read_byte m a lack)
    (λ t c. read_ok (types_by t, refl, (c ∙ ap Some (sym (type_byte_by t (fits.below a t c))), refl)))

-- two type bytes that are read are two
abbrev TwoBytes : MemoryMap → ℕ → List OperandType × ℕ → Type 0
TwoBytes m a x = (t : FourTypes) × (u : FourTypes) × (x.0 ≡ four_types t ++ four_types u)
    × Stands m a (type_byte t ∷ type_byte u ∷ []) x.1

two_read : {F : Fault → Type 0} (m : MemoryMap) (a : ℕ) → HasBytes m → (length m.bytes ≤ a + 1 → F CodePastEnd)
    → Reads (TwoBytes m a) F (types_at m true a)
unfolding types_at
two_read m a fits lack =
    read_then _ _ (read_byte m a (λ le. lack (omega arith))) (λ t c. read_then _ _ (read_byte m (a + 1) lack) (λ u d.
    read_ok (
      types_by t,
      types_by u,
      refl,
      (
        c ∙ ap Some (sym (type_byte_by t (fits.below a t c))),
        (d ∙ ap Some (sym (type_byte_by u (fits.below (a + 1) u d))), omega arith),
      ),
    )))

-- a type byte that stands there is read
one_again : (m : MemoryMap) (a : ℕ) (t : FourTypes) (b : ℕ) → Stands m a (type_byte t ∷ []) b
    → types_at m false a ≡ Ok (four_types t ++ four_omitted, b)
unfolding types_at
one_again m a t b h =
    rw (byte_again m a (type_byte t) h.0, h.1) (ap (λ (ks : List OperandType). Ok (ks ++ four_omitted, b))
    (types_again t))

-- two type bytes that stand there are read
two_again : (m : MemoryMap) (a : ℕ) (t u : FourTypes) (b : ℕ) → Stands m a (type_byte t ∷ type_byte u ∷ []) b
    → types_at m true a ≡ Ok (four_types t ++ four_types u, b)
unfolding types_at
two_again m a t u b h =
    let e : a + 2 ≡ b = omega (arith, h.1.1) in
    rw (byte_again m a (type_byte t) h.0, byte_again m (a + 1) (type_byte u) h.1.0, e)
    (ap (λ (ks : List OperandType). Ok (ks ++ types_by_byte (type_byte u), b)) (types_again t)
    ∙ ap (λ (ks : List OperandType). Ok (four_types t ++ ks, b)) (types_again u))

-- types after an omitted one don't matter
operands_pad : (m : MemoryMap) (ks more : List OperandType) (a : ℕ)
    → operands_at m (ks ++ Omitted ∷ more) a ≡ operands_at m ks a
unfolding operands_at
operands_pad m [] more a = refl
operands_pad m (k ∷ ks) more a = simp (operands_pad m ks more)

-- ---- the forms

-- what is read after the bytes of an opcode
abbrev pub rest_of : MemoryMap → Form → ℕ → Result Head Fault
rest_of m (Long2OP n j k) b = with_types (two_operand m.version n) j k b
rest_of m (Short1OP n k) b = with_types (one_operand m.version n) k Omitted b
rest_of m (Short0OP n) b = with_types (zero_operand m.version n) Omitted Omitted b
rest_of m (Extended n t) b = with_type_bytes m (extended m.version n) false b
rest_of m (Variable2OP n t) b = with_type_bytes m (two_operand m.version n) false b
rest_of m (VariableVAR n t) b = with_type_bytes m (variable_operand m.version n) false b
rest_of m (DoubleVariable n t u) b = with_type_bytes m (variable_operand m.version n) true b

-- ---- a first byte that is composed

-- the byte of a long form
long_again : (m : MemoryMap) (a n : ℕ) (j k : OperandType) → n < 32 → IsLongType j → IsLongType k
    → head_by m a (64 * type_bit j + 32 * type_bit k + n) ≡ with_types (two_operand m.version n) j k (a + 1)
unfolding head_by
long_again m a n LargeConstant k h p q = absurd p
long_again m a n Omitted k h p q = absurd p
long_again m a n SmallConstant LargeConstant h p q = absurd q
long_again m a n SmallConstant Omitted h p q = absurd q
long_again m a n VariableNumber LargeConstant h p q = absurd q
long_again m a n VariableNumber Omitted h p q = absurd q
long_again m a n SmallConstant SmallConstant h p q =
    let t : nat_lt (0 + n) 128 ≡ true = grind (arith, nat_tests) in let r : (0 + n) % 32 ≡ n = omega arith in
    let s : (0 + n) / 64 % 2 ≡ 0 = omega arith in let u : (0 + n) / 32 % 2 ≡ 0 = omega arith in rw (t, r, s, u) refl
long_again m a n SmallConstant VariableNumber h p q =
    let t : nat_lt (32 + n) 128 ≡ true = grind (arith, nat_tests) in let r : (32 + n) % 32 ≡ n = omega arith in
    let s : (32 + n) / 64 % 2 ≡ 0 = omega arith in let u : (32 + n) / 32 % 2 ≡ 1 = omega arith in rw (t, r, s, u) refl
long_again m a n VariableNumber SmallConstant h p q =
    let t : nat_lt (64 + n) 128 ≡ true = grind (arith, nat_tests) in let r : (64 + n) % 32 ≡ n = omega arith in
    let s : (64 + n) / 64 % 2 ≡ 1 = omega arith in let u : (64 + n) / 32 % 2 ≡ 0 = omega arith in rw (t, r, s, u) refl
long_again m a n VariableNumber VariableNumber h p q =
    let t : nat_lt (96 + n) 128 ≡ true = grind (arith, nat_tests) in let r : (96 + n) % 32 ≡ n = omega arith in
    let s : (96 + n) / 64 % 2 ≡ 1 = omega arith in let u : (96 + n) / 32 % 2 ≡ 1 = omega arith in rw (t, r, s, u) refl

-- the bits of a type that is given
short_bits : (k : OperandType) → IsGiven k → type_bits k < 3
short_bits LargeConstant g = omega arith
short_bits SmallConstant g = omega arith
short_bits VariableNumber g = omega arith
short_bits Omitted g = absurd g

-- the byte of a short form with an operand
short_again : (m : MemoryMap) (a n : ℕ) (k : OperandType) → n < 16 → IsGiven k
    → head_by m a (128 + 16 * type_bits k + n) ≡ with_types (one_operand m.version n) k Omitted (a + 1)
unfolding head_by
short_again m a n k h g =
    let s = short_bits k g in
    let t1 : nat_lt (128 + 16 * type_bits k + n) 128 ≡ false = grind (arith, nat_tests) in
    let t2 : nat_lt (128 + 16 * type_bits k + n) 176 ≡ true = grind (arith, nat_tests) in
    let r : (128 + 16 * type_bits k + n) % 16 ≡ n = omega arith in
    let e : (128 + 16 * type_bits k + n) / 16 % 4 ≡ type_bits k = omega arith in
    rw (t1, t2, r, e, type_of_bits k) refl

-- a test of two facts that exclude each other
not_both : (x y v : ℕ) → (x ≡ y → v < 5) → x == y && nat_le 5 v ≡ false
not_both x y v h = grind (arith, nat_tests)

-- the byte of a short form without an operand
short_0op_again : (m : MemoryMap) (a n : ℕ) → n < 16 → (n ≡ 14 → m.version < 5)
    → head_by m a (176 + n) ≡ with_types (zero_operand m.version n) Omitted Omitted (a + 1)
unfolding head_by
short_0op_again m a n h g =
    let t1 : nat_lt (176 + n) 128 ≡ false = grind (arith, nat_tests) in
    let t2 : nat_lt (176 + n) 176 ≡ false = grind (arith, nat_tests) in
    let t3 : (176 + n == 190 && nat_le 5 m.version) ≡ false = not_both (176 + n) 190 m.version (λ e. g (omega arith)) in
    let t4 : nat_lt (176 + n) 192 ≡ true = grind (arith, nat_tests) in
    let r : (176 + n) % 16 ≡ n = omega arith in
    rw (t1, t2, t3, t4, r) refl

-- the bytes of an extended form
extended_again : (m : MemoryMap) (a n : ℕ) → 5 ≤ m.version → code_byte m (a + 1) ≡ Ok n
    → head_by m a 190 ≡ with_type_bytes m (extended m.version n) false (a + 1 + 1)
unfolding head_by extended_at
extended_again m a n h e =
    let t3 : nat_le 5 m.version ≡ true = grind (arith, nat_tests) in
    rw (t3, e) refl

-- bytes from 192 on begin a variable form
past_short : (m : MemoryMap) (a b : ℕ) → 192 ≤ b → head_by m a b ≡ cond (nat_lt b 224)
    (with_type_bytes m (two_operand m.version (b % 32)) false (a + 1))
    (with_type_bytes m (variable_operand m.version (b % 32)) (has_two_type_bytes (b % 32)) (a + 1))
unfolding head_by
past_short m a b h =
    let t1 : nat_lt b 128 ≡ false = grind (arith, nat_tests) in
    let t2 : nat_lt b 176 ≡ false = grind (arith, nat_tests) in
    let t3 : (b == 190 && nat_le 5 m.version) ≡ false = not_both b 190 m.version (λ e. absurd (omega arith)) in
    let t4 : nat_lt b 192 ≡ false = grind (arith, nat_tests) in
    rw (t1, t2, t3, t4) refl

-- the byte of a variable form of 2OP
variable_2op_again : (m : MemoryMap) (a n : ℕ) → n < 32 → head_by m a (192 + n) ≡ with_type_bytes m
    (two_operand m.version n) false (a + 1)
variable_2op_again m a n h =
    let t : nat_lt (192 + n) 224 ≡ true = grind (arith, nat_tests) in
    let r : (192 + n) % 32 ≡ n = omega arith in
    past_short m a (192 + n) (omega arith) ∙ rw (t, r) refl

-- the byte of a variable form of VAR
variable_var_again : (m : MemoryMap) (a n : ℕ) (two : Bool) → n < 32 → has_two_type_bytes n ≡ two
    → head_by m a (224 + n) ≡ with_type_bytes m (variable_operand m.version n) two (a + 1)
variable_var_again m a n two h e =
    let t : nat_lt (224 + n) 224 ≡ false = grind (arith, nat_tests) in
    let r : (224 + n) % 32 ≡ n = omega arith in
    past_short m a (224 + n) (omega arith) ∙ rw (t, r, e) refl

-- a number with two type bytes fits into its bits
wide_below : (n : ℕ) → has_two_type_bytes n ≡ true → n < 32
wide_below n h = grind (arith, nat_tests)

-- the bytes of an opcode lead to its form
pub opcode_again : (m : MemoryMap) (f : Form) (a b : ℕ) → IsForm m.version f → Stands m a (opcode_bytes f) b
    → head_at m a ≡ rest_of m f b
unfolding head_at
opcode_again m (Long2OP n j k) a b f h =
    rw (byte_again m a (64 * type_bit j + 32 * type_bit k + n) h.0, ← h.1) (long_again m a n j k f.0 f.1 f.2)
opcode_again m (Short1OP n k) a b f h =
    rw (byte_again m a (128 + 16 * type_bits k + n) h.0, ← h.1) (short_again m a n k f.0 f.1)
opcode_again m (Short0OP n) a b f h = rw (byte_again m a (176 + n) h.0, ← h.1) (short_0op_again m a n f.0 f.1)
opcode_again m (Extended n t) a b f h =
    rw (byte_again m a 190 h.0, ← h.1.1) (extended_again m a n f (byte_again m (a + 1) n h.1.0))
opcode_again m (Variable2OP n t) a b f h = rw (byte_again m a (192 + n) h.0, ← h.1) (variable_2op_again m a n f)
opcode_again m (VariableVAR n t) a b f h =
    rw (byte_again m a (224 + n) h.0, ← h.1) (variable_var_again m a n false f.0 f.1)
opcode_again m (DoubleVariable n t u) a b f h =
    rw (byte_again m a (224 + n) h.0, ← h.1) (variable_var_again m a n true (wide_below n f) f)

-- ---- which form a first byte begins

-- types that stand for any
abbrev no_types : FourTypes
no_types = record { first = Omitted; second = Omitted; third = Omitted; fourth = Omitted }

-- the opcode's bytes are there, for some types
pub record Begins (m : MemoryMap) (a : ℕ) : Type 0 where
  pub form : Form
  pub at : ℕ
  pub is_form : IsForm m.version form
  pub bytes : Stands m a (opcode_bytes form) at

-- a bit gives a type of a long form
long_type : (n : ℕ) → n < 2 → IsLongType (type_by_bit n) × (type_bit (type_by_bit n) ≡ n)
long_type zero h = (tt, refl)
long_type (suc zero) h = (tt, refl)
long_type (suc (suc n)) h = absurd (omega arith)

-- bits below 3 give a type that is not omitted
given_type : (n : ℕ) → n < 3 → IsGiven (type_by_bits n)
given_type zero h = tt
given_type (suc zero) h = tt
given_type (suc (suc zero)) h = tt
given_type (suc (suc (suc n))) h = absurd (omega arith)

-- bytes from 224 on begin a form
begins_variable_var : (m : MemoryMap) (a b : ℕ) (two : Bool) → has_two_type_bytes (b % 32) ≡ two → 224 ≤ b
    → b < 256 → cell_at m a ≡ Some b → Begins m a
begins_variable_var m a b true w le lt c =
    record {
      form = DoubleVariable (b % 32) no_types no_types;
      at = a + 1;
      is_form = w;
      bytes = (c ∙ ap Some (omega arith), refl);
    }
begins_variable_var m a b false w le lt c =
    record {
      form = VariableVAR (b % 32) no_types;
      at = a + 1;
      is_form = (omega arith, w);
      bytes = (c ∙ ap Some (omega arith), refl);
    }

-- bytes below 176 begin a form
begins_low : (m : MemoryMap) (a b : ℕ) → b < 176 → cell_at m a ≡ Some b → Begins m a
begins_low m a b lt c =
    elim (cases_lt b 128) [
      | inl h ↦
          let j = long_type (b / 64 % 2) (omega arith) in
          let k = long_type (b / 32 % 2) (omega arith) in
          let e : b ≡ 64 * type_bit (type_by_bit (b / 64 % 2)) + 32 * type_bit (type_by_bit (b / 32 % 2)) + b
          % 32 = rw (j.1, k.1) (omega arith) in
          record {
            form = Long2OP (b % 32) (type_by_bit (b / 64 % 2)) (type_by_bit (b / 32 % 2));
            at = a + 1;
            is_form = (omega arith, j.0, k.0);
            bytes = (c ∙ ap Some e, refl);
          }
      | inr h ↦
          let k = given_type (b / 16 % 4) (omega arith) in
          let e : b ≡ 128 + 16 * type_bits (type_by_bits (b / 16 % 4)) + b
          % 16 = rw (bits_of_type (b / 16 % 4) (omega arith)) (omega arith) in
          record {
            form = Short1OP (b % 16) (type_by_bits (b / 16 % 4));
            at = a + 1;
            is_form = (omega arith, k);
            bytes = (c ∙ ap Some e, refl);
          }
    ]

-- bytes from 192 on begin a form
begins_high : (m : MemoryMap) (a b : ℕ) → 192 ≤ b → b < 256 → cell_at m a ≡ Some b → Begins m a
begins_high m a b le lt c =
    elim (cases_lt b 224) [
      | inl h ↦ record {
        form = Variable2OP (b % 32) no_types;
        at = a + 1;
        is_form = omega arith;
        bytes = (c ∙ ap Some (omega arith), refl);
      }
      | inr h ↦ begins_variable_var m a b (has_two_type_bytes (b % 32)) refl h lt c
    ]

-- bytes from 176 to 191 begin a form, but for 190 from version 5 on
begins_0op : (m : MemoryMap) (a b : ℕ) → 176 ≤ b → b < 192 → (b ≡ 190 → m.version < 5) → cell_at m a ≡ Some b
    → Begins m a
begins_0op m a b le lt v c =
    record {
      form = Short0OP (b % 16);
      at = a + 1;
      is_form = (omega arith, λ e. v (omega arith));
      bytes = (c ∙ ap Some (omega arith), refl);
    }

-- an extended opcode without its second byte
extended_short : (m : MemoryMap) (a : ℕ) (d : Fault) → 5 ≤ m.version → code_byte m (a + 1) ≡ Err d
    → head_by m a 190 ≡ Err d
unfolding head_by extended_at
extended_short m a d h e =
    let t3 : nat_le 5 m.version ≡ true = grind (arith, nat_tests) in
    rw (t3, e) refl

-- 190 begins a form where a byte follows
begins_extended : (m : MemoryMap) (a : ℕ) (r : Result ℕ Fault) → code_byte m (a + 1) ≡ r → 5 ≤ m.version
    → cell_at m a ≡ Some 190 → ((head_by m a 190 ≡ Err CodePastEnd) × (length m.bytes ≤ a + 1)) ⊎ Begins m a
begins_extended m a (Ok n) e v c =
    inr (record {
      form = Extended n no_types;
      at = a + 1 + 1;
      is_form = v;
      bytes = (c, (byte_takes m (a + 1) n e, refl));
    })
begins_extended m a (Err d) e v c =
    inl (rw (← byte_err m (a + 1) d e) (extended_short m a d v e), byte_inside m (a + 1) d e)

-- each byte begins a form, or lacks its second byte
begins_byte : (m : MemoryMap) (a b : ℕ) → b < 256 → cell_at m a ≡ Some b
    → ((head_by m a b ≡ Err CodePastEnd) × (length m.bytes ≤ a + 1)) ⊎ Begins m a
begins_byte m a b lt c =
    elim (cases_lt b 176) [
      | inl h ↦ inr (begins_low m a b h c)
      | inr h ↦ elim (cases_lt b 192) [
        | inr k ↦ inr (begins_high m a b k lt c)
        | inl k ↦ elim (cases_eq b 190) [
          | inr n ↦ inr (begins_0op m a b h k (λ e. absurd (n e)) c)
          | inl e ↦ elim (cases_lt m.version 5) [
            | inl v ↦ inr (begins_0op m a b h k (λ _. v) c)
            | inr v ↦ rw e (begins_extended m a (code_byte m (a + 1)) refl v (rw e at c))
          ]
        ]
      ]
    ]

-- so does each that is read
begins_read : (m : MemoryMap) (a : ℕ) (r : Result ℕ Fault) → HasBytes m → code_byte m a ≡ r
    → ((head_at m a ≡ Err CodePastEnd) × (length m.bytes ≤ a + 1)) ⊎ Begins m a
unfolding head_at
begins_read m a (Ok b) fits e = let c = byte_takes m a b e in rw e (begins_byte m a b (fits.below a b c) c)
begins_read m a (Err d) fits e = inl (rw (e, byte_err m a d e) refl, (let le = byte_inside m a d e in omega arith))

-- at each address a form begins, or a byte lacks
pub begins : (m : MemoryMap) (a : ℕ) → HasBytes m → ((head_at m a ≡ Err CodePastEnd) × (length m.bytes ≤ a + 1))
    ⊎ Begins m a
begins m a fits = begins_read m a (code_byte m a) fits refl

-- ---- after the opcode's bytes

-- operands are read alike by two lists of types
abbrev Same : MemoryMap → List OperandType → List OperandType → Type 0
Same m ks ls = (c : ℕ) → operands_at m ks c ≡ operands_at m ls c

-- what is read of the form is spelled so
pub record SpelledHead (m : MemoryMap) (a : ℕ) (h : Head) : Type 0 where
  pub form : Form
  pub is_form : IsForm m.version form
  pub listed : entry_of m.version form ≡ Some h.entry
  pub bytes : Stands m a (opcode_bytes form ++ type_bytes form) h.next
  pub same : (c : ℕ) → operands_at m h.types c ≡ operands_at m (types_of form) c

-- what is read of a head with types
with_types_read : {F : Fault → Type 0} (op : Option OpcodeRow) (j k : OperandType) (b : ℕ) → (op ≡ None → F BadOpcode) →
    Reads (λ (h : Head). (op ≡ Some h.entry) × (h.types ≡ j ∷ k ∷ Omitted ∷ Omitted ∷ four_omitted)
    × (b ≡ h.next)) F (with_types op j k b)
unfolding with_types
with_types_read op j k b none = read_then _ _ (read_or BadOpcode op (λ o e. e) none) (λ o e. read_ok (e, refl, refl))

-- what is read of a head with type bytes
with_type_bytes_read : {Q : List OperandType × ℕ → Type 0} {F : Fault → Type 0} (m : MemoryMap)
    (op : Option OpcodeRow) (two : Bool) (b : ℕ) → (op ≡ None → F BadOpcode) → Reads Q F (types_at m two b) →
    Reads (λ (h : Head). (op ≡ Some h.entry) × Q (h.types, h.next)) F (with_type_bytes m op two b)
unfolding with_type_bytes
with_type_bytes_read m op two b none types =
    read_then _ _ (read_or BadOpcode op (λ o e. e) none) (λ o e. read_then _ _ types (λ t q. read_ok (e, q)))

-- four types, padded to eight
pad_four : (m : MemoryMap) (ks : List OperandType) (t : FourTypes) → ks ≡ four_types t ++ four_omitted
    → Same m ks (four_types t)
pad_four m ks t e c = rw e (operands_pad m (four_types t) (Omitted ∷ Omitted ∷ Omitted ∷ []) c)

-- a head of two types at most, that is read, is spelled so
types_spelled : (m : MemoryMap) (f : Form) (a b : ℕ) (h : Head) → IsForm m.version f
    → entry_of m.version f ≡ Some h.entry → Stands m a (opcode_bytes f) b → Stands m b (type_bytes f) h.next
    → ((c : ℕ) → operands_at m h.types c ≡ operands_at m (types_of f) c) → SpelledHead m a h
types_spelled m f a b h is_form listed s t same =
    record {
      form = f;
      is_form = is_form;
      listed = listed;
      bytes = stands_join m (opcode_bytes f) (type_bytes f) a b
          h.next s t;
      same = same;
    }

-- what is read of a form is spelled so
form_read : {F : Fault → Type 0} (m : MemoryMap) (f : Form) (a b : ℕ) → HasBytes m → IsForm m.version f
    → Stands m a (opcode_bytes f) b → (entry_of m.version f ≡ None → F BadOpcode)
    → (length m.bytes ≤ b + 1 → F CodePastEnd) →
    Reads (SpelledHead m a) F (rest_of m f b)
form_read m (Long2OP n j k) a b fits f s none lack =
    read_more (with_types_read (two_operand m.version n) j k b none)
    (λ h r. types_spelled m (Long2OP n j k) a b h f r.0 s r.2
    (λ c. rw r.1 (operands_pad m (j ∷ k ∷ []) (Omitted ∷ four_omitted) c)))
form_read m (Short1OP n k) a b fits f s none lack =
    read_more (with_types_read (one_operand m.version n) k Omitted b none)
    (λ h r. types_spelled m (Short1OP n k) a b h f r.0 s r.2
    (λ c. rw r.1 (operands_pad m (k ∷ []) (Omitted ∷ Omitted ∷ four_omitted) c)))
form_read m (Short0OP n) a b fits f s none lack =
    read_more (with_types_read (zero_operand m.version n) Omitted Omitted b none)
    (λ h r. types_spelled m (Short0OP n) a b h f r.0 s r.2
    (λ c. rw r.1 (operands_pad m [] (Omitted ∷ Omitted ∷ Omitted ∷ four_omitted) c)))
form_read m (Extended n t) a b fits f s none lack =
    read_more (with_type_bytes_read m (extended m.version n) false b none
    (one_read m b fits (λ le. lack (omega arith))))
    (λ h r. types_spelled m (Extended n r.1.0) a b h f r.0 s r.1.2 (pad_four m h.types r.1.0 r.1.1))
form_read m (Variable2OP n t) a b fits f s none lack =
    read_more (with_type_bytes_read m (two_operand m.version n) false b none
    (one_read m b fits (λ le. lack (omega arith))))
    (λ h r. types_spelled m (Variable2OP n r.1.0) a b h f r.0 s r.1.2 (pad_four m h.types r.1.0 r.1.1))
form_read m (VariableVAR n t) a b fits f s none lack =
    read_more (with_type_bytes_read m (variable_operand m.version n) false b none
    (one_read m b fits (λ le. lack (omega arith))))
    (λ h r. types_spelled m (VariableVAR n r.1.0) a b h f r.0 s r.1.2 (pad_four m h.types r.1.0 r.1.1))
form_read m (DoubleVariable n t w) a b fits f s none lack =
    read_more (with_type_bytes_read m (variable_operand m.version n) true b none (two_read m b fits lack))
    (λ h r. types_spelled m (DoubleVariable n r.1.0 r.1.1) a b h f r.0 s r.1.3
    (λ c. ap (λ (ks : List OperandType). operands_at m ks c) r.1.2))

-- what is spelled so is read
pub record ReadHead (m : MemoryMap) (a : ℕ) (o : OpcodeRow) (ks : List OperandType) (b : ℕ) : Type 0 where
  pub types : List OperandType
  pub read : head_at m a ≡ Ok (record { entry = o; types = types; next = b })
  pub same : (c : ℕ) → operands_at m types c ≡ operands_at m ks c

-- a form that is spelled is read
pub form_again : (m : MemoryMap) (f : Form) (a p b : ℕ) (o : OpcodeRow) → head_at m a ≡ rest_of m f p
    → entry_of m.version f ≡ Some o → Stands m p (type_bytes f) b → ReadHead m a o (types_of f) b
unfolding with_types with_type_bytes
form_again m (Long2OP n j k) a p b o e q s =
    record { types = _; read = e ∙ rw (q, s) refl; same = λ c. operands_pad m (j ∷ k ∷ []) (Omitted ∷ four_omitted) c }
form_again m (Short1OP n k) a p b o e q s =
    record {
      types = _;
      read = e ∙ rw (q, s) refl;
      same = λ c. operands_pad m (k ∷ [])
          (Omitted ∷ Omitted ∷ four_omitted) c;
    }
form_again m (Short0OP n) a p b o e q s =
    record {
      types = _;
      read = e ∙ rw (q, s) refl;
      same = λ c. operands_pad m []
          (Omitted ∷ Omitted ∷ Omitted ∷ four_omitted) c;
    }
form_again m (Extended n t) a p b o e q s =
    record {
      types = _;
      read = e ∙ rw (q, one_again m p t b s) refl;
      same = pad_four m (four_types t ++ four_omitted) t refl;
    }
form_again m (Variable2OP n t) a p b o e q s =
    record {
      types = _;
      read = e ∙ rw (q, one_again m p t b s) refl;
      same = pad_four m (four_types t ++ four_omitted) t refl;
    }
form_again m (VariableVAR n t) a p b o e q s =
    record {
      types = _;
      read = e ∙ rw (q, one_again m p t b s) refl;
      same = pad_four m (four_types t ++ four_omitted) t refl;
    }
form_again m (DoubleVariable n t u) a p b o e q s =
    record { types = four_types t ++ four_types u; read = e ∙ rw (q, two_again m p t u b s) refl; same = λ c. refl }

-- a form without an entry
form_none : (m : MemoryMap) (f : Form) (b : ℕ) → entry_of m.version f ≡ None → rest_of m f b ≡ Err BadOpcode
unfolding with_types with_type_bytes
form_none m (Long2OP n j k) b e = rw e refl
form_none m (Short1OP n k) b e = rw e refl
form_none m (Short0OP n) b e = rw e refl
form_none m (Extended n t) b e = rw e refl
form_none m (Variable2OP n t) b e = rw e refl
form_none m (VariableVAR n t) b e = rw e refl
form_none m (DoubleVariable n t u) b e = rw e refl

-- ---- the whole head

-- an opcode has two bytes at most
opcode_short : (f : Form) → length (opcode_bytes f) ≤ 2
opcode_short (Long2OP n j k) = omega arith
opcode_short (Short1OP n k) = omega arith
opcode_short (Short0OP n) = omega arith
opcode_short (Extended n t) = omega arith
opcode_short (Variable2OP n t) = omega arith
opcode_short (VariableVAR n t) = omega arith
opcode_short (DoubleVariable n t u) = omega arith

-- a head has four bytes and eight types at most
pub head_short : (f : Form) → (length (opcode_bytes f ++ type_bytes f) ≤ 4) × (length (types_of f) ≤ 8)
head_short (Long2OP n j k) = omega arith
head_short (Short1OP n k) = omega arith
head_short (Short0OP n) = omega arith
head_short (Extended n t) = omega arith
head_short (Variable2OP n t) = omega arith
head_short (VariableVAR n t) = omega arith
head_short (DoubleVariable n t u) = omega arith

-- a head that is read is spelled so
pub head_read : {F : Fault → Type 0} (m : MemoryMap) (a : ℕ) → HasBytes m → (NamesNone m a → F BadOpcode)
    → (length m.bytes ≤ a + 3 → F CodePastEnd) → Reads (SpelledHead m a) F (head_at m a)
head_read m a fits bad lack =
    elim (begins m a fits) [
      | inl p ↦ read_as p.0 (read_err (lack (omega (arith, p.1))))
      | inr p ↦
          let long = stands_long m (opcode_bytes p.form) a p.at p.bytes in
          let short = opcode_short p.form in
          read_as (opcode_again m p.form a p.at p.is_form p.bytes)
          (form_read m p.form a p.at fits p.is_form p.bytes
          (λ none. bad (p.form, p.at, p.is_form, p.bytes, none)) (λ le. lack (omega arith)))
    ]

-- a head that is spelled is read
pub head_again : (m : MemoryMap) (f : Form) (a p b : ℕ) (o : OpcodeRow) → IsForm m.version f
    → entry_of m.version f ≡ Some o → Stands m a (opcode_bytes f) p → Stands m p (type_bytes f) b
    → ReadHead m a o (types_of f) b
head_again m f a p b o i n s t = form_again m f a p b o (opcode_again m f a p i s) n t

-- an opcode that is not there is bad
pub head_none : (m : MemoryMap) (a : ℕ) → NamesNone m a → head_at m a ≡ Err BadOpcode
head_none m a n = opcode_again m n.0 a n.1 n.2 n.3 ∙ form_none m n.0 n.1 n.4
