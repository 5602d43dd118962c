-- The fields after the head: what is read is spelled so, and what is spelled so is read.
use Rattle.std.proofs.Common.{◌≡◌, ℕ, ◌+◌, ◌*◌, ◌/◌, ◌%◌, ◌<◌, ◌≤◌, Bool, true, false, List, [], ◌∷◌, ◌++◌, length, map}
use Rattle.std.proofs.Common.{Option, Some, None, Ok, refl, sym, ap, ◌∙◌, arith}
use Rattle.std.specs.Prelude.{is_some, nat_le, nat_lt}
use Rattle.std.specs.List.{flat_map}
use Rattle.std.proofs.lemmas.Bool.Decides.{nat_tests}
use Rattle.std.proofs.lemmas.List.{length-append}
use Rattle.zk_mem.specs.declared.fault.Fault.{Fault}
use Rattle.zk_mem.specs.declared.fault.Fault.TheVariants.{CodePastEnd}
use Rattle.zk_mem.specs.Map.{MemoryMap, cell_at, HasBytes}
use Rattle.zk_mem.specs.Words.{text_end_at}
use Rattle.zk_code.specs.declared.operands.Operand.{Operand}
use Rattle.zk_code.specs.declared.operands.Operand.TheVariants.{Large, Small, Variable}
use Rattle.zk_code.specs.declared.operands.OperandType.{OperandType}
use Rattle.zk_code.specs.declared.operands.OperandType.TheVariants.{LargeConstant, SmallConstant, VariableNumber}
use Rattle.zk_code.specs.declared.operands.OperandType.TheVariants.{Omitted}
use Rattle.zk_code.specs.declared.branch.Branch.{Branch}
use Rattle.zk_code.specs.declared.table.Follows.{Follows}
use Rattle.zk_code.specs.Table.{stores, branches, has_text}
use Rattle.zk_code.specs.Operands.{type_of, is_omitted}
use Rattle.zk_code.specs.Targets.{branch_target}
use Rattle.zk_code.specs.Reading.{code_byte, operand_at, operands_at, store_at, branch_by, branch_here, branch_at}
use Rattle.zk_code.specs.Reading.{text_at}
use Rattle.zk_code.specs.Grammar.{Stands, IsEnd, AreOf, operand_bytes, store_bytes, BranchData, NoBranch, OneByte}
use Rattle.zk_code.specs.Grammar.{TwoBytes, IsBranchData, on_bit, branch_bytes, branch_of, IsTextAt, word}
use Rattle.zk_code.proofs.Texts.{text_end_takes, text_end_again}
use Rattle.zk_code.proofs.Standing.{stands_join, stands_split, stands_long, byte_again, word_again}
use Rattle.zk_code.proofs.Steps.{Reads, read_ok, read_then, read_if, read_or, read_byte, read_word}

-- ---- one operand

-- an operand that is read is spelled so
operand_read : {F : Fault → Type 0} (m : MemoryMap) (t : OperandType) (a : ℕ) → HasBytes m → is_omitted t ≡ false
    → (length m.bytes ≤ a + 1 → F CodePastEnd) →
    Reads (λ (x : Operand × ℕ). (t ≡ type_of x.0) × Stands m a (operand_bytes x.0) x.1) F (operand_at m t a)
unfolding operand_at
operand_read m LargeConstant a fits given lack = read_then _ _ (read_word m a fits lack) (λ v s. read_ok (refl, s))
operand_read m SmallConstant a fits given lack =
    read_then _ _ (read_byte m a (λ le. lack (omega arith))) (λ v c. read_ok (refl, (c, refl)))
operand_read m VariableNumber a fits given lack =
    read_then _ _ (read_byte m a (λ le. lack (omega arith))) (λ v c. read_ok (refl, (c, refl)))
operand_read m Omitted a fits given lack = absurd cc

-- an operand that is spelled is read
operand_again : (m : MemoryMap) (a : ℕ) (o : Operand) (b : ℕ) → Stands m a (operand_bytes o) b
    → operand_at m (type_of o) a ≡ Ok (o, b)
unfolding operand_at
operand_again m a (Large v) b h = let e : a + 2 ≡ b = omega (arith, h.1.1) in rw (word_again m a v b h, e) refl
operand_again m a (Small v) b h = rw (byte_again m a v h.0, h.1) refl
operand_again m a (Variable v) b h = rw (byte_again m a v h.0, h.1) refl

-- an operand is not omitted
given_again : (o : Operand) → is_omitted (type_of o) ≡ false
given_again (Large v) = refl
given_again (Small v) = refl
given_again (Variable v) = refl

-- ---- the operands

-- there is one omitted type
omitted_is : (t : OperandType) → is_omitted t ≡ true → t ≡ Omitted
omitted_is LargeConstant e = absurd cc
omitted_is SmallConstant e = absurd cc
omitted_is VariableNumber e = absurd cc
omitted_is Omitted e = refl

-- an operand has two bytes at most
operand_long : (o : Operand) → length (operand_bytes o) ≤ 2
operand_long (Large v) = omega arith
operand_long (Small v) = omega arith
operand_long (Variable v) = omega arith

-- operands have twice as many bytes at most
pub operands_long : (os : List Operand) → length (flat_map operand_bytes os) ≤ 2 * length os
operands_long [] = omega arith
operands_long (o ∷ os) =
    omega (arith, operand_long o, operands_long os, length-append (operand_bytes o) (flat_map operand_bytes os))

-- operands that are read are spelled so
pub operands_read : {F : Fault → Type 0} (m : MemoryMap) (ts : List OperandType) (a : ℕ) → HasBytes m
    → (length m.bytes ≤ a + 2 * length ts → F CodePastEnd) →
    Reads (λ (x : List Operand × ℕ). AreOf ts x.0 × Stands m a (flat_map operand_bytes x.0) x.1) F (operands_at m ts a)
unfolding operands_at
operands_read m [] a fits lack = read_ok (([], refl, tt), refl)
operands_read m (t ∷ ts) a fits lack =
    read_if (is_omitted t) _ _
    (λ omitted. read_ok ((t ∷ ts, refl, omitted_is t omitted), refl))
    (λ given. read_then _ _ (operand_read m t a fits given (λ le. lack (omega arith))) (λ o first.
    (let long = stands_long m (operand_bytes o.0) a o.1 first.1 in
    let short = operand_long o.0 in
    read_then _ _ (operands_read m ts o.1 fits (λ le. lack (omega arith))) (λ os second.
    (let types : t ∷ ts ≡ type_of o.0 ∷ (map type_of os.0 ++ second.0.0) = rw (← first.0, ← second.0.1) refl in
    read_ok (
      (second.0.0, types, second.0.2),
      stands_join m (operand_bytes o.0) (flat_map operand_bytes os.0) a
          o.1 os.1 first.1 second.1,
    ))))))

-- at the end no operand is read
end_again : (m : MemoryMap) (rest : List OperandType) (a : ℕ) → IsEnd rest → operands_at m rest a ≡ Ok ([], a)
unfolding operands_at
end_again m [] a h = refl
end_again m (t ∷ ts) a h = rw h refl

-- operands that are spelled are read, by their own types
listed_again : (m : MemoryMap) (os : List Operand) (rest : List OperandType) (a b : ℕ) → IsEnd rest
    → Stands m a (flat_map operand_bytes os) b → operands_at m (map type_of os ++ rest) a ≡ Ok (os, b)
unfolding operands_at
listed_again m [] rest a b f h = rw (end_again m rest a f, h) refl
listed_again m (o ∷ os) rest a b f h =
    let s = stands_split m (operand_bytes o) (flat_map operand_bytes os) a b h in
    rw (given_again o, operand_again m a o s.0 s.1, listed_again m os rest s.0 b f s.2) refl

-- operands that are spelled are read
pub operands_again : (m : MemoryMap) (ts : List OperandType) (a : ℕ) (os : List Operand) (b : ℕ) → AreOf ts os
    → Stands m a (flat_map operand_bytes os) b → operands_at m ts a ≡ Ok (os, b)
operands_again m ts a os b f h = rw f.1 (listed_again m os f.0 a b f.2 h)

-- ---- the store variable

-- a store variable that is read is spelled so
pub store_read : {F : Fault → Type 0} (m : MemoryMap) (f : Follows) (a : ℕ) → (length m.bytes ≤ a → F CodePastEnd) →
    Reads (λ (x : Option ℕ × ℕ). (is_some x.0 ≡ stores f) × Stands m a (store_bytes x.0) x.1) F (store_at m f a)
unfolding store_at
store_read m f a lack =
    read_if (stores f) _ _
    (λ t. read_then _ _ (read_byte m a lack) (λ v c. read_ok (sym t, (c, refl))))
    (λ t. read_ok (sym t, refl))

-- a store variable that is spelled is read
pub store_again : (m : MemoryMap) (f : Follows) (a : ℕ) (v : Option ℕ) (b : ℕ) → is_some v ≡ stores f
    → Stands m a (store_bytes v) b → store_at m f a ≡ Ok (v, b)
unfolding store_at
store_again m f a None b e h = rw (← e, h) refl
store_again m f a (Some v) b e h = rw (← e, byte_again m a v h.0, h.1) refl

-- ---- the branch

-- bit 7 and the others make a byte
on_split : (b : ℕ) → b < 256 → on_bit (nat_le 128 b) + b % 128 ≡ b
on_split b h = elim (nat_le 128 b) as (λ t. nat_le 128 b ≡ t → on_bit t + b % 128 ≡ b) [
  | true ↦ λ e. (let le : 128 ≤ b = grind (arith, nat_tests) in omega arith)
  | false ↦ λ e. (let lt : b < 128 = grind (arith, nat_tests) in omega arith)
] refl

-- what is read of a branch, by its data
pub record Branched (m : MemoryMap) (a : ℕ) (v : Option Branch) (b : ℕ) : Type 0 where
  pub branch_data : BranchData
  pub is_branch_data : IsBranchData branch_data
  pub branch : v ≡ branch_of (length m.bytes) b branch_data
  pub bytes : Stands m a (branch_bytes branch_data) b

-- a branch that is read is spelled so, by its first byte
branch_by_read : {F : Fault → Type 0} (m : MemoryMap) (a b : ℕ) → HasBytes m → cell_at m a ≡ Some b
    → (length m.bytes ≤ a + 1 → F CodePastEnd) →
    Reads (λ (x : Branch × ℕ). Branched m a (Some x.0) x.1) F (branch_by m a b)
unfolding branch_by
branch_by_read m a b fits c lack =
    let small = fits.below a b c in
    let split = on_split b small in
    read_if (nat_lt (b % 128) 64) _ _
    (λ test. (let near : b % 128 < 64 = grind (arith, nat_tests) in
    read_then _ _ (read_byte m (a + 1) lack) (λ low c1.
    (let low_small = fits.below (a + 1) low c1 in
    let first : b ≡ on_bit (nat_le 128 b) + (256 * (b % 64) + low) / 256 = omega arith in
    let second : low ≡ (256 * (b % 64) + low) % 256 = omega arith in
    read_ok (record {
      branch_data = TwoBytes (nat_le 128 b) (256 * (b % 64) + low);
      is_branch_data = omega arith;
      branch = refl;
      bytes = (c ∙ ap Some first, (c1 ∙ ap Some second, omega arith));
    })))))
    (λ test. (let far : 64 ≤ b % 128 = grind (arith, nat_tests) in
    let first : b ≡ on_bit (nat_le 128 b) + 64 + b % 64 = omega arith in
    read_ok (record {
      branch_data = OneByte (nat_le 128 b) (b % 64);
      is_branch_data = omega arith;
      branch = refl;
      bytes = (c ∙ ap Some first, refl);
    })))

-- a branch that is read is spelled so, from its first byte on
branch_here_read : {F : Fault → Type 0} (m : MemoryMap) (a : ℕ) → HasBytes m
    → (length m.bytes ≤ a + 1 → F CodePastEnd) →
    Reads (λ (x : Branch × ℕ). Branched m a (Some x.0) x.1) F (branch_here m a)
unfolding branch_here
branch_here_read m a fits lack =
    read_then _ _ (read_byte m a (λ le. lack (omega arith))) (λ b c. branch_by_read m a b fits c lack)

-- a branch that is read is spelled so
pub branch_read : {F : Fault → Type 0} (m : MemoryMap) (f : Follows) (a : ℕ) → HasBytes m
    → (length m.bytes ≤ a + 1 → F CodePastEnd) →
    Reads (λ (x : Option Branch × ℕ). (is_some x.0 ≡ branches f) × Branched m a x.0 x.1) F (branch_at m f a)
unfolding branch_at
branch_read m f a fits lack =
    read_if (branches f) _ _
    (λ t. read_then _ _ (branch_here_read m a fits lack) (λ r s. read_ok (sym t, s)))
    (λ t. read_ok (sym t, record { branch_data = NoBranch; is_branch_data = tt; branch = refl; bytes = refl }))

-- its data has two bytes at most
pub branch_long : (d : BranchData) → length (branch_bytes d) ≤ 2
branch_long NoBranch = omega arith
branch_long (OneByte on offset) = omega arith
branch_long (TwoBytes on offset) = omega arith

-- the parts of a byte of one
one_again : (on : Bool) (v : ℕ) → v < 64 → (nat_lt ((on_bit on + 64 + v) % 128) 64 ≡ false)
    × (nat_le 128 (on_bit on + 64 + v) ≡ on) × ((on_bit on + 64 + v) % 64 ≡ v)
one_again true v h = (grind (arith, nat_tests), grind (arith, nat_tests), omega arith)
one_again false v h = (grind (arith, nat_tests), grind (arith, nat_tests), omega arith)

-- the parts of two bytes
two_again : (on : Bool) (v : ℕ) → v < 16384 → (nat_lt ((on_bit on + v / 256) % 128) 64 ≡ true)
    × (nat_le 128 (on_bit on + v / 256) ≡ on) × (256 * ((on_bit on + v / 256) % 64) + v % 256 ≡ v)
two_again true v h = (grind (arith, nat_tests), grind (arith, nat_tests), omega arith)
two_again false v h = (grind (arith, nat_tests), grind (arith, nat_tests), omega arith)

-- a branch that is spelled is read by its first byte
abbrev ReadBy : MemoryMap → ℕ → Branch → ℕ → Type 0
ReadBy m a v b = (c : ℕ) × (code_byte m a ≡ Ok c) × (branch_by m a c ≡ Ok (v, b))

-- a branch of one byte is read
one_byte_again : (m : MemoryMap) (a : ℕ) (on : Bool) (offset b : ℕ) → offset < 64
    → Stands m a (branch_bytes (OneByte on offset)) b
    → ReadBy m a (record { on = on; target = branch_target (length m.bytes) b offset }) b
unfolding branch_by
one_byte_again m a on offset b w h =
    let n = one_again on offset w in
    (on_bit on + 64 + offset, byte_again m a (on_bit on + 64 + offset) h.0, rw (n.0, n.1, n.2, h.1) refl)

-- a branch of two bytes is read
two_bytes_again : (m : MemoryMap) (a : ℕ) (on : Bool) (offset b : ℕ) → offset < 16384
    → Stands m a (branch_bytes (TwoBytes on offset)) b
    → ReadBy m a (record { on = on; target = branch_target (length m.bytes) b offset }) b
unfolding branch_by
two_bytes_again m a on offset b w h =
    let n = two_again on offset w in
    let e : a + 2 ≡ b = omega (arith, h.1.1) in (
      on_bit on + offset / 256,
      byte_again m a (on_bit on + offset / 256) h.0,
      rw (n.0, byte_again m (a + 1) (offset % 256) h.1.0, n.1, n.2, e) refl,
    )

-- a branch is read where one follows
some_again : (m : MemoryMap) (f : Follows) (a : ℕ) (v : Branch) (b : ℕ) → branches f ≡ true → ReadBy m a v b
    → branch_at m f a ≡ Ok (Some v, b)
unfolding branch_at branch_here
some_again m f a v b e s = rw (e, s.1, s.2) refl

-- no branch is read where none follows
none_again : (m : MemoryMap) (f : Follows) (a b : ℕ) → branches f ≡ false → a ≡ b → branch_at m f a ≡ Ok (None, b)
unfolding branch_at
none_again m f a b e h = rw (e, h) refl

-- a branch is read by its data
data_again : (m : MemoryMap) (f : Follows) (d : BranchData) (a b : ℕ)
    → is_some (branch_of (length m.bytes) b d) ≡ branches f → IsBranchData d → Stands m a (branch_bytes d) b
    → branch_at m f a ≡ Ok (branch_of (length m.bytes) b d, b)
data_again m f NoBranch a b e w h = none_again m f a b (sym e) h
data_again m f (OneByte on offset) a b e w h = some_again m f a _ b (sym e) (one_byte_again m a on offset b w h)
data_again m f (TwoBytes on offset) a b e w h = some_again m f a _ b (sym e) (two_bytes_again m a on offset b w h)

-- a branch that is spelled is read
pub branch_again : (m : MemoryMap) (f : Follows) (d : BranchData) (a : ℕ) (v : Option Branch) (b : ℕ)
    → is_some v ≡ branches f → IsBranchData d → v ≡ branch_of (length m.bytes) b d → Stands m a (branch_bytes d) b
    → branch_at m f a ≡ Ok (v, b)
branch_again m f d a v b e w is h = rw is (data_again m f d a b (rw is at e) w h)

-- ---- the text

-- a text that is read is spelled so
pub text_read : {F : Fault → Type 0} (m : MemoryMap) (f : Follows) (a : ℕ) → HasBytes m
    → (text_end_at m a ≡ None → F CodePastEnd) →
    Reads (λ (x : Option ℕ × ℕ). (is_some x.0 ≡ has_text f)
    × ((ws : List ℕ) × IsTextAt x.0 ws a × Stands m a (flat_map word ws) x.1)) F (text_at m f a)
unfolding text_at
text_read m f a fits lack =
    read_if (has_text f) _ _
    (λ t. read_then _ _ (read_or CodePastEnd (text_end_at m a) (λ end e. text_end_takes m a end fits e) lack)
    (λ end s. read_ok (sym t, (s.0, (s.1, refl), s.2))))
    (λ t. read_ok (sym t, ([], refl, refl)))

-- a text that is spelled is read
pub text_again : (m : MemoryMap) (f : Follows) (a : ℕ) (v : Option ℕ) (ws : List ℕ) (b : ℕ)
    → is_some v ≡ has_text f → IsTextAt v ws a → Stands m a (flat_map word ws) b → text_at m f a ≡ Ok (v, b)
unfolding text_at
text_again m f a None [] b e t h = rw (← e, h) refl
text_again m f a None (w ∷ ws) b e t h = absurd cc
text_again m f a (Some p) ws b e t h = rw (← e, text_end_again m a b ws t.0 h, t.1) refl
