-- What a write leaves as it was.
use Rattle.std.specs.Prelude.{slice_set, if◌then◌else◌, slice_get}
use Rattle.std.proofs.Common.{◌≡◌, ◌≢◌, ◌≤◌, ◌<◌, ◌⊎◌, inl, inr, ◌∙◌, ℕ, zero, suc, ◌+◌, ◌*◌, ◌/◌, ◌%◌, Bool, true}
use Rattle.std.proofs.Common.{false, List, [], ◌∷◌, length, get_or, Ok, Err, nat_lt, min, arith, refl, ap, subst}
use Rattle.std.proofs.lemmas.Bool.Decides.{nat_tests}
use Rattle.std.proofs.lemmas.List.{get_or-set_same, get_or-set_other}
use Rattle.std.proofs.Math.ListN.{length-set}
use Rattle.zk_mem.specs.declared.fault.Fault.TheVariants.{BadAddress, ReadOnly}
use Rattle.zk_mem.specs.Map.{MemoryMap, readable_end, byte_at, word_at, byte_put, word_put, cell_at, with_byte}
use Rattle.zk_mem.specs.Laws.{WritesByte, WritesWord, ByteIsWritten, WordIsWritten}

-- items beside the one that is set
other_item : (xs : List ℕ) (i j v : ℕ) → j ≢ i → slice_get (slice_set xs i v) j ≡ slice_get xs j
other_item [] i j v h = refl
other_item (x ∷ xs) zero zero v h = absurd (h refl)
other_item (x ∷ xs) zero (suc j) v h = refl
other_item (x ∷ xs) (suc i) zero v h = refl
other_item (x ∷ xs) (suc i) (suc j) v h = other_item xs i j v (λ e. h (ap suc e))

-- outside of one byte
beside : (a c : ℕ) → (c < a) ⊎ (a + 1 ≤ c) → c ≢ a
beside a c (inl low) = λ e. omega arith
beside a c (inr high) = λ e. omega arith

beside_first : (a c : ℕ) → (c < a) ⊎ (a + 2 ≤ c) → c ≢ a
beside_first a c (inl low) = λ e. omega arith
beside_first a c (inr high) = λ e. omega arith

beside_second : (a c : ℕ) → (c < a) ⊎ (a + 2 ≤ c) → c ≢ a + 1
beside_second a c (inl low) = λ e. omega arith
beside_second a c (inr high) = λ e. omega arith

-- where a test lets a write pass, it was made
pub put_where : (b c : Bool) (m n : MemoryMap)
    → (if b then (if c then Ok m else Err ReadOnly) else Err BadAddress) ≡ Ok n → (b ≡ true) × (c ≡ true) × (m ≡ n)
put_where true true m n h = (refl, refl, cc)
put_where true false m n h = absurd cc
put_where false c m n h = absurd cc

byte_there : (m : MemoryMap) (a v : ℕ) → a < readable_end m → a < m.static_base → WritesByte m (with_byte m a v) a v
unfolding byte_at cell_at
byte_there m a v inside dynamic =
    let long : a < length m.bytes = omega arith in
    let test : nat_lt a (min (length (slice_set m.bytes a v)) 65536)
    ≡ true = (rw (length-set m.bytes a v) (grind (arith, nat_tests))) in
    record {
      dynamic = dynamic;
      written = rw (test, get_or-set_same m.bytes a v 0 long) refl;
      alone = record {
        version = refl;
        static_base = refl;
        file = refl;
        setup = refl;
        size = length-set m.bytes a v;
        others = λ c out. other_item m.bytes a c v (beside a c out);
      };
    }

pub byte_is_written : ByteIsWritten
unfolding byte_put
byte_is_written m n a v h =
    let passed = put_where (nat_lt a (readable_end m)) (nat_lt a m.static_base) (with_byte m a v) n h in
    subst (λ (x : MemoryMap). WritesByte m x a v) passed.2
    (byte_there m a v (grind (arith, nat_tests, passed.0)) (grind (arith, nat_tests, passed.1)))

word_there : (m : MemoryMap) (a v : ℕ) → a + 1 < readable_end m → a + 1 < m.static_base
    → WritesWord m (with_byte (with_byte m a (v / 256)) (a + 1) (v % 256)) a v
unfolding word_at cell_at
word_there m a v inside dynamic =
    let long : a + 1 < length m.bytes = omega arith in
    let first = slice_set m.bytes a (v / 256) in
    let size : length (slice_set first (a + 1) (v % 256)) ≡ length m.bytes = length-set first (a + 1) (v % 256)
    ∙ length-set m.bytes a (v / 256) in
    let test : nat_lt (a + 1) (min (length (slice_set first (a + 1) (v % 256))) 65536)
    ≡ true = (rw size (grind (arith, nat_tests))) in
    let high : get_or (slice_set first (a + 1) (v % 256)) a 0 ≡ v / 256 = get_or-set_other first (a + 1) a
    (v % 256) 0 (λ e. omega arith) ∙ get_or-set_same m.bytes a (v / 256) 0 (omega arith) in
    let low : get_or (slice_set first (a + 1) (v % 256)) (a + 1) 0 ≡ v % 256 = get_or-set_same first (a + 1)
    (v % 256) 0 (omega (arith, length-set m.bytes a (v / 256))) in
    let word : 256 * (v / 256) + v % 256 ≡ v = omega arith in
    record {
      dynamic = dynamic;
      written = rw (test, high, low, word) refl;
      alone = record {
        version = refl;
        static_base = refl;
        file = refl;
        setup = refl;
        size = size;
        others = λ c out. other_item first (a + 1) c (v % 256) (beside_second a c out)
            ∙ other_item m.bytes a c (v / 256) (beside_first a c out);
      };
    }

pub word_is_written : WordIsWritten
unfolding word_put
word_is_written m n a v h =
    let passed = put_where (nat_lt (a + 1) (readable_end m)) (nat_lt (a + 1) m.static_base)
    (with_byte (with_byte m a (v / 256)) (a + 1) (v % 256)) n h in
    subst (λ (x : MemoryMap). WritesWord m x a v) passed.2
    (word_there m a v (grind (arith, nat_tests, passed.0)) (grind (arith, nat_tests, passed.1)))
