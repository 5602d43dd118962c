-- Bytes stored in a table, and when they can be.
use Rattle.std.proofs.Common.{◌≡◌, ◌≤◌, ◌<◌, ℕ, zero, suc, ◌+◌, ◌%◌, List, [], ◌∷◌, length, min, Ok, Err, IsOk, refl}
use Rattle.std.proofs.Common.{ap, arith, inl, inr}
use Rattle.std.proofs.lemmas.Bool.{cases_lt, lt-ltb, le-ltb}
use Rattle.std.proofs.Math.ListN.{length-set}
use Rattle.zk_mem.specs.declared.fault.Fault.TheVariants.{BadAddress, ReadOnly}
use Rattle.zk_mem.specs.Map.{MemoryMap, byte_put, readable_end, with_byte}
use Rattle.zk_tables.specs.Runs.{places, bytes_stored}

-- data ends where it did before
pub end_stays : (m : MemoryMap) (a v : ℕ) → readable_end (with_byte m a v) ≡ readable_end m
end_stays m a v = ap (λ (n : ℕ). min n 65536) (length-set m.bytes a v)

pub put_inside : (m : MemoryMap) (a v : ℕ) → a < readable_end m → a < m.static_base
    → byte_put m a v ≡ Ok (with_byte m a v)
unfolding byte_put
put_inside m a v inside dynamic = rw (lt-ltb a (readable_end m) inside, lt-ltb a m.static_base dynamic) refl

pub put_read_only : (m : MemoryMap) (a v : ℕ) → a < readable_end m → m.static_base ≤ a → byte_put m a v ≡ Err ReadOnly
unfolding byte_put
put_read_only m a v inside static = rw (lt-ltb a (readable_end m) inside, le-ltb a m.static_base static) refl

pub put_past : (m : MemoryMap) (a v : ℕ) → readable_end m ≤ a → byte_put m a v ≡ Err BadAddress
unfolding byte_put
put_past m a v outside = rw (le-ltb a (readable_end m) outside) refl

-- bytes can be stored where each place can be written
stores_each : (m : MemoryMap) (a n : ℕ) (bs : List ℕ) → length bs ≡ n
    → ((k : ℕ) → k < n → ((a + k) % 65536 < readable_end m) × ((a + k) % 65536 < m.static_base))
    → IsOk (bytes_stored m (places a n) bs)
unfolding places bytes_stored
stores_each m a zero bs size h = refl
stores_each m a (suc n) [] size h = absurd (omega arith)
stores_each m a (suc n) (b ∷ bs) size h =
    let same : a + 0 ≡ a = omega arith in
    let first = rw same at (h 0 (omega arith)) in
    rw (put_inside m (a % 65536) b first.0 first.1) (stores_each (with_byte m (a % 65536) b) (a + 1) n bs
    (omega arith) (λ k below.
    let next : a + 1 + k ≡ a + suc k = omega arith in
    let there = h (suc k) (omega arith) in
    rw (next, end_stays m (a % 65536) b) there))

pub stores_none : (m : MemoryMap) (a n : ℕ) (bs : List ℕ) → n ≡ 0 → length bs ≡ n
    → IsOk (bytes_stored m (places a n) bs)
stores_none m a n bs e size = stores_each m a n bs size (λ k below. absurd (omega arith))

pub stores_inside : (m : MemoryMap) (a n : ℕ) (bs : List ℕ) → a + n ≤ readable_end m → a + n ≤ m.static_base
    → length bs ≡ n → IsOk (bytes_stored m (places a n) bs)
stores_inside m a n bs inside dynamic size =
    let most : readable_end m ≤ 65536 = omega arith in
    stores_each m a n bs size (λ k below. (omega arith, omega arith))

pub stores_read_only : (m : MemoryMap) (a n : ℕ) (bs : List ℕ) → a < 65536 → m.static_base < 65536 → 0 < n
    → m.static_base < a + n → a < readable_end m → m.static_base < readable_end m → length bs ≡ n
    → bytes_stored m (places a n) bs ≡ Err ReadOnly
unfolding places bytes_stored
stores_read_only m a zero bs word low some past inside base size = absurd (omega arith)
stores_read_only m a (suc n) [] word low some past inside base size = absurd (omega arith)
stores_read_only m a (suc n) (b ∷ bs) word low some past inside base size =
    let here : a % 65536 ≡ a = omega arith in
    elim (cases_lt a m.static_base) [
      | inl dynamic ↦ (let same = end_stays m a b in
          rw (here, put_inside m a b inside dynamic) (stores_read_only (with_byte m a b) (a + 1) n bs
          (omega arith) low (omega arith) (omega arith) (rw same (omega arith)) (rw same base) (omega arith)))
      | inr static ↦ rw (here, put_read_only m a b inside static) refl
    ]

pub stores_past : (m : MemoryMap) (a n : ℕ) (bs : List ℕ) → a < 65536 → 0 < n → readable_end m < 65536
    → readable_end m < a + n → (a < readable_end m → readable_end m ≤ m.static_base) → length bs ≡ n
    → bytes_stored m (places a n) bs ≡ Err BadAddress
unfolding places bytes_stored
stores_past m a zero bs word some short past low size = absurd (omega arith)
stores_past m a (suc n) [] word some short past low size = absurd (omega arith)
stores_past m a (suc n) (b ∷ bs) word some short past low size =
    let here : a % 65536 ≡ a = omega arith in
    elim (cases_lt a (readable_end m)) [
      | inl inside ↦ (let same = end_stays m a b in
          let base = low inside in
          let dynamic : a < m.static_base = omega arith in
          rw (here, put_inside m a b inside dynamic) (stores_past (with_byte m a b) (a + 1) n bs (omega arith)
          (omega arith) (rw same short) (rw same (omega arith)) (λ _. rw same base) (omega arith)))
      | inr outside ↦ rw (here, put_past m a b outside) refl
    ]
