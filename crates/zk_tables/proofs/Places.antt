-- The bytes of a table, and when they can be read.
use Rattle.std.proofs.Common.{◌≡◌, ◌≤◌, ◌<◌, ℕ, zero, suc, ◌+◌, ◌-◌, ◌%◌, List, ◌∷◌, get_or, Result, Ok, Err, IsOk}
use Rattle.std.proofs.Common.{refl, sym, ap, ◌∙◌, arith, inl, inr}
use Rattle.std.proofs.lemmas.Bool.{cases_lt, lt-ltb, le-ltb}
use Rattle.zk_mem.specs.declared.fault.Fault.{Fault}
use Rattle.zk_mem.specs.declared.fault.Fault.TheVariants.{BadAddress}
use Rattle.zk_mem.specs.Map.{MemoryMap, byte_at, readable_end}
use Rattle.zk_mem.specs.Results.{◌>>=◌}
use Rattle.zk_tables.specs.Runs.{places, bytes_read}

-- a place counts by its remainder alone
pub places-mod : (a n : ℕ) → places (a % 65536) n ≡ places a n
unfolding places
places-mod a zero = refl
places-mod a (suc n) =
    let here : a % 65536 % 65536 ≡ a % 65536 = omega arith in
    let next : (a % 65536 + 1) % 65536 ≡ (a + 1) % 65536 = omega arith in
    let rest : places (a % 65536 + 1) n ≡ places (a + 1) n =
    sym (places-mod (a % 65536 + 1) n) ∙ ap (λ (b : ℕ). places b n) next ∙ places-mod (a + 1) n in
    rw (here, rest) refl

-- an address below the end of data can be read
pub byte_inside : (m : MemoryMap) (a : ℕ) → a < readable_end m → byte_at m a ≡ Ok (get_or m.bytes a 0)
unfolding byte_at
byte_inside m a h = rw (lt-ltb a (readable_end m) h) refl

pub byte_outside : (m : MemoryMap) (a : ℕ) → readable_end m ≤ a → byte_at m a ≡ Err BadAddress
unfolding byte_at
byte_outside m a h = rw (le-ltb a (readable_end m) h) refl

ok_step : (m : MemoryMap) (a : ℕ) (rest : Result (List ℕ) Fault) → a < readable_end m → IsOk rest
    → IsOk (byte_at m a >>= λ b. rest >>= λ bs. Ok (b ∷ bs))
ok_step m a (Ok bs) h k = rw (byte_inside m a h) refl
ok_step m a (Err e) h k = cc

-- a run can be read where each of its places can
read_each : (m : MemoryMap) (a n : ℕ) → ((k : ℕ) → k < n → (a + k) % 65536 < readable_end m)
    → IsOk (bytes_read m (places a n))
unfolding places bytes_read
read_each m a zero h = refl
read_each m a (suc n) h =
    ok_step m (a % 65536) _ (let first : (a + 0) % 65536 < readable_end m = h 0 (omega arith) in omega arith)
    (read_each m (a + 1) n (λ k below.
    let on : (a + suc k) % 65536 < readable_end m = h (suc k) (omega arith) in
    let same : a + 1 + k ≡ a + suc k = omega arith in
    rw same on))

err_step : (m : MemoryMap) (a : ℕ) (rest : Result (List ℕ) Fault) → rest ≡ Err BadAddress
    → (byte_at m a >>= λ b. rest >>= λ bs. Ok (b ∷ bs)) ≡ Err BadAddress
err_step m a rest h = elim (cases_lt a (readable_end m)) [
  | inl inside ↦ rw (byte_inside m a inside, h) refl
  | inr outside ↦ rw (byte_outside m a outside) refl
]

-- a run can't be read where one of its places can't
read_one : (m : MemoryMap) (a n k : ℕ) → k < n → readable_end m ≤ (a + k) % 65536
    → bytes_read m (places a n) ≡ Err BadAddress
unfolding places bytes_read
read_one m a zero k below h = absurd (omega arith)
read_one m a (suc n) zero below h =
    let first : readable_end m ≤ a % 65536 = omega arith in rw (byte_outside m (a % 65536) first) refl
read_one m a (suc n) (suc k) below h =
    let same : a + 1 + k ≡ a + suc k = omega arith in
    err_step m (a % 65536) _ (read_one m (a + 1) n k (omega arith) (rw same h))

pub read_nothing : (m : MemoryMap) (a n : ℕ) → n ≡ 0 → IsOk (bytes_read m (places a n))
read_nothing m a n e = read_each m a n (λ k below. absurd (omega arith))

pub read_anywhere : (m : MemoryMap) (a n : ℕ) → 65536 ≤ readable_end m → IsOk (bytes_read m (places a n))
read_anywhere m a n h = read_each m a n (λ k below. omega arith)

pub read_inside : (m : MemoryMap) (a n : ℕ) → a + n ≤ readable_end m → IsOk (bytes_read m (places a n))
read_inside m a n h =
    let most : readable_end m ≤ 65536 = omega arith in
    read_each m a n (λ k below. omega arith)

pub read_past : (m : MemoryMap) (a n : ℕ) → a < 65536 → 0 < n → readable_end m < 65536 → readable_end m < a + n
    → bytes_read m (places a n) ≡ Err BadAddress
read_past m a n word some short past = elim (cases_lt a (readable_end m)) [
  | inl inside ↦ read_one m a n (readable_end m - a) (omega arith) (omega arith)
  | inr outside ↦ read_one m a n 0 some (omega arith)
]

pub ruleset of_check_bytes = (read_nothing, read_anywhere, read_inside, read_past)
