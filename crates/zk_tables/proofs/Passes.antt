-- Loops that copy or clear, byte by byte.
use Rattle.std.proofs.Common.{◌≡◌, ◌≤◌, ◌<◌, ℕ, suc, ◌+◌, ◌-◌, ◌%◌, List, length, MatchResult, Result, Ok, Err, IsOk}
use Rattle.std.proofs.Common.{refl, sym, ◌∙◌, arith}
use Rattle.zk_mem.specs.declared.fault.Fault.{Fault}
use Rattle.zk_mem.specs.Map.{MemoryMap, byte_put}
use Rattle.zk_tables.specs.Runs.{places, bytes_read, bytes_stored}
use Rattle.zk_tables.specs.Copying.{byte_copied, copied_at_once, copied_forwards, cleared}
use Rattle.zk_tables.proofs.Copies.{last_copied, copied_last, forwards_at_once, IsReadFirst}
use Rattle.zk_tables.proofs.Units.{was_ok, read_length}

pub forwards_on : (m n : MemoryMap) (a b i size : ℕ) → i < size → byte_copied m ((a + i) % 65536)
    ((b + i) % 65536) ≡ Ok n → copied_forwards m (places (a + i) (size - i)) (places (b + i) (size - i))
    ≡ copied_forwards n (places (a + (i + 1)) (size - (i + 1))) (places (b + (i + 1)) (size - (i + 1)))
unfolding places copied_forwards
forwards_on m n a b i size below copied =
    let more : size - i ≡ suc (size - (i + 1)) = omega arith in
    let from : a + (i + 1) ≡ a + i + 1 = omega arith in
    let to : b + (i + 1) ≡ b + i + 1 = omega arith in
    rw (more, from, to, copied) refl

pub forwards_fault : (m : MemoryMap) (a b i size : ℕ) (f : Fault) → i < size
    → byte_copied m ((a + i) % 65536) ((b + i) % 65536) ≡ Err f → copied_forwards m (places (a + i) (size - i))
    (places (b + i) (size - i)) ≡ Err f
unfolding places copied_forwards
forwards_fault m a b i size f below copied =
    let more : size - i ≡ suc (size - (i + 1)) = omega arith in
    rw (more, copied) refl

pub forwards_end : (m : MemoryMap) (a b i size : ℕ) → size ≤ i → copied_forwards m (places (a + i) (size - i))
    (places (b + i) (size - i)) ≡ Ok m
unfolding places copied_forwards
forwards_end m a b i size past = let none : size - i ≡ 0 = omega arith in rw none refl

pub cleared_on : (m n : MemoryMap) (a i size : ℕ) → i < size → byte_put m ((a + i) % 65536) 0 ≡ Ok n
    → cleared m (a + i) (size - i) ≡ cleared n (a + (i + 1)) (size - (i + 1))
unfolding places bytes_stored
cleared_on m n a i size below put =
    let more : size - i ≡ suc (size - (i + 1)) = omega arith in
    let from : a + (i + 1) ≡ a + i + 1 = omega arith in
    rw (more, from, put) refl

pub cleared_fault : (m : MemoryMap) (a i size : ℕ) (f : Fault) → i < size → byte_put m ((a + i) % 65536) 0 ≡ Err f
    → cleared m (a + i) (size - i) ≡ Err f
unfolding places bytes_stored
cleared_fault m a i size f below put =
    let more : size - i ≡ suc (size - (i + 1)) = omega arith in
    rw (more, put) refl

pub cleared_end : (m : MemoryMap) (a i size : ℕ) → size ≤ i → cleared m (a + i) (size - i) ≡ Ok m
unfolding places bytes_stored
cleared_end m a i size past = let none : size - i ≡ 0 = omega arith in rw none refl

-- a result that follows a step that can be made
pub can_be : {T : Type 0} (r : Result T Fault) (s : Result MemoryMap Fault) (n : MemoryMap)
    → MatchResult r (λ _. s ≡ Ok n) (λ e. s ≡ Err e) → IsOk s → IsOk r × (s ≡ Ok n)
can_be (Ok x) s n h can = (refl, h)
can_be (Err e) s n h can = let never = rw h at can in cc

pub backwards_can : (m : MemoryMap) (a b i : ℕ) → 0 < i → i ≤ 65536
    → IsOk (copied_at_once m (places a i) (places b i))
    → IsOk (byte_copied m ((a + (i - 1)) % 65536) ((b + (i - 1)) % 65536))
backwards_can m a b i some few h =
    let more : i ≡ suc (i - 1) = omega arith in
    last_copied m a b (i - 1) (omega arith) (rw more at h)

pub backwards_on : (m n : MemoryMap) (a b i size : ℕ) → 0 < i → i ≤ size → size < 32768 → a < 65536
    → (b + (65536 - a)) % 65536 < size → IsOk (copied_at_once m (places a i) (places b i))
    → byte_copied m ((a + (i - 1)) % 65536) ((b + (i - 1)) % 65536) ≡ Ok n
    → copied_at_once n (places a (i - 1)) (places b (i - 1)) ≡ copied_at_once m (places a i) (places b i)
backwards_on m n a b i size some within small word above h copied =
    let more : i ≡ suc (i - 1) = omega arith in
    let step = copied_last m n a b (i - 1) (omega arith) (rw more at h) (λ j below e. omega arith) copied in
    rw (← more) at step

pub backwards_end : (m : MemoryMap) (a b i : ℕ) → i ≡ 0 → copied_at_once m (places a i) (places b i) ≡ Ok m
unfolding places bytes_read bytes_stored
backwards_end m a b i none = rw none refl

pub at_once_refused : (m : MemoryMap) (a b n : ℕ) (f : Fault) → IsOk (bytes_read m (places a n))
    → ((bs : List ℕ) → length bs ≡ n → bytes_stored m (places b n) bs ≡ Err f)
    → copied_at_once m (places a n) (places b n) ≡ Err f
at_once_refused m a b n f reads stores =
    let p = was_ok (bytes_read m (places a n)) reads in
    rw (p.1, stores p.0 (read_length m a n p.0 p.1)) refl

pub at_once_can : (m : MemoryMap) (a b n : ℕ) → IsOk (bytes_read m (places a n))
    → ((bs : List ℕ) → length bs ≡ n → IsOk (bytes_stored m (places b n) bs))
    → IsOk (copied_at_once m (places a n) (places b n))
at_once_can m a b n reads stores =
    let p = was_ok (bytes_read m (places a n)) reads in
    rw p.1 (stores p.0 (read_length m a n p.0 p.1))

pub below_first : (a b n : ℕ) → n < 32768 → a < 65536 → n ≤ (b + (65536 - a)) % 65536 → IsReadFirst a b n
below_first a b n small word below i j lower within e = omega arith

pub at_once_forwards : {T : Type 0} (r : Result T Fault) (m n : MemoryMap) (a b size : ℕ) → size < 32768
    → a < 65536 → size ≤ (b + (65536 - a)) % 65536 → IsOk (copied_at_once m (places a size) (places b size))
    → MatchResult r (λ _. copied_forwards m (places a size) (places b size) ≡ Ok n)
    (λ e. copied_forwards m (places a size) (places b size) ≡ Err e)
    → MatchResult r (λ _. copied_at_once m (places a size) (places b size) ≡ Ok n)
    (λ e. copied_at_once m (places a size) (places b size) ≡ Err e)
at_once_forwards (Ok x) m n a b size small word below can h =
    sym (forwards_at_once m a b size (below_first a b size small word below) can) ∙ h
at_once_forwards (Err e) m n a b size small word below can h =
    sym (forwards_at_once m a b size (below_first a b size small word below) can) ∙ h
