-- Copying as if at once, forwards and backwards.
use Rattle.std.proofs.Common.{◌≡◌, ◌≢◌, ◌<◌, ℕ, zero, suc, ◌+◌, ◌%◌, List, [], ◌∷◌, length, get_or, take, Result, Ok}
use Rattle.std.proofs.Common.{Err, IsOk, true, nat_lt, refl, sym, ap, subst, ◌∙◌, arith}
use Rattle.std.proofs.lemmas.List.{set_comm, get_or-set_other}
use Rattle.zk_mem.specs.declared.fault.Fault.{Fault}
use Rattle.zk_mem.specs.Map.{MemoryMap, byte_at, byte_put, readable_end, with_byte}
use Rattle.zk_mem.specs.Results.{◌>>=◌}
use Rattle.zk_mem.proofs.Writes.{put_where}
use Rattle.zk_tables.specs.Runs.{places, bytes_read, bytes_stored}
use Rattle.zk_tables.specs.Copying.{byte_copied, copied_at_once, copied_forwards}
use Rattle.zk_tables.proofs.Units.{parts, was_ok, read_length, read_at}
use Rattle.zk_tables.proofs.Puts.{end_stays}

-- what was stored is in memory
pub put_is : (m n : MemoryMap) (a v : ℕ) → byte_put m a v ≡ Ok n → with_byte m a v ≡ n
unfolding byte_put
put_is m n a v h = (put_where (nat_lt a (readable_end m)) (nat_lt a m.static_base) (with_byte m a v) n h).2

-- that a byte can be stored says nothing of what stands in memory
put_same : (m : MemoryMap) (a v p x : ℕ) → IsOk (byte_put (with_byte m p x) a v) → byte_put m a v ≡ Ok (with_byte m a v)
unfolding byte_put
put_same m a v p x h =
    let w = was_ok (byte_put (with_byte m p x) a v) h in
    let passed = put_where (nat_lt a (readable_end (with_byte m p x))) (nat_lt a m.static_base)
    (with_byte (with_byte m p x) a v) w.0 w.1 in
    let inside : nat_lt a (readable_end m) ≡ true = sym (ap (λ (n : ℕ). nat_lt a n) (end_stays m p x)) ∙ passed.0 in
    rw (inside, passed.1) refl

put_still : (m : MemoryMap) (a v p x : ℕ) → byte_put m a v ≡ Ok (with_byte m a v)
    → byte_put (with_byte m p x) a v ≡ Ok (with_byte (with_byte m p x) a v)
unfolding byte_put
put_still m a v p x h =
    let passed = put_where (nat_lt a (readable_end m)) (nat_lt a m.static_base) (with_byte m a v) (with_byte m a v) h in
    let inside : nat_lt a (readable_end (with_byte m p x)) ≡ true = ap (λ (n : ℕ). nat_lt a n) (end_stays m p x)
    ∙ passed.0 in
    rw (inside, passed.1) refl

-- a byte elsewhere is read as before
byte_kept : (m : MemoryMap) (p x a : ℕ) → a ≢ p → byte_at (with_byte m p x) a ≡ byte_at m a
unfolding byte_at
byte_kept m p x a other = rw (end_stays m p x, get_or-set_other m.bytes p a x 0 other) refl

read_kept : (m : MemoryMap) (p x a n : ℕ) → ((j : ℕ) → j < n → (a + j) % 65536 ≢ p)
    → bytes_read (with_byte m p x) (places a n) ≡ bytes_read m (places a n)
unfolding places bytes_read
read_kept m p x a zero other = refl
read_kept m p x a (suc n) other =
    let same : a + 0 ≡ a = omega arith in
    let here = rw same at (other 0 (omega arith)) in
    let rest = read_kept m p x (a + 1) n (λ j below. let next : a + 1 + j ≡ a + suc j = omega arith in
    rw next (other (suc j) (omega arith))) in
    rw (byte_kept m p x (a % 65536) here, rest) refl

first_of_both : (here : Result ℕ Fault) (rest : Result (List ℕ) Fault) (n x : ℕ) (codes xs : List ℕ) → here ≡ Ok x
    → rest ≡ Ok (take n xs) → codes ≡ x ∷ xs → (here >>= λ b. rest >>= λ bs. Ok (b ∷ bs)) ≡ Ok (take (suc n) codes)
first_of_both here rest n x codes xs e f g = rw (e, f, g) refl

-- the first bytes of a run
read_first : (m : MemoryMap) (a n : ℕ) (codes : List ℕ) → bytes_read m (places a (suc n)) ≡ Ok codes
    → bytes_read m (places a n) ≡ Ok (take n codes)
unfolding places bytes_read
read_first m a zero codes h = refl
read_first m a (suc n) codes h =
    let p = parts (byte_at m (a % 65536)) (bytes_read m (places (a + 1) (suc n))) codes h in
    first_of_both (byte_at m (a % 65536)) (bytes_read m (places (a + 1) n)) n p.0 codes p.1 p.2
    (read_first m (a + 1) n p.1 p.3) p.4

-- two bytes at two addresses are stored in either order
swapped : (m : MemoryMap) (a v p x : ℕ) → a ≢ p → with_byte (with_byte m p x) a v ≡ with_byte (with_byte m a v) p x
swapped m a v p x other = ap (λ (bs : List ℕ). record m { bytes = bs }) (set_comm m.bytes p a x v (λ e. other (sym e)))

ok_first : {A B : Type 0} (r : Result A Fault) (f : A → Result B Fault) → IsOk (r >>= f)
    → (x : A) × (r ≡ Ok x) × IsOk (f x)
ok_first (Ok x) f h = (x, refl, h)
ok_first (Err e) f h = cc

-- bytes are stored with the last of them first
stored_last : (m : MemoryMap) (a n : ℕ) (bs : List ℕ) → n < 65536 → length bs ≡ suc n
    → IsOk (bytes_stored m (places a (suc n)) bs)
    → (byte_put m ((a + n) % 65536) (get_or bs n 0) ≡ Ok (with_byte m ((a + n) % 65536) (get_or bs n 0)))
    × (bytes_stored m (places a (suc n)) bs ≡ bytes_stored (with_byte m ((a + n) % 65536) (get_or bs n 0))
    (places a n) (take n bs))
unfolding places bytes_stored
stored_last m a n [] few size h = absurd (omega arith)
stored_last m a zero (b ∷ bs) few size h =
    let p = ok_first (byte_put m (a % 65536) b) (λ (k : MemoryMap). bytes_stored k [] bs) h in
    let put : byte_put m (a % 65536) b ≡ Ok (with_byte m (a % 65536) b) = p.1
    ∙ ap Ok (sym (put_is m p.0 (a % 65536) b p.1)) in
    let same : a + 0 ≡ a = omega arith in
    rw (same, put) (refl, refl)
stored_last m a (suc n) (b ∷ bs) few size h =
    let p = ok_first (byte_put m (a % 65536) b) (λ (k : MemoryMap). bytes_stored k (places (a + 1) (suc n)) bs) h in
    let is = put_is m p.0 (a % 65536) b p.1 in
    let put : byte_put m (a % 65536) b ≡ Ok (with_byte m (a % 65536) b) = p.1 ∙ ap Ok (sym is) in
    let last = stored_last (with_byte m (a % 65536) b) (a + 1) n bs (omega arith) (omega arith)
    (subst (λ (k : MemoryMap). IsOk (bytes_stored k (places (a + 1) (suc n)) bs)) (sym is) p.2) in
    let next : a + suc n ≡ a + 1 + n = omega arith in
    let there = put_same m ((a + 1 + n) % 65536) (get_or bs n 0) (a % 65536) b (rw last.0 refl) in
    let still = put_still m (a % 65536) b ((a + 1 + n) % 65536) (get_or bs n 0) put in
    let swap = swapped m ((a + 1 + n) % 65536) (get_or bs n 0) (a % 65536) b (λ e. omega arith) in
    (rw next there, rw (next, put, still, last.1, swap) refl)

-- what was copied at once, so far as it was read and stored
read_part : (m : MemoryMap) (a b n : ℕ) → IsOk (copied_at_once m (places a n) (places b n))
    → (bs : List ℕ) × (bytes_read m (places a n) ≡ Ok bs) × IsOk (bytes_stored m (places b n) bs)
read_part m a b n h = ok_first (bytes_read m (places a n)) (λ (bs : List ℕ). bytes_stored m (places b n) bs) h

-- the last byte of a table that can be copied at once can be copied by itself
pub last_copied : (m : MemoryMap) (a b n : ℕ) → n < 65536
    → IsOk (copied_at_once m (places a (suc n)) (places b (suc n)))
    → IsOk (byte_copied m ((a + n) % 65536) ((b + n) % 65536))
last_copied m a b n few h =
    let p = read_part m a b (suc n) h in
    let here = read_at m a (suc n) n p.0 p.1 (omega arith) in
    let last = stored_last m b n p.0 few (read_length m a (suc n) p.0 p.1) p.2 in
    rw (here, last.0) refl

-- a table is copied at once with the last byte first, where that byte is stored over no other that is read
pub copied_last : (m n : MemoryMap) (a b k : ℕ) → k < 65536
    → IsOk (copied_at_once m (places a (suc k)) (places b (suc k)))
    → ((j : ℕ) → j < k → (a + j) % 65536 ≢ (b + k) % 65536) → byte_copied m ((a + k) % 65536) ((b + k) % 65536) ≡ Ok
    n → copied_at_once n (places a k) (places b k) ≡ copied_at_once m (places a (suc k)) (places b (suc k))
copied_last m n a b k few h other copied =
    let p = read_part m a b (suc k) h in
    let here = read_at m a (suc k) k p.0 p.1 (omega arith) in
    let last = stored_last m b k p.0 few (read_length m a (suc k) p.0 p.1) p.2 in
    let put : byte_put m ((b + k) % 65536) (get_or p.0 k 0) ≡ Ok n = rw here at copied in
    let is : n ≡ with_byte m ((b + k) % 65536) (get_or p.0 k 0) = sym (put_is m n ((b + k) % 65536)
    (get_or p.0 k 0) put) in
    rw (is, read_kept m ((b + k) % 65536) (get_or p.0 k 0) a k other, read_first m a k p.0 p.1, p.1) (sym last.1)

-- no byte is read after another was stored over it
abbrev pub IsReadFirst : ℕ → ℕ → ℕ → Type 0
IsReadFirst a b n = (i j : ℕ) → i < j → j < n → (a + j) % 65536 ≢ (b + i) % 65536

-- with the first byte stored, the rest is read as before
pub rest_kept : (m : MemoryMap) (a b n x : ℕ) → IsReadFirst a b (suc n)
    → bytes_read (with_byte m (b % 65536) x) (places (a + 1) n) ≡ bytes_read m (places (a + 1) n)
rest_kept m a b n x first = read_kept m (b % 65536) x (a + 1) n (λ j below.
    let apart = first 0 (suc j) (omega arith) (omega arith) in
    let same : b + 0 ≡ b = omega arith in
    let next : a + 1 + j ≡ a + suc j = omega arith in
    rw next (rw same at apart))

pub first_on : (a b n : ℕ) → IsReadFirst a b (suc n) → IsReadFirst (a + 1) (b + 1) n
first_on a b n first i j lower below =
    let here : b + 1 + i ≡ b + suc i = omega arith in
    let there : a + 1 + j ≡ a + suc j = omega arith in
    rw (here, there) (first (suc i) (suc j) (omega arith) (omega arith))

forwards_step : (m : MemoryMap) (a b n x : ℕ) (xs : List ℕ) → IsReadFirst a b (suc n)
    → byte_at m (a % 65536) ≡ Ok x → bytes_read m (places (a + 1) n) ≡ Ok xs
    → IsOk (byte_put m (b % 65536) x >>= λ k. bytes_stored k (places (b + 1) n) xs)
    → ((k : MemoryMap) → IsOk (copied_at_once k (places (a + 1) n) (places (b + 1) n))
    → copied_forwards k (places (a + 1) n) (places (b + 1) n) ≡ copied_at_once k (places (a + 1) n)
    (places (b + 1) n))
    → copied_forwards m (places a (suc n)) (places b (suc n)) ≡ copied_at_once m (places a (suc n)) (places b (suc n))
unfolding places bytes_read bytes_stored copied_forwards
forwards_step m a b n x xs first here rest stored on =
    let p = ok_first (byte_put m (b % 65536) x) (λ (k : MemoryMap). bytes_stored k (places (b + 1) n) xs) stored in
    let is = put_is m p.0 (b % 65536) x p.1 in
    let put : byte_put m (b % 65536) x ≡ Ok (with_byte m (b % 65536) x) = p.1 ∙ ap Ok (sym is) in
    let reads : bytes_read (with_byte m (b % 65536) x) (places (a + 1) n) ≡ Ok xs = rest_kept m a b n x first ∙ rest in
    let can : IsOk (bytes_stored (with_byte m (b % 65536) x) (places (b + 1) n) xs) =
    subst (λ (k : MemoryMap). IsOk (bytes_stored k (places (b + 1) n) xs)) (sym is) p.2 in
    let after : copied_forwards (with_byte m (b % 65536) x) (places (a + 1) n) (places (b + 1) n) ≡ bytes_stored
    (with_byte m (b % 65536) x) (places (b + 1) n) xs =
    on (with_byte m (b % 65536) x) (rw reads can) ∙ (rw reads refl) in
    rw (here, rest, put) after

-- then copying forwards does what copying at once does
pub forwards_at_once : (m : MemoryMap) (a b n : ℕ) → IsReadFirst a b n
    → IsOk (copied_at_once m (places a n) (places b n)) → copied_forwards m (places a n)
    (places b n) ≡ copied_at_once m (places a n) (places b n)
unfolding places bytes_read bytes_stored copied_forwards
forwards_at_once m a b zero first h = refl
forwards_at_once m a b (suc n) first h =
    let p = read_part m a b (suc n) h in
    let q = parts (byte_at m (a % 65536)) (bytes_read m (places (a + 1) n)) p.0 p.1 in
    forwards_step m a b n q.0 q.1 first q.2 q.3 (rw q.4 at p.2)
    (λ k can. forwards_at_once k (a + 1) (b + 1) n (first_on a b n first) can)
