-- Bytes that are read, as units given to a sink.
use Rattle.std.proofs.Common.{◌≡◌, ◌≤◌, ◌<◌, ℕ, zero, suc, ◌+◌, ◌%◌, List, [], ◌∷◌, ◌++◌, length, get_or, take, drop}
use Rattle.std.proofs.Common.{Result, Ok, Err, IsOk, refl, sym, ap, ◌∙◌, arith, append_assoc}
use Rattle.std.proofs.lemmas.List.{take-append-drop, drop_more, map_more, map-append, take_all}
use Rattle.zk_text.specs.declared.unit.Unit.{Unit}
use Rattle.zk_text.specs.declared.unit.Unit.TheVariants.{Code}
use Rattle.zk_mem.specs.declared.fault.Fault.{Fault}
use Rattle.zk_mem.specs.Map.{MemoryMap, byte_at}
use Rattle.zk_mem.specs.Results.{◌>>=◌}
use Rattle.zk_tables.specs.Runs.{places, bytes_read}
use Rattle.zk_tables.specs.Rectangles.{row_units}

-- what was read is a first part and a rest
pub parts : {A : Type 0} (here : Result A Fault) (rest : Result (List A) Fault) (all : List A)
    → (here >>= λ x. rest >>= λ xs. Ok (x ∷ xs)) ≡ Ok all → (x : A) × (xs : List A) × (here ≡ Ok x) × (rest ≡ Ok xs)
    × (all ≡ x ∷ xs)
parts (Ok x) (Ok xs) all h = (x, xs, refl, refl, cc)
parts (Ok x) (Err e) all h = cc
parts (Err e) rest all h = cc

pub read_length : (m : MemoryMap) (a n : ℕ) (codes : List ℕ) → bytes_read m (places a n) ≡ Ok codes → length codes ≡ n
unfolding places bytes_read
read_length m a zero codes h = let e : codes ≡ [] = cc in rw e refl
read_length m a (suc n) codes h =
    let p = parts (byte_at m (a % 65536)) (bytes_read m (places (a + 1) n)) codes h in
    rw p.4 (ap suc (read_length m (a + 1) n p.1 p.3))

pub read_at : (m : MemoryMap) (a n k : ℕ) (codes : List ℕ) → bytes_read m (places a n) ≡ Ok codes → k < n
    → byte_at m ((a + k) % 65536) ≡ Ok (get_or codes k 0)
unfolding places bytes_read
read_at m a zero k codes h below = absurd (omega arith)
read_at m a (suc n) zero codes h below =
    let p = parts (byte_at m (a % 65536)) (bytes_read m (places (a + 1) n)) codes h in
    let same : a + 0 ≡ a = omega arith in
    rw (same, p.4) p.2
read_at m a (suc n) (suc k) codes h below =
    let p = parts (byte_at m (a % 65536)) (bytes_read m (places (a + 1) n)) codes h in
    let same : a + suc k ≡ a + 1 + k = omega arith in
    rw (same, p.4) (read_at m (a + 1) n k p.1 p.3 (omega arith))

pub was_ok : {A : Type 0} (r : Result A Fault) → IsOk r → (x : A) × (r ≡ Ok x)
was_ok (Ok x) h = (x, refl)
was_ok (Err e) h = cc

pub byte_readable : (m : MemoryMap) (a n k : ℕ) → IsOk (bytes_read m (places a n)) → k < n
    → IsOk (byte_at m ((a + k) % 65536))
byte_readable m a n k h below =
    let p = was_ok (bytes_read m (places a n)) h in
    rw (read_at m a n k p.0 p.1 below) refl

-- the units of a row are those up to a column, the unit there, and those after it
pub units_split : (codes : List ℕ) (k : ℕ) → k < length codes → row_units codes ≡ row_units (take k codes)
    ++ Code (get_or codes k 0) ∷ row_units (drop (k + 1) codes)
units_split codes k h =
    let all : codes ≡ take k codes ++ get_or codes k 0 ∷ drop (k + 1) codes = sym (take-append-drop k codes)
    ∙ ap (λ (xs : List ℕ). take k codes ++ xs) (drop_more codes k 0 h) in
    ap row_units all ∙ map-append (λ (c : ℕ). Code c) (take k codes) (get_or codes k 0 ∷ drop (k + 1) codes)

pub units_more : (codes : List ℕ) (k : ℕ) → k < length codes → row_units (take (k + 1) codes) ≡ row_units
    (take k codes) ++ Code (get_or codes k 0) ∷ []
units_more codes k h = map_more (λ (c : ℕ). Code c) codes k 0 h

-- a unit more was given
pub given_more : {S : Type 0} (gave : S → S → List Unit → Type 0) (twice : (a b c : S) (s t : List Unit)
    → gave a b s → gave b c t → gave a c (s ++ t)) (a b c : S) (codes : List ℕ) (k code : ℕ) → k < length codes
    → code ≡ get_or codes k 0 → gave a b (row_units (take k codes)) → gave b c (Code code ∷ [])
    → gave a c (row_units (take (k + 1) codes))
given_more gave twice a b c codes k code h is before here =
    rw (units_more codes k h, ← is) (twice a b c (row_units (take k codes)) (Code code ∷ []) before here)

-- a unit was refused, and with it what begins with the row
pub refused_there : {S : Type 0} (gave refused : S → S → List Unit → Type 0) (late : (a b c : S) (s t : List Unit)
    → gave a b s → refused b c t → refused a c (s ++ t)) (a b c : S) (codes : List ℕ) (more : List Unit)
    (k code : ℕ) → k < length codes → code ≡ get_or codes k 0 → gave a b (row_units (take k codes))
    → ((rest : List Unit) → refused b c (Code code ∷ rest)) → refused a c (row_units codes ++ more)
refused_there gave refused late a b c codes more k code h is before here =
    let whole : row_units codes ++ more ≡ row_units (take k codes)
    ++ (Code code ∷ row_units (drop (k + 1) codes) ++ more) =
    ap (λ (us : List Unit). us ++ more) (units_split codes k h
    ∙ ap (λ (v : ℕ). row_units (take k codes) ++ Code v ∷ row_units (drop (k + 1) codes)) (sym is))
    ∙ append_assoc (row_units (take k codes)) (Code code ∷ row_units (drop (k + 1) codes)) more in
    rw whole (late a b c (row_units (take k codes)) (Code code ∷ row_units (drop (k + 1) codes) ++ more) before
    (here (row_units (drop (k + 1) codes) ++ more)))

-- all was given
pub given_all : (gave : List Unit → Type 0) (codes : List ℕ) (k : ℕ) → length codes ≤ k
    → gave (row_units (take k codes)) → gave (row_units codes)
given_all gave codes k h all = rw (take_all k codes h) at all
