-- The rows of a rectangle.
use Rattle.std.proofs.Common.{◌≡◌, ◌≤◌, ◌<◌, ℕ, zero, suc, ◌+◌, ◌-◌, ◌*◌, ◌%◌, List, [], ◌∷◌, ◌++◌, length, get_or}
use Rattle.std.proofs.Common.{take, drop, Result, Ok, Err, IsOk, refl, sym, ap, ◌∙◌, arith}
use Rattle.std.proofs.lemmas.List.{append-nil, append_assoc, take-append-drop, take_more, drop_more, length-take}
use Rattle.std.proofs.lemmas.Nat.{mul-mod_second}
use Rattle.zk_text.specs.declared.unit.Unit.{Unit}
use Rattle.zk_text.specs.declared.unit.Unit.TheVariants.{Code}
use Rattle.zk_mem.specs.declared.fault.Fault.{Fault}
use Rattle.zk_mem.specs.Map.{MemoryMap}
use Rattle.zk_mem.specs.Results.{◌>>=◌}
use Rattle.zk_tables.specs.declared.arrays.rectangle.Rectangle.{Rectangle}
use Rattle.zk_tables.specs.Runs.{places, bytes_read}
use Rattle.zk_tables.specs.Rectangles.{row_at, rows_from, rows_of, row_units, more_rows, joined_rows}
use Rattle.zk_tables.proofs.Places.{places-mod}
use Rattle.zk_tables.proofs.Units.{parts}

-- a row's address, where its parts are taken modulo 65536
pub row_place : (text row step : ℕ) → (text + (row * (step % 65536)) % 65536) % 65536 ≡ (text + row * step) % 65536
row_place text row step = rw (mul-mod_second row step 65536) (omega arith)

-- a row that begins at an address
pub row_places : (a b n : ℕ) → a ≡ b % 65536 → places a n ≡ places b n
row_places a b n e = rw e (places-mod b n)

rows_step : (r : Rectangle) (row : Result (List ℕ) Fault) (rest : Result (List (List ℕ)) Fault) → IsOk row
    → IsOk rest → IsOk (row >>= λ codes. rest >>= λ rows. Ok (codes ∷ rows))
rows_step r (Ok codes) (Ok rows) h k = refl
rows_step r (Ok codes) (Err e) h k = cc
rows_step r (Err e) rest h k = cc

-- of so many rows from a row on, one can be read
pub rows_on : (m : MemoryMap) (r : Rectangle) (row n : ℕ) → row < n → IsOk (row_at m r row)
    → IsOk (rows_from m r (row + 1) (n - (row + 1))) → IsOk (rows_from m r row (n - row))
unfolding rows_from
rows_on m r row n h here rest =
    let more : n - row ≡ suc (n - (row + 1)) = omega arith in
    rw more (rows_step r (row_at m r row) (rows_from m r (row + 1) (n - (row + 1))) here rest)

err_step : (row : Result (List ℕ) Fault) (rest : Result (List (List ℕ)) Fault) (f : Fault) → IsOk row
    → rest ≡ Err f → (row >>= λ codes. rest >>= λ rows. Ok (codes ∷ rows)) ≡ Err f
err_step (Ok codes) rest f h k = rw k refl
err_step (Err e) rest f h k = cc

pub rows_fault_later : (m : MemoryMap) (r : Rectangle) (row n : ℕ) (f : Fault) → row < n → IsOk (row_at m r row)
    → rows_from m r (row + 1) (n - (row + 1)) ≡ Err f → rows_from m r row (n - row) ≡ Err f
unfolding rows_from
rows_fault_later m r row n f h here rest =
    let more : n - row ≡ suc (n - (row + 1)) = omega arith in
    rw more (err_step (row_at m r row) (rows_from m r (row + 1) (n - (row + 1))) f here rest)

pub rows_fault : (m : MemoryMap) (r : Rectangle) (row n : ℕ) (f : Fault) → row < n → row_at m r row ≡ Err f
    → rows_from m r row (n - row) ≡ Err f
unfolding rows_from
rows_fault m r row n f h here =
    let more : n - row ≡ suc (n - (row + 1)) = omega arith in
    rw (more, here) refl

pub rows_end : (m : MemoryMap) (r : Rectangle) (row n : ℕ) → n ≤ row → IsOk (rows_from m r row (n - row))
unfolding rows_from
rows_end m r row n h = let none : n - row ≡ 0 = omega arith in rw none refl

ok_parts : (row : Result (List ℕ) Fault) (rest : Result (List (List ℕ)) Fault)
    → IsOk (row >>= λ codes. rest >>= λ rows. Ok (codes ∷ rows)) → IsOk row × IsOk rest
ok_parts (Ok codes) (Ok rows) h = (refl, refl)
ok_parts (Ok codes) (Err e) h = cc
ok_parts (Err e) rest h = cc

readable_from : (m : MemoryMap) (r : Rectangle) (row n k : ℕ) → IsOk (rows_from m r row n) → k < n
    → IsOk (row_at m r (row + k))
unfolding rows_from
readable_from m r row zero k h below = absurd (omega arith)
readable_from m r row (suc n) zero h below =
    let same : row + 0 ≡ row = omega arith in
    rw same (ok_parts (row_at m r row) (rows_from m r (row + 1) n) h).0
readable_from m r row (suc n) (suc k) h below =
    let same : row + suc k ≡ row + 1 + k = omega arith in
    rw same (readable_from m r (row + 1) n k (ok_parts (row_at m r row) (rows_from m r (row + 1) n) h).1 (omega arith))

-- each row of a rectangle that can be read can be read
pub row_readable : (m : MemoryMap) (r : Rectangle) (row : ℕ) → IsOk (rows_of m r) → row < r.height
    → IsOk (row_at m r row)
unfolding rows_of
row_readable m r row h below =
    let same : 0 + row ≡ row = omega arith in
    rw same at (readable_from m r 0 r.height row h below)

-- the bytes of a row that begins at an address can be read
pub row_bytes : (m : MemoryMap) (a b n : ℕ) → a ≡ b % 65536 → IsOk (bytes_read m (places b n))
    → IsOk (bytes_read m (places a n))
row_bytes m a b n e h = rw (row_places a b n e) h

rows_are : (m : MemoryMap) (r : Rectangle) (row n k : ℕ) (rows : List (List ℕ)) → rows_from m r row n ≡ Ok rows
    → (length rows ≡ n) × (k < n → row_at m r (row + k) ≡ Ok (get_or rows k []))
unfolding rows_from
rows_are m r row zero k rows h = let e : rows ≡ [] = cc in (rw e refl, λ below. absurd (omega arith))
rows_are m r row (suc n) zero rows h =
    let p = parts (row_at m r row) (rows_from m r (row + 1) n) rows h in
    let same : row + 0 ≡ row = omega arith in
    (rw p.4 (ap suc (rows_are m r (row + 1) n 0 p.1 p.3).0), λ below. rw (same, p.4) p.2)
rows_are m r row (suc n) (suc k) rows h =
    let p = parts (row_at m r row) (rows_from m r (row + 1) n) rows h in
    let rest = rows_are m r (row + 1) n k p.1 p.3 in
    let same : row + suc k ≡ row + 1 + k = omega arith in
    (rw p.4 (ap suc rest.0), λ below. rw (same, p.4) (rest.1 (omega arith)))

pub rows_length : (m : MemoryMap) (r : Rectangle) (rows : List (List ℕ)) → rows_of m r ≡ Ok rows
    → length rows ≡ r.height
unfolding rows_of
rows_length m r rows h = (rows_are m r 0 r.height 0 rows h).0

pub row_is : (m : MemoryMap) (r : Rectangle) (row : ℕ) (rows : List (List ℕ)) → rows_of m r ≡ Ok rows
    → row < r.height → row_at m r row ≡ Ok (get_or rows row [])
unfolding rows_of
row_is m r row rows h below =
    let same : 0 + row ≡ row = omega arith in
    rw same at ((rows_are m r 0 r.height row rows h).1 below)

more_append : (xs ys : List (List ℕ)) → more_rows (xs ++ ys) ≡ more_rows xs ++ more_rows ys
unfolding more_rows
more_append [] ys = refl
more_append (x ∷ xs) ys =
    rw (more_append xs ys) (sym (append_assoc (Code 13 ∷ row_units x) (more_rows xs) (more_rows ys)))

joined_append : (xs ys : List (List ℕ)) → 1 ≤ length xs → joined_rows (xs ++ ys) ≡ joined_rows xs ++ more_rows ys
unfolding joined_rows
joined_append [] ys h = absurd (omega arith)
joined_append (x ∷ xs) ys h = rw (more_append xs ys) (sym (append_assoc (row_units x) (more_rows xs) (more_rows ys)))

begun : (rows : List (List ℕ)) (k : ℕ) → 1 ≤ k → k < length rows → 1 ≤ length (take k rows)
begun rows k h below = rw (length-take k rows) (omega arith)

joined_more : (rows : List (List ℕ)) (k : ℕ) → 1 ≤ k → k < length rows
    → joined_rows (take (k + 1) rows) ≡ joined_rows (take k rows) ++ Code 13 ∷ row_units (get_or rows k [])
unfolding more_rows
joined_more rows k h below =
    ap joined_rows (take_more rows k [] below) ∙ joined_append (take k rows) (get_or rows k [] ∷ [])
    (begun rows k h below) ∙ ap (λ (us : List Unit). joined_rows (take k rows) ++ us)
    (append-nil (Code 13 ∷ row_units (get_or rows k [])))

joined_split : (rows : List (List ℕ)) (k : ℕ) → 1 ≤ k → k < length rows
    → joined_rows rows ≡ joined_rows (take k rows) ++ (Code 13 ∷ row_units (get_or rows k [])
    ++ more_rows (drop (k + 1) rows))
unfolding more_rows
joined_split rows k h below =
    let all : rows ≡ take k rows ++ get_or rows k [] ∷ drop (k + 1) rows = sym (take-append-drop k rows)
    ∙ ap (λ (xs : List (List ℕ)). take k rows ++ xs) (drop_more rows k [] below) in
    ap joined_rows all ∙ joined_append (take k rows) (get_or rows k [] ∷ drop (k + 1) rows) (begun rows k h below)

-- no row, and the first
pub joined_none : (rows : List (List ℕ)) → length rows ≡ 0 → joined_rows rows ≡ []
unfolding joined_rows
joined_none [] h = refl
joined_none (x ∷ xs) h = absurd (omega arith)

pub joined_first : (rows : List (List ℕ)) → 0 < length rows → joined_rows (take 1 rows) ≡ row_units (get_or rows 0 [])
unfolding joined_rows more_rows
joined_first [] h = absurd (omega arith)
joined_first (x ∷ xs) h = append-nil (row_units x)

joined_head : (rows : List (List ℕ)) → 0 < length rows → joined_rows rows ≡ row_units (get_or rows 0 [])
    ++ more_rows (drop 1 rows)
unfolding joined_rows
joined_head [] h = absurd (omega arith)
joined_head (x ∷ xs) h = refl

-- the first row was refused
pub refused_first : (refused : List Unit → Type 0) (rows : List (List ℕ)) → 0 < length rows
    → ((more : List Unit) → refused (row_units (get_or rows 0 []) ++ more)) → refused (joined_rows rows)
refused_first refused rows h here = rw (joined_head rows h) (here (more_rows (drop 1 rows)))

-- a row more was given
pub given_rows : {S : Type 0} (gave : S → S → List Unit → Type 0) (twice : (a b c : S) (s t : List Unit)
    → gave a b s → gave b c t → gave a c (s ++ t)) (a b c : S) (rows : List (List ℕ)) (k : ℕ) → 1 ≤ k
    → k < length rows → gave a b (joined_rows (take k rows)) → gave b c (Code 13 ∷ row_units (get_or rows k []))
    → gave a c (joined_rows (take (k + 1) rows))
given_rows gave twice a b c rows k h below before here =
    rw (joined_more rows k h below) (twice a b c (joined_rows (take k rows))
    (Code 13 ∷ row_units (get_or rows k [])) before here)

-- a row was refused
pub refused_row : {S : Type 0} (gave refused : S → S → List Unit → Type 0) (late : (a b c : S) (s t : List Unit)
    → gave a b s → refused b c t → refused a c (s ++ t)) (a b c : S) (rows : List (List ℕ)) (k : ℕ) → 1 ≤ k
    → k < length rows → gave a b (joined_rows (take k rows))
    → ((more : List Unit) → refused b c (Code 13 ∷ row_units (get_or rows k []) ++ more))
    → refused a c (joined_rows rows)
refused_row gave refused late a b c rows k h below before here =
    rw (joined_split rows k h below) (late a b c (joined_rows (take k rows))
    (Code 13 ∷ row_units (get_or rows k []) ++ more_rows (drop (k + 1) rows)) before
    (here (more_rows (drop (k + 1) rows))))

pub ruleset of_give_row = (row_places, row_readable)
