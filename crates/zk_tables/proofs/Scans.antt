-- A table is searched entry by entry.
use Rattle.std.proofs.Common.{◌≡◌, ◌≤◌, ◌<◌, ℕ, zero, suc, ◌+◌, ◌-◌, ◌%◌, Option, Some, None, Result, Ok, Err, nat_eq}
use Rattle.std.proofs.Common.{cond, refl, sym, ap, ◌∙◌, arith}
use Rattle.std.proofs.lemmas.Bool.{eq-eqb, ne_eqb}
use Rattle.zk_mem.specs.declared.fault.Fault.{Fault}
use Rattle.zk_mem.specs.Map.{MemoryMap}
use Rattle.zk_mem.specs.Results.{◌>>=◌}
use Rattle.zk_tables.specs.Scanning.{field_at, scanned}

-- an entry, and the rest after it
step : ℕ → ℕ → Result ℕ Fault → Result (Option ℕ) Fault → Result (Option ℕ) Fault
step x a here rest = here >>= λ v. cond (nat_eq v x) (Ok (Some a)) rest

-- an address counts by its remainder alone
pub scanned-mod : (m : MemoryMap) (x a form n : ℕ) → scanned m x (a % 65536) form n ≡ scanned m x a form n
unfolding scanned step
scanned-mod m x a form zero = refl
scanned-mod m x a form (suc n) =
    let here : a % 65536 % 65536 ≡ a % 65536 = omega arith in
    let next : (a % 65536 + form % 128) % 65536 ≡ (a + form % 128) % 65536 = omega arith in
    let rest : scanned m x (a % 65536 + form % 128) form n ≡ scanned m x (a + form % 128) form n =
    sym (scanned-mod m x (a % 65536 + form % 128) form n) ∙ ap (λ (b : ℕ). scanned m x b form n) next
    ∙ scanned-mod m x (a + form % 128) form n in
    ap (λ (b : ℕ). step x b (field_at m form b) (scanned m x (a % 65536 + form % 128) form n)) here
    ∙ ap (step x (a % 65536) (field_at m form (a % 65536))) rest

pub scan_found : (m : MemoryMap) (x a form i n : ℕ) → a < 65536 → i < n → field_at m form a ≡ Ok x
    → scanned m x a form (n - i) ≡ Ok (Some a)
unfolding scanned step
scan_found m x a form i n word h here =
    let more : n - i ≡ suc (n - (i + 1)) = omega arith in
    let low : a % 65536 ≡ a = omega arith in
    rw (more, low, here, eq-eqb x x refl) refl

pub scan_on : (m : MemoryMap) (x v a form i n : ℕ) → a < 65536 → i < n → field_at m form a ≡ Ok v → (v ≡ x → ⊥)
    → scanned m x a form (n - i) ≡ scanned m x ((a + form % 128) % 65536) form (n - (i + 1))
unfolding scanned step
scan_on m x v a form i n word h here other =
    let more : n - i ≡ suc (n - (i + 1)) = omega arith in
    let low : a % 65536 ≡ a = omega arith in
    rw (more, scanned-mod m x (a + form % 128) form (n - (i + 1)), low, here, ne_eqb v x other) refl

pub scan_fault : (m : MemoryMap) (x a form i n : ℕ) (f : Fault) → a < 65536 → i < n → field_at m form a ≡ Err f
    → scanned m x a form (n - i) ≡ Err f
unfolding scanned step
scan_fault m x a form i n f word h here =
    let more : n - i ≡ suc (n - (i + 1)) = omega arith in
    let low : a % 65536 ≡ a = omega arith in
    rw (more, low, here) refl

pub scan_end : (m : MemoryMap) (x a form i n : ℕ) → n ≤ i → scanned m x a form (n - i) ≡ Ok None
unfolding scanned
scan_end m x a form i n h = let none : n - i ≡ 0 = omega arith in rw none refl
