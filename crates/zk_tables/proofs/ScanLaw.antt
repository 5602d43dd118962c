-- What a scan finds is first.
use Rattle.std.proofs.Common.{◌≡◌, ◌<◌, ℕ, zero, suc, ◌+◌, ◌%◌, nat_eq, Some, None, Result, Ok, Err, refl, sym, ap, ◌∙◌}
use Rattle.std.proofs.Common.{arith, inl, inr}
use Rattle.std.proofs.lemmas.Bool.{eqb-true, eqb-false, cases_Bool}
use Rattle.zk_mem.specs.declared.fault.Fault.{Fault}
use Rattle.zk_mem.specs.Map.{MemoryMap}
use Rattle.zk_tables.specs.Scanning.{field_at, entry_length, entry_at, Differs, IsFirst, IsNowhere, IsCutOff, scanned}
use Rattle.zk_tables.specs.Scanning.{ScansAreFirst}

-- one entry: it is the first, it differs and the rest decides, or it can't be read
data Looked (m : MemoryMap) (x a form n : ℕ) : Type 0 where
  finds : field_at m form (a % 65536) ≡ Ok x → scanned m x a form (suc n) ≡ Ok (Some (a % 65536)) → Looked m x a form n
  passes : Differs m form x (a % 65536) → scanned m x a form (suc n) ≡ scanned m x (a + entry_length form) form n
      → Looked m x a form n
  ends : (f : Fault) → field_at m form (a % 65536) ≡ Err f → scanned m x a form (suc n) ≡ Err f → Looked m x a form n

looked_at : (m : MemoryMap) (x a form n : ℕ) (r : Result ℕ Fault) → field_at m form (a % 65536) ≡ r
    → Looked m x a form n
unfolding scanned
looked_at m x a form n (Err f) h = ends f h (rw h refl)
looked_at m x a form n (Ok v) h = elim (cases_Bool (nat_eq v x)) [
  | inl same ↦ finds (h ∙ ap Ok (eqb-true v x same)) (rw (h, same) refl)
  | inr other ↦ passes (v, h, eqb-false v x other) (rw (h, other) refl)
]

looked : (m : MemoryMap) (x a form n : ℕ) → Looked m x a form n
looked m x a form n = looked_at m x a form n (field_at m form (a % 65536)) refl

entry_first : (a form : ℕ) → entry_at a form 0 ≡ a % 65536
entry_first a form = omega arith

entry_next : (a form k : ℕ) → entry_at a form (suc k) ≡ entry_at (a + entry_length form) form k
entry_next a form k = omega arith

-- entries before another
before_on : (m : MemoryMap) (x a form k : ℕ) → Differs m form x (a % 65536)
    → ((i : ℕ) → i < k → Differs m form x (entry_at (a + entry_length form) form i)) → (j : ℕ) → j < suc k
    → Differs m form x (entry_at a form j)
before_on m x a form k first rest zero below = rw (entry_first a form) first
before_on m x a form k first rest (suc i) below = rw (entry_next a form i) (rest i (omega arith))

found_first : (m : MemoryMap) (x table form n a : ℕ) → field_at m form (table % 65536) ≡ Ok x → a ≡ table % 65536
    → (k : ℕ) × (a ≡ entry_at table form k) × IsFirst m x table form (suc n) k
found_first m x table form n a h is = (
  0,
  is ∙ sym (entry_first table form),
  record {
    within = omega arith;
    here = rw (entry_first table form) h;
    before = λ j below. absurd (omega arith);
  },
)

found_on : (m : MemoryMap) (x table form n a : ℕ) → Differs m form x (table % 65536)
    → (k : ℕ) × (a ≡ entry_at (table + entry_length form) form k) × IsFirst m x (table + entry_length form) form n k
    → (k : ℕ) × (a ≡ entry_at table form k) × IsFirst m x table form (suc n) k
found_on m x table form n a first p =
    let k = p.0 in
    let rest = p.2 in
    let within = rest.within in (
      suc k,
      p.1 ∙ sym (entry_next table form k),
      record {
        within = omega arith;
        here = rw (entry_next table form k) rest.here;
        before = before_on m x table form k first rest.before;
      },
    )

found : (m : MemoryMap) (x table form n a : ℕ) → scanned m x table form n ≡ Ok (Some a)
    → (k : ℕ) × (a ≡ entry_at table form k) × IsFirst m x table form n k
unfolding scanned
found m x table form zero a h = let never : ⊥ = cc in absurd never
found m x table form (suc n) a h = go (looked m x table form n) (found m x (table + entry_length form) form n a)
  where
    go : Looked m x table form n → (scanned m x (table + entry_length form) form n ≡ Ok (Some a)
        → (k : ℕ) × (a ≡ entry_at (table + entry_length form) form k) × IsFirst m x (table + entry_length form)
        form n k) → (k : ℕ) × (a ≡ entry_at table form k) × IsFirst m x table form (suc n) k
    go (finds here is) rest = found_first m x table form n a here (cc)
    go (passes first is) rest = found_on m x table form n a first (rest (sym is ∙ h))
    go (ends f here is) rest = let never : ⊥ = cc in absurd never

nowhere : (m : MemoryMap) (x table form n : ℕ) → scanned m x table form n ≡ Ok None → IsNowhere m x table form n
unfolding scanned
nowhere m x table form zero h = λ j below. absurd (omega arith)
nowhere m x table form (suc n) h = go (looked m x table form n) (nowhere m x (table + entry_length form) form n)
  where
    go : Looked m x table form n → (scanned m x (table + entry_length form) form n ≡ Ok None
        → IsNowhere m x (table + entry_length form) form n) → IsNowhere m x table form (suc n)
    go (finds here is) rest = let never : ⊥ = cc in absurd never
    go (passes first is) rest = before_on m x table form n first (rest (sym is ∙ h))
    go (ends f here is) rest = let never : ⊥ = cc in absurd never

cut_first : (m : MemoryMap) (x table form n : ℕ) (f : Fault) → field_at m form (table % 65536) ≡ Err f
    → (k : ℕ) × IsCutOff m x table form (suc n) k f
cut_first m x table form n f h = (
  0,
  record {
    within = omega arith;
    here = rw (entry_first table form) h;
    before = λ j below. absurd (omega arith);
  },
)

cut_on : (m : MemoryMap) (x table form n : ℕ) (f : Fault) → Differs m form x (table % 65536)
    → (k : ℕ) × IsCutOff m x (table + entry_length form) form n k f → (k : ℕ) × IsCutOff m x table form (suc n) k f
cut_on m x table form n f first p =
    let k = p.0 in
    let rest = p.1 in
    let within = rest.within in (
      suc k,
      record {
        within = omega arith;
        here = rw (entry_next table form k) rest.here;
        before = before_on m x table form k first rest.before;
      },
    )

refused : (m : MemoryMap) (x table form n : ℕ) (f : Fault) → scanned m x table form n ≡ Err f
    → (k : ℕ) × IsCutOff m x table form n k f
unfolding scanned
refused m x table form zero f h = let never : ⊥ = cc in absurd never
refused m x table form (suc n) f h = go (looked m x table form n) (refused m x (table + entry_length form) form n f)
  where
    go : Looked m x table form n → (scanned m x (table + entry_length form) form n ≡ Err f
        → (k : ℕ) × IsCutOff m x (table + entry_length form) form n k f) → (k : ℕ) × IsCutOff m x table form (suc n) k f
    go (finds here is) rest = let never : ⊥ = cc in absurd never
    go (passes first is) rest = cut_on m x table form n f first (rest (sym is ∙ h))
    go (ends g here is) rest = let same : g ≡ f = cc in cut_first m x table form n f (here ∙ ap Err same)

pub scans_are_first : ScansAreFirst
scans_are_first = record { found = found; nowhere = nowhere; refused = refused }
