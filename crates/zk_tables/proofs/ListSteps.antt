-- One property more of a list.
use Rattle.std.proofs.Common.{◌≡◌, ◌≢◌, ℕ, ◌+◌, ◌<◌, true, false, List, [], ◌∷◌, Option, Some, None, Result, Ok, Err}
use Rattle.std.proofs.Common.{refl, sym, ◌∙◌, ap, arith, eqb}
use Rattle.std.specs.Prelude.{IsOk}
use Rattle.std.proofs.lemmas.Bool.{ne_eqb, eq-eqb}
use Rattle.zk_mem.specs.declared.fault.Fault.{Fault}
use Rattle.zk_mem.specs.declared.fault.Fault.TheVariants.{BadProperty}
use Rattle.zk_mem.specs.Results.{◌>>=◌}
use Rattle.zk_mem.specs.Map.{MemoryMap, readable_end}
use Rattle.zk_tables.specs.declared.lists.Property.{Property}
use Rattle.zk_tables.specs.PropertyList.{list_byte, property_at, property_by, properties_at, with_rest, first_with}
use Rattle.zk_tables.specs.PropertyList.{first_number, number_after, found_at, first_number_from, first_number_at}
use Rattle.zk_tables.specs.PropertyList.{number_after_at}
use Rattle.zk_tables.proofs.Steps.{fault_in, no_fault, its_fault, bind_ok, value_of, not_err}
use Rattle.zk_tables.proofs.ListFuel.{list_byte_below, list_read_as, list_unrolled}

list_next : (m : MemoryMap) (a : ℕ) (p : Property) → property_at m a ≡ Ok (Some p)
    → properties_at m a ≡ (properties_at m (p.address + p.length) >>= λ ps. Ok (p ∷ ps))
list_next m a p h = list_read_as m a (Ok (Some p)) h

pub list_end : (m : MemoryMap) (a : ℕ) → property_at m a ≡ Ok None → properties_at m a ≡ Ok []
list_end m a h = list_read_as m a (Ok None) h

pub list_stops : (m : MemoryMap) (a : ℕ) (e : Fault) → property_at m a ≡ Err e → properties_at m a ≡ Err e
list_stops m a e h = list_read_as m a (Err e) h

fault_behind : (r : Result (List Property) Fault) (p : Property) → fault_in (r >>= λ ps. Ok (p ∷ ps)) ≡ fault_in r
fault_behind (Ok ps) p = refl
fault_behind (Err e) p = refl

-- the fault of a list is that of what is left
pub list_fault_next : (m : MemoryMap) (a : ℕ) (p : Property) → property_at m a ≡ Ok (Some p)
    → fault_in (properties_at m a) ≡ fault_in (properties_at m (p.address + p.length))
list_fault_next m a p h = ap (λ (r : Result (List Property) Fault). fault_in r) (list_next m a p h)
    ∙ fault_behind (properties_at m (p.address + p.length)) p

-- what is left decides
pub list_done : (m : MemoryMap) (first a : ℕ) → fault_in (properties_at m a) ≡ fault_in (properties_at m first)
    → properties_at m a ≡ Ok [] → IsOk (properties_at m first)
list_done m first a same h =
    no_fault (properties_at m first) (sym same ∙ ap (λ (r : Result (List Property) Fault). fault_in r) h)

pub list_failed : (m : MemoryMap) (first a : ℕ) (e : Fault) → fault_in (properties_at m a) ≡ fault_in
    (properties_at m first) → properties_at m a ≡ Err e → properties_at m first ≡ Err e
list_failed m first a e same h =
    its_fault (properties_at m first) e (sym same ∙ ap (λ (r : Result (List Property) Fault). fault_in r) h)

-- ---- the first property of a number

skip : (r : Result (List Property) Fault) (p : Property) (n : ℕ) → eqb p.number n ≡ false
    → (r >>= (λ ps. Ok (p ∷ ps)) >>= λ ps. Ok (first_with n ps)) ≡ (r >>= λ ps. Ok (first_with n ps))
skip (Ok ps) p n h = rw h refl
skip (Err e) p n h = refl

pub found_next : (m : MemoryMap) (a n : ℕ) (p : Property) → property_at m a ≡ Ok (Some p) → p.number ≢ n
    → found_at m a n ≡ found_at m (p.address + p.length) n
unfolding found_at
found_next m a n p h other =
    rw (list_next m a p h) (skip (properties_at m (p.address + p.length)) p n (ne_eqb p.number n other))

pub found_end : (m : MemoryMap) (a n : ℕ) → property_at m a ≡ Ok None → found_at m a n ≡ Ok None
unfolding found_at
found_end m a n h = rw (list_end m a h) refl

pub found_stops : (m : MemoryMap) (a n : ℕ) (e : Fault) → property_at m a ≡ Err e → found_at m a n ≡ Err e
unfolding found_at
found_stops m a n e h = rw (list_stops m a e h) refl

found : (r : Result (List Property) Fault) (p : Property) (n : ℕ) → eqb p.number n ≡ true → IsOk r
    → (r >>= (λ ps. Ok (p ∷ ps)) >>= λ ps. Ok (first_with n ps)) ≡ Ok (Some p)
found (Ok ps) p n h ok = rw h refl
found (Err e) p n h ok = absurd cc

pub found_here : (m : MemoryMap) (a n : ℕ) (p : Property) → property_at m a ≡ Ok (Some p) → p.number ≡ n
    → IsOk (properties_at m (p.address + p.length)) → found_at m a n ≡ Ok (Some p)
unfolding found_at
found_here m a n p h same ok =
    rw (list_next m a p h) (found (properties_at m (p.address + p.length)) p n (eq-eqb p.number n same) ok)

pub found_bad : (m : MemoryMap) (a n : ℕ) (p : Property) (e : Fault) → property_at m a ≡ Ok (Some p)
    → properties_at m (p.address + p.length) ≡ Err e → found_at m a n ≡ Err e
unfolding found_at
found_bad m a n p e h bad = rw (list_next m a p h, bad) refl

-- ---- the first number

first_is : (m : MemoryMap) (a : ℕ) → first_number_at m a ≡ (properties_at m a >>= λ ps. Ok (first_number ps))
unfolding first_number_at first_number_from properties_at
first_is m a = refl

pub first_bad : (m : MemoryMap) (a : ℕ) (e : Fault) → properties_at m a ≡ Err e → first_number_at m a ≡ Err e
first_bad m a e h = rw (first_is m a, h) refl

numbered : (r : Result (List Property) Fault) (p : Property) → IsOk (r >>= λ ps. Ok (p ∷ ps))
    → (r >>= (λ ps. Ok (p ∷ ps)) >>= λ ps. Ok (first_number ps)) ≡ Ok p.number
numbered (Ok ps) p ok = refl
numbered (Err e) p ok = absurd cc

pub first_some : (m : MemoryMap) (a : ℕ) (p : Property) → IsOk (properties_at m a) → property_at m a ≡ Ok (Some p)
    → first_number_at m a ≡ Ok p.number
first_some m a p ok h =
    rw (first_is m a, list_next m a p h) (numbered (properties_at m (p.address + p.length)) p
    (rw (list_next m a p h) at ok))

pub first_none : (m : MemoryMap) (a : ℕ) → property_at m a ≡ Ok None → first_number_at m a ≡ Ok 0
first_none m a h = rw (first_is m a, list_end m a h) refl

pub first_stops : (m : MemoryMap) (a : ℕ) (e : Fault) → IsOk (properties_at m a) → property_at m a ≡ Err e → ⊥
first_stops m a e ok h = not_err (properties_at m a) e ok (list_stops m a e h)

-- ---- the number after it

skip_after : (r : Result (List Property) Fault) (p : Property) (n : ℕ) → eqb p.number n ≡ false
    → (r >>= (λ ps. Ok (p ∷ ps)) >>= λ ps. number_after n ps) ≡ (r >>= λ ps. number_after n ps)
skip_after (Ok ps) p n h = rw h refl
skip_after (Err e) p n h = refl

pub after_next : (m : MemoryMap) (a n : ℕ) (p : Property) → property_at m a ≡ Ok (Some p) → p.number ≢ n
    → number_after_at m a n ≡ number_after_at m (p.address + p.length) n
unfolding number_after_at
after_next m a n p h other =
    rw (list_next m a p h) (skip_after (properties_at m (p.address + p.length)) p n (ne_eqb p.number n other))

pub after_end : (m : MemoryMap) (a n : ℕ) → property_at m a ≡ Ok None → number_after_at m a n ≡ Err BadProperty
unfolding number_after_at
after_end m a n h = rw (list_end m a h) refl

pub after_stops : (m : MemoryMap) (a n : ℕ) (e : Fault) → property_at m a ≡ Err e → number_after_at m a n ≡ Err e
unfolding number_after_at
after_stops m a n e h = rw (list_stops m a e h) refl

after : (r : Result (List Property) Fault) (p : Property) (n : ℕ) → eqb p.number n ≡ true
    → (r >>= (λ ps. Ok (p ∷ ps)) >>= λ ps. number_after n ps) ≡ (r >>= λ ps. Ok (first_number ps))
after (Ok ps) p n h = rw h refl
after (Err e) p n h = refl

pub after_here : (m : MemoryMap) (a n : ℕ) (p : Property) → property_at m a ≡ Ok (Some p) → p.number ≡ n
    → number_after_at m a n ≡ first_number_at m (p.address + p.length)
unfolding number_after_at
after_here m a n p h same =
    rw (list_next m a p h, first_is m (p.address + p.length))
    (after (properties_at m (p.address + p.length)) p n (eq-eqb p.number n same))

-- ---- a list begins in data

property_below : (m : MemoryMap) (a : ℕ) (r : Option Property) → property_at m a ≡ Ok r → a < readable_end m
unfolding property_at
property_below m a r h = let e = bind_ok (list_byte m a) (property_by m a) r h in list_byte_below m a e.0 e.1

pub list_below : (m : MemoryMap) (a : ℕ) → IsOk (properties_at m a) → a < 65536
list_below m a ok =
    let v = value_of (properties_at m a) ok in
    let e = bind_ok (property_at m a) (λ p. with_rest p (λ b. properties_at m b)) v.0 (sym (list_unrolled m a) ∙ v.1) in
    let below = property_below m a e.0 e.1 in
    omega arith
