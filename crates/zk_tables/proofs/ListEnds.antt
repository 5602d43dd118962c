-- Where properties end.
use Rattle.std.proofs.Common.{◌≡◌, ◌∙◌, ℕ, ◌+◌, ◌-◌, ◌/◌, ◌%◌, ◌<◌, ◌≤◌, Some, None, Ok, Err, refl, arith}
use Rattle.std.proofs.lemmas.Bool.{ne_eqb, lt-ltb, le-ltb}
use Rattle.zk_mem.specs.declared.fault.Fault.{Fault}
use Rattle.zk_mem.specs.Map.{MemoryMap, readable_end}
use Rattle.zk_tables.specs.PropertyList.{EndsAt, list_byte, long_length, property_at, property_by}
use Rattle.zk_tables.proofs.ListFuel.{list_byte_below, property_onward}

pub ends_early : (m : MemoryMap) (a first end : ℕ) → (first ≡ 0 → ⊥) → m.version < 4 → a + 2 + first / 32 ≡ end
    → EndsAt m a first end
unfolding property_by
ends_early m a first end more old is = record {
  property = record { number = first % 32; address = a + 1; length = first / 32 + 1 };
  read = rw (ne_eqb first 0 more, lt-ltb m.version 4 old) refl;
  number = rw (lt-ltb m.version 4 old) refl;
  behind = omega arith;
}

pub ends_short : (m : MemoryMap) (a first end : ℕ) → (first ≡ 0 → ⊥) → 4 ≤ m.version → first < 128
    → a + 2 + first / 64 ≡ end → EndsAt m a first end
unfolding property_by
ends_short m a first end more late lt is = record {
  property = record { number = first % 64; address = a + 1; length = first / 64 + 1 };
  read = rw (ne_eqb first 0 more, le-ltb m.version 4 late, lt-ltb first 128 lt) refl;
  number = rw (le-ltb m.version 4 late) refl;
  behind = omega arith;
}

pub ends_long : (m : MemoryMap) (a first second end : ℕ) → (first ≡ 0 → ⊥) → 4 ≤ m.version → 128 ≤ first
    → list_byte m (a + 1) ≡ Ok second → a + 2 + long_length second ≡ end → EndsAt m a first end
unfolding property_by
ends_long m a first second end more late ge read is = record {
  property = record { number = first % 64; address = a + 2; length = long_length second };
  read = rw (ne_eqb first 0 more, le-ltb m.version 4 late, le-ltb first 128 ge, read) refl;
  number = rw (le-ltb m.version 4 late) refl;
  behind = is;
}

-- the byte at the front decides
pub list_read : (m : MemoryMap) (a first : ℕ) → list_byte m a ≡ Ok first → property_at m a ≡ property_by m a first
unfolding property_at
list_read m a first h = rw h refl

pub list_unread : (m : MemoryMap) (a : ℕ) (e : Fault) → list_byte m a ≡ Err e → property_at m a ≡ Err e
unfolding property_at
list_unread m a e h = rw h refl

pub list_ends : (m : MemoryMap) (a first : ℕ) → list_byte m a ≡ Ok first → first ≡ 0 → property_at m a ≡ Ok None
unfolding property_at property_by
list_ends m a first h zero = rw (h, zero) refl

pub list_fails : (m : MemoryMap) (a first : ℕ) (e : Fault) → list_byte m a ≡ Ok first
    → property_by m a first ≡ Err e → property_at m a ≡ Err e
list_fails m a first e h k = list_read m a first h ∙ k

pub list_goes_on : (m : MemoryMap) (a first end : ℕ) → list_byte m a ≡ Ok first → (at : EndsAt m a first end)
    → property_at m a ≡ Ok (Some at.property)
list_goes_on m a first end h at = list_read m a first h ∙ at.read

-- after each property less of data is left
pub less_left : (m : MemoryMap) (a first end : ℕ) → list_byte m a ≡ Ok first → EndsAt m a first end
    → readable_end m - end < readable_end m - a
less_left m a first end h at =
    let inside = list_byte_below m a first h in
    let onward = property_onward m a at.property (list_goes_on m a first end h at) in
    let behind = at.behind in
    omega arith
