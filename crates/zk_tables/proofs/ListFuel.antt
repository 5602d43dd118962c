-- A list as its first property and the rest: so many properties as data has addresses are never used up.
use Rattle.std.proofs.Common.{◌≡◌, ℕ, zero, suc, ◌+◌, ◌<◌, ◌≤◌, Bool, true, false, cond, Option, Some, None, Result, Ok}
use Rattle.std.proofs.Common.{Err, refl, arith, ap, ◌∙◌, eqb, inl, inr, nat_lt}
use Rattle.std.proofs.lemmas.Bool.{ltb-true}
use Rattle.std.proofs.lemmas.Bool.Decides.{nat_tests}
use Rattle.zk_mem.specs.declared.fault.Fault.{Fault}
use Rattle.zk_mem.specs.declared.fault.Fault.TheVariants.{BadProperty}
use Rattle.zk_mem.specs.Map.{MemoryMap, readable_end}
use Rattle.zk_mem.specs.Results.{◌>>=◌}
use Rattle.zk_tables.specs.declared.lists.Property.{Property}
use Rattle.zk_tables.specs.PropertyList.{list_byte, property_at, property_by, properties_from, properties_at, with_rest}
use Rattle.zk_tables.proofs.Steps.{bind_ok, chosen}
use Rattle.zk_tables.proofs.ListLaw.{same_property}

-- a list begins in data
byte_below : (b : Bool) (r : Result ℕ Fault) (x : ℕ) → cond b r (Err BadProperty) ≡ Ok x → b ≡ true
byte_below true r x h = refl
byte_below false r x h = absurd cc

pub list_byte_below : (m : MemoryMap) (a x : ℕ) → list_byte m a ≡ Ok x → a < readable_end m
unfolding list_byte
list_byte_below m a x h = ltb-true a (readable_end m) (byte_below (nat_lt a (readable_end m)) _ x h)

-- a property ends after where it begins
pub property_onward : (m : MemoryMap) (a : ℕ) (p : Property) → property_at m a ≡ Ok (Some p) → a < p.address + p.length
unfolding property_at property_by
property_onward m a p h =
    let e = bind_ok (list_byte m a) (property_by m a) (Some p) h in
    elim (chosen (eqb e.0 0) _ _ _ e.2) [
      | inl t ↦ absurd cc
      | inr t ↦ elim (chosen (nat_lt m.version 4) _ _ _ t.1) [
        | inl v ↦ rw (← same_property _ p v.1) (omega arith)
        | inr v ↦ elim (chosen (nat_lt e.0 128) _ _ _ v.1) [
          | inl s ↦ rw (← same_property _ p s.1) (omega arith)
          | inr s ↦ (let r = bind_ok (list_byte m (a + 1)) _ (Some p) s.1 in rw (← same_property _ p r.2) (omega arith))
        ]
      ]
    ]

-- after data no property is read
property_behind : (m : MemoryMap) (a : ℕ) → readable_end m ≤ a → property_at m a ≡ Err BadProperty
unfolding property_at list_byte
property_behind m a h = let t : nat_lt a (readable_end m) ≡ false = grind (arith, nat_tests) in rw t refl

same_rest : (m : MemoryMap) (j k a : ℕ) (r : Result (Option Property) Fault) → property_at m a ≡ r
    → ((b : ℕ) → a < b → properties_from m j b ≡ properties_from m k b)
    → (r >>= λ p. with_rest p (λ b. properties_from m j b)) ≡ (r >>= λ p. with_rest p (λ b. properties_from m k b))
same_rest m j k a (Err e) h rest = refl
same_rest m j k a (Ok None) h rest = refl
same_rest m j k a (Ok (Some p)) h rest = rw (rest (p.address + p.length) (property_onward m a p h)) refl

-- enough is enough
same_list : (m : MemoryMap) (j k a : ℕ) → readable_end m ≤ a + j → readable_end m ≤ a + k
    → properties_from m j a ≡ properties_from m k a
unfolding properties_from
same_list m zero zero a enough plenty = refl
same_list m zero (suc k) a enough plenty = rw (property_behind m a (omega arith)) refl
same_list m (suc j) zero a enough plenty = rw (property_behind m a (omega arith)) refl
same_list m (suc j) (suc k) a enough plenty =
    same_rest m j k a (property_at m a) refl (λ b onward. same_list m j k b (omega arith) (omega arith))

one_more : (m : MemoryMap) (n a : ℕ) → readable_end m ≤ n
    → properties_from m n a ≡ (property_at m a >>= λ p. with_rest p (λ b. properties_from m n b))
unfolding properties_from
one_more m n a enough = same_list m n (suc n) a (omega arith) (omega arith)

-- the first property, and the list after it
pub list_unrolled : (m : MemoryMap) (a : ℕ)
    → properties_at m a ≡ (property_at m a >>= λ p. with_rest p (λ b. properties_at m b))
unfolding properties_at
list_unrolled m a = one_more m (readable_end m) a (omega arith)

pub list_read_as : (m : MemoryMap) (a : ℕ) (r : Result (Option Property) Fault) → property_at m a ≡ r
    → properties_at m a ≡ (r >>= λ p. with_rest p (λ b. properties_at m b))
list_read_as m a r h =
    list_unrolled m a ∙ ap (λ (x : Result (Option Property) Fault). x >>= λ p. with_rest p (λ b. properties_at m b)) h
