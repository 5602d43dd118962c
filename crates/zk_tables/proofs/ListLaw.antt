-- Property lists: what is read is what the bytes spell.
use Rattle.std.proofs.Common.{◌≡◌, ◌≢◌, ℕ, zero, suc, ◌+◌, ◌*◌, ◌-◌, ◌/◌, ◌%◌, ◌<◌, ◌≤◌, true, false, List, [], ◌∷◌}
use Rattle.std.proofs.Common.{length, Option, Some, None, Result, Ok, Err, refl, ap, sym, ◌∙◌, arith, eqb, inl, inr}
use Rattle.std.proofs.Common.{◌⊎◌, nat_lt}
use Rattle.std.specs.Prelude.{get_or}
use Rattle.std.proofs.lemmas.Option.{slice_get-get_or}
use Rattle.std.proofs.lemmas.Bool.{eqb-true, eq-eqb, ne_eqb, ltb-true, ltb-false, cases_Bool}
use Rattle.std.proofs.lemmas.Bool.Decides.{nat_tests}
use Rattle.zk_mem.specs.declared.fault.Fault.{Fault}
use Rattle.zk_mem.specs.declared.fault.Fault.TheVariants.{BadAddress, BadProperty}
use Rattle.zk_mem.specs.Map.{MemoryMap, readable_end, byte_at, cell_at, HasBytes}
use Rattle.zk_tables.specs.declared.lists.Property.{Property}
use Rattle.zk_tables.specs.PropertyList.{Spelling, Early, One, Two, size_bytes, IsWithin, Stands, IsProperty}
use Rattle.zk_tables.specs.PropertyList.{AreProperties, IsPropertyList, LacksSize, LeavesData, list_byte, long_length}
use Rattle.zk_tables.specs.PropertyList.{property_by, property_at, with_rest, properties_from, properties_at}
use Rattle.zk_tables.specs.PropertyList.{ListsAreRead, AtMostOneList}
use Rattle.zk_tables.proofs.Steps.{bind_ok, bind_err, chosen, same_value}

-- ---- one byte

abbrev byte_done : ℕ → Result ℕ Fault
byte_done x = Ok x

byte_found : (m : MemoryMap) (a x : ℕ) → byte_at m a ≡ Ok x → (nat_lt a (readable_end m) ≡ true)
    × (get_or m.bytes a 0 ≡ x)
unfolding byte_at
byte_found m a x h =
    elim (chosen (nat_lt a (readable_end m)) _ _ _ h) [ inl t ↦ (t.0, same_value _ x t.1) | inr t ↦ absurd cc ]

pub byte_below : (m : MemoryMap) (a x : ℕ) → byte_at m a ≡ Ok x → a < readable_end m
byte_below m a x h = ltb-true a (readable_end m) (byte_found m a x h).0

pub byte_small : (m : MemoryMap) (a x : ℕ) → HasBytes m → byte_at m a ≡ Ok x → x < 256
unfolding cell_at
byte_small m a x fits h =
    let f = byte_found m a x h in
    let low : a < readable_end m = ltb-true a (readable_end m) f.0 in
    let inside : a < length m.bytes = omega arith in
    let there : cell_at m a ≡ Some x = slice_get-get_or m.bytes a 0 inside ∙ ap Some f.1 in
    fits.below a x there

-- a byte of a list is a byte of data
takes_byte : (m : MemoryMap) (a x : ℕ) → list_byte m a ≡ Ok x → byte_at m a ≡ Ok x
unfolding list_byte
takes_byte m a x h = elim (chosen (nat_lt a (readable_end m)) _ _ _ h) [ inl t ↦ t.1 | inr t ↦ absurd cc ]

byte_again : (m : MemoryMap) (a x : ℕ) → byte_at m a ≡ Ok x → list_byte m a ≡ Ok x
unfolding list_byte
byte_again m a x h = let t = (byte_found m a x h).0 in rw t h

lacks_byte : (m : MemoryMap) (a : ℕ) (e : Fault) → list_byte m a ≡ Err e → (e ≡ BadProperty)
    × (byte_at m a ≡ Err BadAddress)
unfolding list_byte byte_at
lacks_byte m a e h = elim (cases_Bool (nat_lt a (readable_end m))) [
  | inl t ↦ (let g = rw t at h in absurd cc)
  | inr t ↦ (let g = rw t at h in let is : e ≡ BadProperty = cc in (is, rw t refl))
]

byte_lacking : (m : MemoryMap) (a : ℕ) → byte_at m a ≡ Err BadAddress → list_byte m a ≡ Err BadProperty
unfolding list_byte byte_at
byte_lacking m a h = elim (cases_Bool (nat_lt a (readable_end m))) [
  | inl t ↦ (let g = rw t at h in absurd cc)
  | inr t ↦ rw t refl
]

byte_outside : (m : MemoryMap) (a : ℕ) → readable_end m ≤ a → byte_at m a ≡ Err BadAddress
unfolding byte_at
byte_outside m a h = let t : nat_lt a (readable_end m) ≡ false = grind (arith, nat_tests) in rw t refl

-- ---- one property

abbrev made : ℕ → ℕ → ℕ → Property
made n a l = record { number = n; address = a; length = l }

abbrev some_property : Property → Result (Option Property) Fault
some_property p = Ok (Some p)

pub same_property : (p q : Property) → some_property p ≡ some_property q → p ≡ q
same_property p q e = cc

early_takes : (m : MemoryMap) (a first : ℕ) → first < 256 → m.version < 4 → first ≢ 0 → byte_at m a ≡ Ok first
    → IsProperty m a (made (first % 32) (a + 1) (first / 32 + 1))
early_takes m a first small low some h =
    let same : first ≡ 32 * (first / 32 + 1 - 1) + first % 32 = omega arith in
    record {
      spelling = Early;
      within = (low, omega arith, omega arith, omega arith);
      bytes = (h ∙ ap (λ (x : ℕ). byte_done x) same, refl);
      more = λ z. some (same_value first 0 (sym h ∙ z));
    }

one_takes : (m : MemoryMap) (a first : ℕ) → first < 128 → 4 ≤ m.version → first ≢ 0 → byte_at m a ≡ Ok first
    → IsProperty m a (made (first % 64) (a + 1) (first / 64 + 1))
one_takes m a first small low some h =
    let same : first ≡ 64 * (first / 64 + 1 - 1) + first % 64 = omega arith in
    record {
      spelling = One;
      within = (low, omega arith, omega arith, omega arith);
      bytes = (h ∙ ap (λ (x : ℕ). byte_done x) same, refl);
      more = λ z. some (same_value first 0 (sym h ∙ z));
    }

-- a length of 64 is 0 in its byte
length_cases : (s : ℕ) → (long_length s % 64 ≡ s % 64) × (1 ≤ long_length s) × (long_length s ≤ 64)
length_cases s = elim (cases_Bool (eqb (s % 64) 0)) [
  | inl t ↦ (let z : s % 64 ≡ 0 = eqb-true (s % 64) 0 t in rw t (sym z, omega arith, omega arith))
  | inr t ↦ (let some : s % 64 ≡ 0 → ⊥ = λ z. (let yes = eq-eqb (s % 64) 0 z in absurd cc) in
      rw t (omega arith, omega arith, omega arith))
]

length_again : (y l : ℕ) → 1 ≤ l → l ≤ 64 → long_length (64 * y + l % 64) ≡ l
length_again y l low high = elim (cases_Bool (eqb ((64 * y + l % 64) % 64) 0)) [
  | inl t ↦ (let z = eqb-true ((64 * y + l % 64) % 64) 0 t in rw t (omega arith))
  | inr t ↦ (let some : (64 * y + l % 64) % 64 ≡ 0 → ⊥ = λ z. (let yes = eq-eqb ((64 * y + l % 64) % 64) 0 z in
      absurd cc) in rw t (omega arith))
]

two_takes : (m : MemoryMap) (a first second : ℕ) → first < 256 → 128 ≤ first → 4 ≤ m.version
    → byte_at m a ≡ Ok first → byte_at m (a + 1) ≡ Ok second
    → IsProperty m a (made (first % 64) (a + 2) (long_length second))
two_takes m a first second small high low h k =
    let l = length_cases second in
    let same : first ≡ 128 + 64 * (first / 64 - 2) + first % 64 = omega arith in
    let again : second ≡ 64 * (second / 64) + long_length second % 64 = rw l.0 (omega arith) in
    record {
      spelling = Two (first / 64 - 2) (second / 64);
      within = (low, omega arith, l.1, l.2, omega arith);
      bytes = (h ∙ ap (λ (x : ℕ). byte_done x) same, (k ∙ ap (λ (x : ℕ). byte_done x) again, omega arith));
      more = λ z. (let none : first ≡ 0 = same_value first 0 (sym h ∙ z) in omega arith);
    }

pub property_takes : (m : MemoryMap) (a : ℕ) (p : Property) → HasBytes m → property_at m a ≡ Ok (Some p)
    → IsProperty m a p
unfolding property_at property_by
property_takes m a p fits h =
    let e = bind_ok (list_byte m a) (property_by m a) (Some p) h in
    let first = e.0 in
    let at = takes_byte m a first e.1 in
    let small = byte_small m a first fits at in
    elim (chosen (eqb first 0) _ _ _ e.2) [
      | inl t ↦ absurd cc
      | inr t ↦ (let some : first ≢ 0 = λ z. (let yes = eq-eqb first 0 z in absurd cc) in
          elim (chosen (nat_lt m.version 4) _ _ _ t.1) [
            | inl v ↦ (let low = ltb-true m.version 4 v.0 in
                rw (← same_property _ p v.1) (early_takes m a first small low some at))
            | inr v ↦ (let late : 4 ≤ m.version = ltb-false m.version 4 v.0 in
                elim (chosen (nat_lt first 128) _ _ _ v.1) [
                  | inl s ↦ rw (← same_property _ p s.1) (one_takes m a first (ltb-true first 128 s.0) late some at)
                  | inr s ↦ (let r = bind_ok (list_byte m (a + 1)) _ (Some p) s.1 in
                      rw (← same_property _ p r.2) (two_takes m a first r.0 small (ltb-false first 128 s.0) late
                      at (takes_byte m (a + 1) r.0 r.1)))
                ])
          ])
    ]

byte_not_zero : (m : MemoryMap) (a x : ℕ) → byte_at m a ≡ Ok x → byte_at m a ≢ Ok 0 → eqb x 0 ≡ false
byte_not_zero m a x h ne = ne_eqb x 0 (λ z. ne (h ∙ ap (λ (y : ℕ). byte_done y) z))

-- the property that its bytes spell is read
pub spelled_again : (m : MemoryMap) (a : ℕ) (p : Property) (s : Spelling) → IsWithin m.version s p
    → Stands m a (size_bytes s p) p.address → byte_at m a ≢ Ok 0 → property_at m a ≡ Ok (Some p)
unfolding property_at property_by
spelled_again m a p Early w h ne =
    let test = byte_not_zero m a (32 * (p.length - 1) + p.number) h.0 ne in
    let early : nat_lt m.version 4 ≡ true = grind (arith, nat_tests) in
    let number : (32 * (p.length - 1) + p.number) % 32 ≡ p.number = omega arith in
    let long : (32 * (p.length - 1) + p.number) / 32 + 1 ≡ p.length = omega arith in
    let at : a + 1 ≡ p.address = h.1 in
    rw (byte_again m a _ h.0, test, early, number, long, at) refl
spelled_again m a p One w h ne =
    let test = byte_not_zero m a (64 * (p.length - 1) + p.number) h.0 ne in
    let late : nat_lt m.version 4 ≡ false = grind (arith, nat_tests) in
    let low : nat_lt (64 * (p.length - 1) + p.number) 128 ≡ true = grind (arith, nat_tests) in
    let number : (64 * (p.length - 1) + p.number) % 64 ≡ p.number = omega arith in
    let long : (64 * (p.length - 1) + p.number) / 64 + 1 ≡ p.length = omega arith in
    let at : a + 1 ≡ p.address = h.1 in
    rw (byte_again m a _ h.0, test, late, low, number, long, at) refl
spelled_again m a p (Two x y) w h ne =
    let test = byte_not_zero m a (128 + 64 * x + p.number) h.0 ne in
    let late : nat_lt m.version 4 ≡ false = grind (arith, nat_tests) in
    let high : nat_lt (128 + 64 * x + p.number) 128 ≡ false = grind (arith, nat_tests) in
    let number : (128 + 64 * x + p.number) % 64 ≡ p.number = omega arith in
    let long : long_length (64 * y + p.length % 64) ≡ p.length = length_again y p.length w.2 w.3 in
    let at : a + 2 ≡ p.address = omega (arith, h.1.1) in
    rw (byte_again m a _ h.0, test, late, high, byte_again m (a + 1) _ h.1.0, number, long, at) refl

-- ---- the end of a list, and where it is cut off

pub end_takes : (m : MemoryMap) (a : ℕ) → property_at m a ≡ Ok None → byte_at m a ≡ Ok 0
unfolding property_at property_by
end_takes m a h =
    let e = bind_ok (list_byte m a) (property_by m a) None h in
    elim (chosen (eqb e.0 0) _ _ _ e.2) [
      | inl t ↦ takes_byte m a e.0 e.1 ∙ ap (λ (x : ℕ). byte_done x) (eqb-true e.0 0 t.0)
      | inr t ↦ elim (chosen (nat_lt m.version 4) _ _ _ t.1) [
        | inl v ↦ absurd cc
        | inr v ↦ elim (chosen (nat_lt e.0 128) _ _ _ v.1) [
          | inl s ↦ absurd cc
          | inr s ↦ (let r = bind_ok (list_byte m (a + 1)) _ None s.1 in absurd cc)
        ]
      ]
    ]

pub end_again : (m : MemoryMap) (a : ℕ) → byte_at m a ≡ Ok 0 → property_at m a ≡ Ok None
unfolding property_at property_by
end_again m a h = rw (byte_again m a 0 h) refl

property_err : (m : MemoryMap) (a : ℕ) (e : Fault) → property_at m a ≡ Err e → (e ≡ BadProperty) × LacksSize m a
unfolding property_at property_by
property_err m a e h = elim (bind_err (list_byte m a) (property_by m a) e h) [
  | inl f ↦ (let l = lacks_byte m a e f in (l.0, inl l.1))
  | inr f ↦ elim (chosen (eqb f.0 0) _ _ _ f.2) [
    | inl t ↦ absurd cc
    | inr t ↦ elim (chosen (nat_lt m.version 4) _ _ _ t.1) [
      | inl v ↦ absurd cc
      | inr v ↦ elim (chosen (nat_lt f.0 128) _ _ _ v.1) [
        | inl s ↦ absurd cc
        | inr s ↦ elim (bind_err (list_byte m (a + 1)) _ e s.1) [
          | inl g ↦ (let l = lacks_byte m (a + 1) e g in
              (l.0, inr (f.0, ltb-false m.version 4 v.0, takes_byte m a f.0 f.1, ltb-false f.0 128 s.0, l.1)))
          | inr g ↦ absurd cc
        ]
      ]
    ]
  ]
]

property_lacking : (m : MemoryMap) (a : ℕ) → LacksSize m a → property_at m a ≡ Err BadProperty
unfolding property_at property_by
property_lacking m a (inl h) = rw (byte_lacking m a h) refl
property_lacking m a (inr (first, late, h, high, k)) =
    let test : eqb first 0 ≡ false = ne_eqb first 0 (λ z. omega arith) in
    let version : nat_lt m.version 4 ≡ false = grind (arith, nat_tests) in
    let top : nat_lt first 128 ≡ false = grind (arith, nat_tests) in
    rw (byte_again m a first h, test, version, top, byte_lacking m (a + 1) k) refl

-- ---- the whole list

list_takes : (m : MemoryMap) (n a : ℕ) (ps : List Property) → HasBytes m → properties_from m n a ≡ Ok ps
    → IsPropertyList m a ps
unfolding properties_from
list_takes m zero a ps fits h = absurd cc
list_takes m (suc n) a ps fits h =
    let e = bind_ok (property_at m a) (λ p. with_rest p (λ b. properties_from m n b)) ps h in
    list_after m n a e.0 ps fits e.1 e.2 (λ b qs. list_takes m n b qs fits)
  where
    list_after : (m : MemoryMap) (n a : ℕ) (r : Option Property) (ps : List Property) → HasBytes m
        → property_at m a ≡ Ok r → with_rest r (λ b. properties_from m n b) ≡ Ok ps
        → ((b : ℕ) (qs : List Property) → properties_from m n b ≡ Ok qs → IsPropertyList m b qs) → IsPropertyList m a ps
    list_after m n a None ps fits h k rest = (let none : [] ≡ ps = cc in rw (← none) (a, refl, end_takes m a h))
    list_after m n a (Some p) ps fits h k rest =
        let r = bind_ok (properties_from m n (p.address + p.length)) _ ps k in
        let all : p ∷ r.0 ≡ ps = cc in
        let l = rest (p.address + p.length) r.0 r.1 in
        rw (← all) (l.0, (property_takes m a p fits h, l.1), l.2)

record Grows (m : MemoryMap) (a : ℕ) (p : Property) : Type 0 where
  inside : a < readable_end m
  onward : a < p.address + p.length

-- a property lies before the next one
grows : (m : MemoryMap) (a : ℕ) (p : Property) (s : Spelling) → IsWithin m.version s p
    → Stands m a (size_bytes s p) p.address → Grows m a p
grows m a p Early w h = record { inside = byte_below m a _ h.0; onward = omega (arith, h.1) }
grows m a p One w h = record { inside = byte_below m a _ h.0; onward = omega (arith, h.1) }
grows m a p (Two x y) w h = record { inside = byte_below m a _ h.0; onward = omega (arith, h.1.1) }

list_again : (m : MemoryMap) (n a : ℕ) (ps : List Property) (b : ℕ) → AreProperties m a ps b → byte_at m b ≡ Ok 0
    → readable_end m ≤ n + a → properties_from m n a ≡ Ok ps
unfolding properties_from
list_again m zero a [] b p h room = let below = byte_below m b 0 h in let same : a ≡ b = p in absurd (omega arith)
list_again m (suc n) a [] b p h room = let here : byte_at m a ≡ Ok 0 = rw p h in rw (end_again m a here) refl
list_again m zero a (p ∷ ps) b q h room =
    let g = grows m a p q.0.spelling q.0.within q.0.bytes in let below = g.inside in absurd (omega arith)
list_again m (suc n) a (p ∷ ps) b q h room =
    let g = grows m a p q.0.spelling q.0.within q.0.bytes in
    let onward = g.onward in
    let rest = list_again m n (p.address + p.length) ps b q.1 h (omega arith) in
    rw (spelled_again m a p q.0.spelling q.0.within q.0.bytes q.0.more, rest) refl

-- what is read of a cut list
Cut : MemoryMap → ℕ → Fault → Type 0
Cut m a e = (e ≡ BadProperty) × LeavesData m a

cut_here : (m : MemoryMap) (a : ℕ) (e : Fault) → (e ≡ BadProperty) × LacksSize m a → Cut m a e
unfolding Cut
cut_here m a e h = (h.0, ([], a, refl, h.1))

cut_later : (m : MemoryMap) (a : ℕ) (p : Property) (e : Fault) → IsProperty m a p
    → Cut m (p.address + p.length) e → Cut m a e
unfolding Cut
cut_later m a p e h c = (c.0, (p ∷ c.1.0, c.1.1, (h, c.1.2), c.1.3))

list_cut : (m : MemoryMap) (n a : ℕ) (e : Fault) → HasBytes m → readable_end m ≤ n + a
    → properties_from m n a ≡ Err e → Cut m a e
unfolding properties_from
list_cut m zero a e fits room h =
    let is : e ≡ BadProperty = cc in cut_here m a e (is, inl (byte_outside m a (omega arith)))
list_cut m (suc n) a e fits room h =
    elim (bind_err (property_at m a) (λ p. with_rest p (λ b. properties_from m n b)) e h) [
      | inl f ↦ cut_here m a e (property_err m a e f)
      | inr f ↦ cut_after m n a f.0 e fits room f.1 f.2 (λ b low. list_cut m n b e fits low)
    ]
  where
    cut_after : (m : MemoryMap) (n a : ℕ) (r : Option Property) (e : Fault) → HasBytes m
        → readable_end m ≤ suc n + a → property_at m a ≡ Ok r → with_rest r (λ b. properties_from m n b) ≡ Err e
        → ((b : ℕ) → readable_end m ≤ n + b → properties_from m n b ≡ Err e → Cut m b e) → Cut m a e
    cut_after m n a None e fits room h k rest = absurd cc
    cut_after m n a (Some p) e fits room h k rest =
        let q = property_takes m a p fits h in
        let g = grows m a p q.spelling q.within q.bytes in
        let onward = g.onward in
        elim (bind_err (properties_from m n (p.address + p.length)) _ e k) [
          | inl f ↦ cut_later m a p e q (rest (p.address + p.length) (omega arith) f)
          | inr f ↦ absurd cc
        ]

cut_reads : (m : MemoryMap) (n a : ℕ) (ps : List Property) (b : ℕ) → AreProperties m a ps b → LacksSize m b
    → properties_from m n a ≡ Err BadProperty
unfolding properties_from
cut_reads m zero a ps b p h = refl
cut_reads m (suc n) a [] b p h = let here : LacksSize m a = rw p h in rw (property_lacking m a here) refl
cut_reads m (suc n) a (p ∷ ps) b q h =
    let rest = cut_reads m n (p.address + p.length) ps b q.1 h in
    rw (spelled_again m a p q.0.spelling q.0.within q.0.bytes q.0.more, rest) refl

-- a property takes its size byte and a byte of data
pub onward_two : (m : MemoryMap) (a : ℕ) (p : Property) (s : Spelling) → IsWithin m.version s p
    → Stands m a (size_bytes s p) p.address → a + 2 ≤ p.address + p.length
onward_two m a p Early w h = omega (arith, h.1)
onward_two m a p One w h = omega (arith, h.1)
onward_two m a p (Two x y) w h = omega (arith, h.1.1)

list_room : (m : MemoryMap) (a : ℕ) (ps : List Property) (b : ℕ) → AreProperties m a ps b → a + 2 * length ps ≤ b
list_room m a [] b p = omega arith
list_room m a (p ∷ ps) b q =
    let here = onward_two m a p q.0.spelling q.0.within q.0.bytes in
    let rest = list_room m (p.address + p.length) ps b q.1 in
    omega arith

one_of : (m : MemoryMap) (a : ℕ) → HasBytes m → (r : Result (List Property) Fault) → properties_at m a ≡ r
    → ((ps : List Property) × IsPropertyList m a ps) ⊎ LeavesData m a
unfolding properties_at Cut
one_of m a fits (Ok ps) h = inl (ps, list_takes m (readable_end m) a ps fits h)
one_of m a fits (Err e) h = inr (list_cut m (readable_end m) a e fits (omega arith) h).1

pub lists_are_read : ListsAreRead
unfolding properties_at Cut
lists_are_read m a fits = record {
  list =
      λ ps. (
        list_takes m (readable_end m) a ps fits,
        λ l. list_again m (readable_end m) a ps l.0 l.1 l.2
            (omega arith),
      );
  leaves = (
    λ h. (list_cut m (readable_end m) a BadProperty fits (omega arith) h).1,
    λ l. cut_reads m (readable_end m) a l.0 l.1 l.2 l.3,
  );
  one = one_of m a fits (properties_at m a) refl;
  not_both = λ ps l c. (let list = list_again m (readable_end m) a ps l.0 l.1 l.2 (omega arith) in
      let cut = cut_reads m (readable_end m) a c.0 c.1 c.2 c.3 in absurd cc);
  bounded = λ ps l. (let room = list_room m a ps l.0 l.1 in let inside = byte_below m l.0 0 l.2 in omega arith);
}

pub at_most_one_list : AtMostOneList
unfolding properties_at
at_most_one_list m a ps qs p q =
    let one = list_again m (readable_end m) a ps p.0 p.1 p.2 (omega arith) in
    let two = list_again m (readable_end m) a qs q.0 q.1 q.2 (omega arith) in
    cc
