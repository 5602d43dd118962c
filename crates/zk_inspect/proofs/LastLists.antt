-- Property lists, from the last one on.
use Rattle.std.proofs.Common.{◌≡◌, ◌∙◌, ℕ, ◌+◌, ◌<◌, ◌≤◌, ⊎_elim, Bool, true, false, List, [], ◌∷◌, get_or, Option}
use Rattle.std.proofs.Common.{Some, None, Result, Ok, Err, refl, sym, ap, subst, arith}
use Rattle.std.specs.Prelude.{◌↔◌, not, IsOk}
use Rattle.zk_mem.specs.declared.fault.Fault.{Fault}
use Rattle.zk_mem.specs.declared.fault.Fault.TheVariants.{BadProperty}
use Rattle.zk_mem.specs.Map.{MemoryMap, HasBytes, byte_at, readable_end}
use Rattle.zk_tables.specs.declared.lists.Property.{Property}
use Rattle.zk_tables.specs.Properties.{list_of, properties_of}
use Rattle.zk_tables.specs.PropertyList.{AreProperties, IsPropertyList, properties_at, property_at}
use Rattle.zk_tables.proofs.ListLaw.{byte_below, end_again, end_takes, lists_are_read, onward_two, property_takes}
use Rattle.zk_tables.proofs.ListLaw.{spelled_again}
use Rattle.zk_inspect.specs.Lists.{IsMarked}
use Rattle.zk_inspect.specs.ListMarks.{AreListMarks, HasList}
use Rattle.zk_inspect.specs.ObjectTests.{is_bad_property}

-- a list that has ended
pub ended : (m : MemoryMap) (a : ℕ) → property_at m a ≡ Ok None → HasList m a
ended m a h = ([], (a, refl, end_takes m a h))

same_property : (r : Result (Option Property) Fault) (p q : Property) → r ≡ Ok (Some p) → r ≡ Ok (Some q) → p ≡ q
same_property r p q h k = let e : Some p ≡ Some q = cc in cc

-- a list goes on after its first property
behind_by : (m : MemoryMap) (a : ℕ) (p : Property) (ps : List Property) → property_at m a ≡ Ok (Some p)
    → IsPropertyList m a ps → HasList m (p.address + p.length)
behind_by m a p [] h (b, s, z) = absurd (let zero : byte_at m a ≡ Ok 0 = rw s z in let none = end_again m a zero in cc)
behind_by m a p (q ∷ qs) h (b, s, z) =
    let again = spelled_again m a q s.0.spelling s.0.within s.0.bytes s.0.more in
    let same = same_property (property_at m a) q p again h in
    (qs, (b, subst (λ (x : Property). AreProperties m (x.address + x.length) qs b) same s.1, z))

pub goes_on : (m : MemoryMap) (a : ℕ) (p : Property) → HasBytes m → property_at m a ≡ Ok (Some p)
    → HasList m a ↔ HasList m (p.address + p.length)
goes_on m a p bytes h =
    (λ l. behind_by m a p l.0 h l.1, λ l. (p ∷ l.0, (l.1.0, (property_takes m a p bytes h, l.1.1), l.1.2)))

-- its first property takes bytes
pub onward : (m : MemoryMap) (a : ℕ) (p : Property) → HasBytes m → property_at m a ≡ Ok (Some p)
    → a < p.address + p.length
onward m a p bytes h =
    let s = property_takes m a p bytes h in let le = onward_two m a p s.spelling s.within s.bytes in omega arith

cut_by : (m : MemoryMap) (a : ℕ) (f : Fault) (ps : List Property) → property_at m a ≡ Err f → IsPropertyList m a ps → ⊥
cut_by m a f [] h (b, s, z) = let zero : byte_at m a ≡ Ok 0 = rw s z in let none = end_again m a zero in cc
cut_by m a f (q ∷ qs) h (b, s, z) = let again = spelled_again m a q s.0.spelling s.0.within s.0.bytes s.0.more in cc

pub cut_off : (m : MemoryMap) (a : ℕ) (f : Fault) → property_at m a ≡ Err f → HasList m a → ⊥
cut_off m a f h l = cut_by m a f l.0 h l.1

past_by : (m : MemoryMap) (a : ℕ) (ps : List Property) → HasBytes m → readable_end m ≤ a → IsPropertyList m a ps → ⊥
past_by m a [] bytes le (b, s, z) = let lt = byte_below m b 0 z in let e : a ≡ b = s in omega arith
past_by m a (q ∷ qs) bytes le (b, s, z) =
    let here = spelled_again m a q s.0.spelling s.0.within s.0.bytes s.0.more in
    let on = onward m a q bytes here in
    past_by m (q.address + q.length) qs bytes (omega arith) (b, s.1, z)

-- none begins past data
pub past_data : (m : MemoryMap) (a : ℕ) → HasBytes m → readable_end m ≤ a → HasList m a → ⊥
past_data m a bytes le l = past_by m a l.0 bytes le l.1

-- what is read of a list
pub read_is : (r : Result (Option Property) Fault) (o p : Option Property) → Ok o ≡ r → o ≡ p → r ≡ Ok p
read_is r o p h e = sym h ∙ ap (λ (x : Option Property). Ok x) e

pub begins_on : (m : MemoryMap) (a : ℕ) (p : Property) (marks : List Bool) (marked : Bool) → HasBytes m
    → property_at m a ≡ Ok (Some p) → ((b : ℕ) → a < b → IsMarked marks b ↔ HasList m b)
    → marked ≡ get_or marks (p.address + p.length) false → (marked ≡ true) ↔ HasList m a
begins_on m a p marks marked bytes read known is =
    let k = known (p.address + p.length) (onward m a p bytes read) in
    let g = goes_on m a p bytes read in
    (λ t. g.1 (k.0 (sym is ∙ t)), λ l. is ∙ k.1 (g.0 l))

-- ---- the list of an object

bad_by : (m : MemoryMap) (a : ℕ) (marked : Bool) → HasBytes m → (marked ≡ true ↔ HasList m a)
    → not marked ≡ is_bad_property (properties_at m a)
bad_by m a true bytes h = let l = h.0 refl in sym (ap is_bad_property (((lists_are_read m a bytes).list l.0).1 l.1))
bad_by m a false bytes h = ⊎_elim
    (λ l. absurd (let yes = h.1 l in cc))
    (λ l. sym (ap is_bad_property ((lists_are_read m a bytes).leaves.1 l)))
    (lists_are_read m a bytes).one

pub bad_list : (m : MemoryMap) (o a : ℕ) (marks : List Bool) → HasBytes m → AreListMarks m marks
    → list_of m o ≡ Ok a → not (get_or marks a false) ≡ is_bad_property (properties_of m o)
unfolding properties_of
bad_list m o a marks bytes h e = rw e (bad_by m a (get_or marks a false) bytes (h.exact a))

pub no_list : (m : MemoryMap) (o : ℕ) (f : Fault) → list_of m o ≡ Err f → properties_of m o ≡ Err f
unfolding properties_of
no_list m o f e = rw e refl

pub has_marked : (m : MemoryMap) (a : ℕ) (marks : List Bool) → HasBytes m → AreListMarks m marks
    → get_or marks a false ≡ true → IsOk (properties_at m a)
has_marked m a marks bytes h is =
    let l = (h.exact a).0 is in rw (((lists_are_read m a bytes).list l.0).1 l.1) refl

pub lacks_unmarked : (m : MemoryMap) (a : ℕ) (marks : List Bool) → HasBytes m → AreListMarks m marks
    → get_or marks a false ≡ false → properties_at m a ≡ Err BadProperty
lacks_unmarked m a marks bytes h is = ⊎_elim
    (λ l. absurd (let yes = (h.exact a).1 l in cc))
    (λ l. (lists_are_read m a bytes).leaves.1 l)
    (lists_are_read m a bytes).one
