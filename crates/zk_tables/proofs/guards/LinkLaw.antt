-- Links, read after one of them was written.
use Rattle.std.proofs.Common.{◌≡◌, ◌≢◌, ℕ, ◌+◌, ◌*◌, ◌-◌, ◌/◌, ◌%◌, ◌<◌, ◌≤◌, true, false, Result, Ok, Err, refl, sym}
use Rattle.std.proofs.Common.{ap, ◌∙◌, arith, eqb, ◌⊎◌, inl, inr, min, nat_lt}
use Rattle.std.proofs.lemmas.List.{get_or-set_other, length-set}
use Rattle.std.proofs.lemmas.Bool.{ne_eqb}
use Rattle.zk_mem.specs.declared.fault.Fault.{Fault}
use Rattle.zk_mem.specs.Results.{◌>>=◌}
use Rattle.zk_mem.proofs.Writes.{byte_is_written, word_is_written}
use Rattle.zk_mem.specs.Map.{MemoryMap, readable_end, byte_at, word_at, byte_put, word_put, with_byte}
use Rattle.zk_tables.specs.declared.layout.Layout.{Layout}
use Rattle.zk_tables.specs.declared.links.Link.{Link}
use Rattle.zk_tables.specs.declared.links.Link.TheVariants.{Parent, Sibling, Child}
use Rattle.zk_tables.specs.declared.links.LinkPlace.{LinkPlace}
use Rattle.zk_tables.specs.Layout.{early_layout, late_layout, layout_of, default_words_start, first_entry, entry_of}
use Rattle.zk_tables.specs.Links.{order_of, address_of, object_number_at, number_put, link_at, link_put}
use Rattle.zk_tables.specs.Links.{LinksAreWritten}
use Rattle.zk_tables.proofs.Steps.{bind_ok, chosen, same_value, same_map}
use Rattle.zk_tables.proofs.Writes.{IsSameShape, layouts, entry_there, entry_takes, entry_same, put_shape, order_small}

-- ---- bytes

-- a byte that is written
pub byte_writes : (m n : MemoryMap) (a v : ℕ) → byte_put m a v ≡ Ok n → (with_byte m a v ≡ n)
    × (nat_lt a (readable_end m) ≡ true)
unfolding byte_put
byte_writes m n a v h = elim (chosen (nat_lt a (readable_end m)) _ _ _ h) [
  | inl t ↦ elim (chosen (nat_lt a m.static_base) _ _ _ t.1) [ inl u ↦ (same_map _ n u.1, t.0) | inr u ↦ absurd cc ]
  | inr t ↦ absurd cc
]

pub word_writes : (m n : MemoryMap) (a v : ℕ) → word_put m a v ≡ Ok n
    → (with_byte (with_byte m a (v / 256)) (a + 1) (v % 256) ≡ n) × (nat_lt (a + 1) (readable_end m) ≡ true)
unfolding word_put
word_writes m n a v h = elim (chosen (nat_lt (a + 1) (readable_end m)) _ _ _ h) [
  | inl t ↦ elim (chosen (nat_lt (a + 1) m.static_base) _ _ _ t.1) [
    | inl u ↦ (same_map _ n u.1, t.0)
    | inr u ↦ absurd cc
  ]
  | inr t ↦ absurd cc
]

same_end : (m : MemoryMap) (a v : ℕ) → readable_end (with_byte m a v) ≡ readable_end m
same_end m a v = ap (λ (k : ℕ). min k 65536) (length-set m.bytes a v)

byte_other : (m : MemoryMap) (a b v : ℕ) → b ≢ a → byte_at (with_byte m a v) b ≡ byte_at m b
unfolding byte_at
byte_other m a b v ne = rw (same_end m a v, get_or-set_other m.bytes a b v 0 ne) refl

word_other : (m : MemoryMap) (a b v : ℕ) → b ≢ a → b + 1 ≢ a → word_at (with_byte m a v) b ≡ word_at m b
unfolding word_at
word_other m a b v ne other =
    rw (same_end m a v, get_or-set_other m.bytes a b v 0 ne, get_or-set_other m.bytes a (b + 1) v 0 other) refl

-- ---- two links stand apart

same_order : (j k : Link) → order_of j ≡ order_of k → j ≡ k
same_order Parent Parent e = refl
same_order Parent Sibling e = absurd (omega arith)
same_order Parent Child e = absurd (omega arith)
same_order Sibling Parent e = absurd (omega arith)
same_order Sibling Sibling e = refl
same_order Sibling Child e = absurd (omega arith)
same_order Child Parent e = absurd (omega arith)
same_order Child Sibling e = absurd (omega arith)
same_order Child Child e = refl

-- where a link stands, in numbers
record Standing (m : MemoryMap) (place : LinkPlace) (a : ℕ) : Type 0 where
  counted : 0 < place.object
  is : first_entry (layout_of m.version) (default_words_start m) + (layout_of m.version).entry_bytes
      * (place.object - 1) + (layout_of m.version).attribute_bytes + (layout_of m.version).link_bytes * order_of
      place.link ≡ a

standing : (m : MemoryMap) (place : LinkPlace) (a : ℕ) → address_of m place ≡ Ok a → Standing m place a
unfolding address_of
standing m place a h =
    let e = bind_ok (entry_of m place.object) _ a h in
    let t = entry_takes m place.object e.0 e.1 in
    let f = entry_there m place.object t.0 in
    let start = t.1 in
    let at = same_value _ a e.2 in
    record { counted = f.counted; is = omega arith }

record Apart (width a b : ℕ) : Type 0 where
  below : a < b → a + width ≤ b
  above : b < a → b + width ≤ a

same_numbers : (l : Layout) → ((l ≡ early_layout) ⊎ (l ≡ late_layout)) → (first o p j k : ℕ) → 0 < o → 0 < p
    → j ≤ 2 → k ≤ 2 → first + l.entry_bytes * (o - 1) + l.attribute_bytes + l.link_bytes * j ≡ first + l.entry_bytes
    * (p - 1) + l.attribute_bytes + l.link_bytes * k → (o ≡ p) × (j ≡ k)
same_numbers l (inl e) first o p j k x y u v h =
    let same : first + 9 * (o - 1) + 4 + 1 * j ≡ first + 9 * (p - 1) + 4 + 1 * k = rw e at h in
    (omega arith, omega arith)
same_numbers l (inr e) first o p j k x y u v h =
    let same : first + 14 * (o - 1) + 6 + 2 * j ≡ first + 14 * (p - 1) + 6 + 2 * k = rw e at h in
    (omega arith, omega arith)

abbrev place_with : Link → ℕ → LinkPlace
place_with k o = record { link = k; object = o }

same_place : (j k : Link) (o p : ℕ) → j ≡ k → o ≡ p → place_with j o ≡ place_with k p
same_place j k o p d e = rw (d, e) refl

one_link : (m : MemoryMap) (place q : LinkPlace) (a : ℕ) → address_of m place ≡ Ok a → address_of m q ≡ Ok a → place ≡ q
one_link m place q a h k =
    let s = standing m place a h in
    let t = standing m q a k in
    let n = same_numbers (layout_of m.version) (layouts m.version)
    (first_entry (layout_of m.version) (default_words_start m)) place.object q.object (order_of place.link)
    (order_of q.link) s.counted t.counted (order_small place.link) (order_small q.link) (s.is ∙ sym t.is) in
    same_place place.link q.link place.object q.object (same_order place.link q.link n.1) n.0

late_numbers : (first o p j k : ℕ) (a b : ℕ) → first + 14 * (o - 1) + 6 + 2 * j ≡ a
    → first + 14 * (p - 1) + 6 + 2 * k ≡ b → b + 1 ≢ a
late_numbers first o p j k a b x y z = omega arith

late_apart : (m : MemoryMap) (place q : LinkPlace) (a b : ℕ) → layout_of m.version ≡ late_layout
    → address_of m place ≡ Ok a → address_of m q ≡ Ok b → b + 1 ≢ a
late_apart m place q a b e h k =
    let s = standing m place a h in
    let t = standing m q b k in
    late_numbers (first_entry late_layout (default_words_start m)) place.object q.object (order_of place.link)
    (order_of q.link) a b (rw e at s.is) (rw e at t.is)

-- ---- the links

real_place : (m : MemoryMap) (place : LinkPlace) (a : ℕ) → address_of m place ≡ Ok a → eqb place.object 0 ≡ false
real_place m place a h =
    let s = standing m place a h in let counted = s.counted in ne_eqb place.object 0 (λ e. omega arith)

pub address_same : (m n : MemoryMap) (place : LinkPlace) → IsSameShape m n → address_of n place ≡ address_of m place
unfolding address_of
address_same m n place s = rw (entry_same m n place.object s, s.version) refl

number_read : (m n : MemoryMap) (a o : ℕ) → ((layout_of m.version).link_bytes ≡ 1 → o < 256)
    → n.version ≡ m.version → number_put m a o ≡ Ok n → object_number_at n a ≡ Ok o
unfolding number_put object_number_at byte_at word_at
number_read m n a o fits v h = elim (layouts m.version) [
  | inl e ↦ (let w = byte_is_written m n a (o % 256) (rw e at h) in
      let low : o < 256 = fits (ap (λ (l : Layout). l.link_bytes) e) in
      let same : o % 256 ≡ o = omega arith in
      rw (v, e) (w.written ∙ ap (λ (x : ℕ). Ok x) same))
  | inr e ↦ (let w = word_is_written m n a o (rw e at h) in rw (v, e) w.written)
]

number_other : (m n : MemoryMap) (a b o : ℕ) → b ≢ a
    → (layout_of m.version ≡ late_layout → (b + 1 ≢ a) × (a + 1 ≢ b)) → n.version ≡ m.version
    → number_put m a o ≡ Ok n → object_number_at n b ≡ object_number_at m b
unfolding number_put object_number_at byte_at word_at
number_other m n a b o ne apart v h = elim (layouts m.version) [
  | inl e ↦ (let w = byte_writes m n a (o % 256) (rw e at h) in
      let back : byte_at n b ≡ byte_at m b = rw (← w.0) (byte_other m a b (o % 256) ne) in
      rw (v, e) back)
  | inr e ↦ (let w = word_writes m n a o (rw e at h) in
      let p = apart e in
      let first = with_byte m a (o / 256) in
      let back : word_at n b ≡ word_at m b = rw (← w.0) (word_other first (a + 1) b (o % 256) (λ z. p.1 (sym z))
      (λ z. ne (omega arith)) ∙ word_other m a b (o / 256) ne p.0) in
      rw (v, e) back)
]

pub written : (m n : MemoryMap) (place : LinkPlace) (o : ℕ) → link_put m place o ≡ Ok n
    → (a : ℕ) × (address_of m place ≡ Ok a) × (number_put m a o ≡ Ok n)
unfolding link_put
written m n place o h = bind_ok (address_of m place) (λ a. number_put m a o) n h

pub link_read : (m n : MemoryMap) (place : LinkPlace) (o : ℕ) → ((layout_of m.version).link_bytes ≡ 1 → o < 256)
    → link_put m place o ≡ Ok n → link_at n place ≡ Ok o
unfolding link_at
link_read m n place o fits h =
    let shape = put_shape m n place o h in
    let w = written m n place o h in
    let there : address_of n place ≡ Ok w.0 = address_same m n place shape ∙ w.1 in
    rw (real_place m place w.0 w.1, there) (number_read m n w.0 o fits shape.version w.2)

other_at : (m n : MemoryMap) (place q : LinkPlace) (o : ℕ) (r : Result ℕ Fault) → q ≢ place → IsSameShape m n
    → (a : ℕ) → address_of m place ≡ Ok a → number_put m a o ≡ Ok n → address_of m q ≡ r
    → (r >>= object_number_at n) ≡ (r >>= object_number_at m)
other_at m n place q o (Err e) ne shape a h k s = refl
other_at m n place q o (Ok b) ne shape a h k s =
    let differ : b ≢ a = λ z. ne (sym (one_link m place q a h (s ∙ ap (λ (x : ℕ). Ok x) z))) in
    number_other m n a b o differ (λ e. (late_apart m place q a b e h s, late_apart m q place b a e s h))
    shape.version k

pub link_other : (m n : MemoryMap) (place q : LinkPlace) (o : ℕ) → q ≢ place → link_put m place o ≡ Ok n
    → link_at n q ≡ link_at m q
unfolding link_at
link_other m n place q o ne h =
    let shape = put_shape m n place o h in
    let w = written m n place o h in
    let same : (address_of m q >>= object_number_at n) ≡ (address_of m q >>= object_number_at m) =
    other_at m n place q o
    (address_of m q) ne shape w.0 w.1 w.2 refl in
    rw (address_same m n q shape, same) refl

pub links_are_written : LinksAreWritten
links_are_written m n place o fits h = record {
  names = link_read m n place o fits h;
  others = λ q ne. link_other m n place q o ne h;
}
