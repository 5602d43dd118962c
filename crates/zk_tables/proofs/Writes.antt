-- Which links can be written.
use Rattle.std.proofs.Common.{◌≡◌, ◌≢◌, ℕ, ◌+◌, ◌*◌, ◌-◌, ◌/◌, ◌%◌, ◌<◌, ◌≤◌, Bool, true, false, cond, List, [], ◌∷◌}
use Rattle.std.proofs.Common.{length, Result, Ok, Err, refl, sym, ◌∙◌, arith, eqb, ◌⊎◌, inl, inr, nat_lt, nat_le}
use Rattle.std.proofs.lemmas.Bool.{ne_eqb, and_parts, leb-true, leb-false, ltb-true, cases_Bool}
use Rattle.std.proofs.lemmas.Bool.Decides.{nat_tests}
use Rattle.std.proofs.lemmas.Grind.{common_steps}
use Rattle.zk_mem.specs.declared.fault.Fault.{Fault}
use Rattle.zk_mem.specs.declared.fault.Fault.TheVariants.{BadObject, ReadOnly}
use Rattle.zk_mem.specs.Results.{◌>>=◌}
use Rattle.zk_mem.specs.Map.{MemoryMap, readable_end, byte_at, word_at, byte_put, word_put, with_byte}
use Rattle.zk_tables.specs.declared.layout.Layout.{Layout}
use Rattle.zk_tables.specs.declared.links.Link.{Link}
use Rattle.zk_tables.specs.declared.links.Link.TheVariants.{Parent, Sibling, Child}
use Rattle.zk_tables.specs.declared.links.LinkPlace.{LinkPlace}
use Rattle.zk_tables.specs.Layout.{early_layout, late_layout, layout_of, default_words_start, first_entry, is_entry}
use Rattle.zk_tables.specs.Layout.{is_entry_in, entry_of}
use Rattle.zk_tables.specs.Links.{order_of, address_of, object_number_at, number_put, link_at, link_put, write_test}
use Rattle.zk_tables.specs.Links.{write_tests}
use Rattle.zk_tables.proofs.Steps.{bind_ok, bind_err, chosen, same_value, same_fault, same_map}

-- ---- where entries and links lie

two_layouts : (v : ℕ) (b : Bool) → (cond b early_layout late_layout ≡ early_layout)
    ⊎ (cond b early_layout late_layout ≡ late_layout)
two_layouts v true = inl refl
two_layouts v false = inr refl

pub layouts : (v : ℕ) → (layout_of v ≡ early_layout) ⊎ (layout_of v ≡ late_layout)
unfolding layout_of
layouts v = two_layouts v (nat_lt v 4)

-- what it says that an object has an entry
pub record HasEntry (l : Layout) (table end o : ℕ) : Type 0 where
  pub counted : 0 < o
  pub few : o ≤ l.most_objects
  pub within : first_entry l table + l.entry_bytes * o ≤ end

entry_facts : (l : Layout) (table end o : ℕ) → is_entry_in l table end o ≡ true → HasEntry l table end o
unfolding is_entry_in
entry_facts l table end o h =
    let p = and_parts (nat_lt 0 o) _ h in
    let q = and_parts (nat_le o l.most_objects) _ p.1 in
    record { counted = ltb-true 0 o p.0; few = leb-true o l.most_objects q.0; within = leb-true _ end q.1 }

pub entry_there : (m : MemoryMap) (o : ℕ) → is_entry m o ≡ true
    → HasEntry (layout_of m.version) (default_words_start m) (readable_end m) o
unfolding is_entry
entry_there m o h = entry_facts _ _ _ o h

-- an object whose entry is found has one
pub entry_takes : (m : MemoryMap) (o a : ℕ) → entry_of m o ≡ Ok a → (is_entry m o ≡ true)
    × (first_entry (layout_of m.version) (default_words_start m) + (layout_of m.version).entry_bytes * (o - 1) ≡ a)
unfolding entry_of
entry_takes m o a h = elim (chosen (is_entry m o) _ _ _ h) [ inl p ↦ (p.0, same_value _ a p.1) | inr p ↦ absurd cc ]

pub order_small : (k : Link) → order_of k ≤ 2
order_small Parent = omega arith
order_small Sibling = omega arith
order_small Child = omega arith

link_within : (l : Layout) → ((l ≡ early_layout) ⊎ (l ≡ late_layout)) → (first end o : ℕ) (k : Link) → 0 < o
    → first + l.entry_bytes * o ≤ end → first + l.entry_bytes * (o - 1) + l.attribute_bytes + l.link_bytes
    * order_of k + l.link_bytes ≤ end
link_within l (inl e) first end o k n h =
    let small = order_small k in let room : first + 9 * o ≤ end = rw e at h in rw e (omega arith)
link_within l (inr e) first end o k n h =
    let small = order_small k in let room : first + 14 * o ≤ end = rw e at h in rw e (omega arith)

-- a link lies in data
pub address_within : (m : MemoryMap) (place : LinkPlace) (a : ℕ) → address_of m place ≡ Ok a
    → a + (layout_of m.version).link_bytes ≤ readable_end m
unfolding address_of
address_within m place a h =
    let e = bind_ok (entry_of m place.object) _ a h in
    let t = entry_takes m place.object e.0 e.1 in
    let f = entry_there m place.object t.0 in
    let w = link_within (layout_of m.version) (layouts m.version) _ (readable_end m) place.object place.link
    f.counted f.within in
    let start = t.1 in
    let at = same_value _ a e.2 in
    omega arith

-- ---- numbers at an address

-- what a change of links leaves as it was
pub record IsSameShape (m n : MemoryMap) : Type 0 where
  pub version : n.version ≡ m.version
  pub static_base : n.static_base ≡ m.static_base
  pub file : n.file ≡ m.file
  pub long : length n.bytes ≡ length m.bytes

pub same_shape : (m : MemoryMap) → IsSameShape m m
same_shape m = record { version = refl; static_base = refl; file = refl; long = refl }

pub shape_join : (l m n : MemoryMap) → IsSameShape l m → IsSameShape m n → IsSameShape l n
shape_join l m n s t = record {
  version = t.version ∙ s.version;
  static_base = t.static_base ∙ s.static_base;
  file = t.file ∙ s.file;
  long = t.long ∙ s.long;
}

byte_readable : (m : MemoryMap) (a : ℕ) → a + 1 ≤ readable_end m → (v : ℕ) × (byte_at m a ≡ Ok v)
unfolding byte_at
byte_readable m a h = let test : nat_lt a (readable_end m) ≡ true = grind (arith, nat_tests) in rw test (_, refl)

word_readable : (m : MemoryMap) (a : ℕ) → a + 2 ≤ readable_end m → (v : ℕ) × (word_at m a ≡ Ok v)
unfolding word_at
word_readable m a h = let test : nat_lt (a + 1) (readable_end m) ≡ true = grind (arith, nat_tests) in rw test (_, refl)

number_readable : (m : MemoryMap) (a : ℕ) → a + (layout_of m.version).link_bytes ≤ readable_end m
    → (v : ℕ) × (object_number_at m a ≡ Ok v)
unfolding object_number_at
number_readable m a h = elim (layouts m.version) [
  | inl e ↦ (let room : a + 1 ≤ readable_end m = rw e at h in rw e (byte_readable m a room))
  | inr e ↦ (let room : a + 2 ≤ readable_end m = rw e at h in rw e (word_readable m a room))
]

with_byte_shape : (m : MemoryMap) (a v : ℕ) → IsSameShape m (with_byte m a v)
with_byte_shape m a v = record { version = refl; static_base = refl; file = refl; long = grind (arith, common_steps) }

byte_written : (m : MemoryMap) (a v : ℕ) → a + 1 ≤ readable_end m → a + 1 ≤ m.static_base
    → (n : MemoryMap) × (byte_put m a v ≡ Ok n) × IsSameShape m n
unfolding byte_put
byte_written m a v h k =
    let inside : nat_lt a (readable_end m) ≡ true = grind (arith, nat_tests) in
    let low : nat_lt a m.static_base ≡ true = grind (arith, nat_tests) in
    rw (inside, low) (with_byte m a v, refl, with_byte_shape m a v)

word_written : (m : MemoryMap) (a v : ℕ) → a + 2 ≤ readable_end m → a + 2 ≤ m.static_base
    → (n : MemoryMap) × (word_put m a v ≡ Ok n) × IsSameShape m n
unfolding word_put
word_written m a v h k =
    let inside : nat_lt (a + 1) (readable_end m) ≡ true = grind (arith, nat_tests) in
    let low : nat_lt (a + 1) m.static_base ≡ true = grind (arith, nat_tests) in
    let first = with_byte m a (v / 256) in
    rw (inside, low) (
      with_byte first (a + 1) (v % 256),
      refl,
      shape_join m first
          (with_byte first (a + 1) (v % 256)) (with_byte_shape m a (v / 256)) (with_byte_shape first (a + 1) (v % 256)),
    )

byte_refused : (m : MemoryMap) (a v : ℕ) → a + 1 ≤ readable_end m → m.static_base < a + 1
    → byte_put m a v ≡ Err ReadOnly
unfolding byte_put
byte_refused m a v h k =
    let inside : nat_lt a (readable_end m) ≡ true = grind (arith, nat_tests) in
    let high : nat_lt a m.static_base ≡ false = grind (arith, nat_tests) in
    rw (inside, high) refl

word_refused : (m : MemoryMap) (a v : ℕ) → a + 2 ≤ readable_end m → m.static_base < a + 2
    → word_put m a v ≡ Err ReadOnly
unfolding word_put
word_refused m a v h k =
    let inside : nat_lt (a + 1) (readable_end m) ≡ true = grind (arith, nat_tests) in
    let high : nat_lt (a + 1) m.static_base ≡ false = grind (arith, nat_tests) in
    rw (inside, high) refl

number_written : (m : MemoryMap) (a v : ℕ) → a + (layout_of m.version).link_bytes ≤ readable_end m
    → a + (layout_of m.version).link_bytes ≤ m.static_base → (n : MemoryMap) × (number_put m a v ≡ Ok n)
    × IsSameShape m n
unfolding number_put
number_written m a v h k = elim (layouts m.version) [
  | inl e ↦ (let room : a + 1 ≤ readable_end m = rw e at h in let low : a + 1 ≤ m.static_base = rw e at k in
      rw e (byte_written m a (v % 256) room low))
  | inr e ↦ (let room : a + 2 ≤ readable_end m = rw e at h in let low : a + 2 ≤ m.static_base = rw e at k in
      rw e (word_written m a v room low))
]

number_refused : (m : MemoryMap) (a v : ℕ) → a + (layout_of m.version).link_bytes ≤ readable_end m
    → m.static_base < a + (layout_of m.version).link_bytes → number_put m a v ≡ Err ReadOnly
unfolding number_put
number_refused m a v h k = elim (layouts m.version) [
  | inl e ↦ (let room : a + 1 ≤ readable_end m = rw e at h in let high : m.static_base < a + 1 = rw e at k in
      rw e (byte_refused m a (v % 256) room high))
  | inr e ↦ (let room : a + 2 ≤ readable_end m = rw e at h in let high : m.static_base < a + 2 = rw e at k in
      rw e (word_refused m a v room high))
]

-- ---- links

entry_address : (m : MemoryMap) (place : LinkPlace) (a : ℕ) → entry_of m place.object ≡ Ok a
    → (x : ℕ) × (address_of m place ≡ Ok x)
unfolding address_of
entry_address m place a h = rw h (_, refl)

pub has_link : (m : MemoryMap) (place : LinkPlace) (a : ℕ) → entry_of m place.object ≡ Ok a
    → (v : ℕ) × (link_at m place ≡ Ok v)
unfolding link_at
has_link m place a h =
    let f = entry_there m place.object (entry_takes m place.object a h).0 in
    let counted = f.counted in
    let test : eqb place.object 0 ≡ false = ne_eqb place.object 0 (λ e. omega arith) in
    let at : (x : ℕ) × (address_of m place ≡ Ok x) = entry_address m place a h in
    rw (test, at.1) (number_readable m at.0 (address_within m place at.0 at.1))

low_test : (b : Bool) (x a : Unit {0}) → cond b (Ok x) (Err ReadOnly) ≡ Ok a → b ≡ true
low_test true x a h = refl
low_test false x a h = absurd cc

-- a link that may be written is written
pub link_written : (m : MemoryMap) (place : LinkPlace) (v : ℕ) → write_test m place ≡ Ok tt
    → (n : MemoryMap) × (link_put m place v ≡ Ok n) × IsSameShape m n
unfolding write_test link_put
link_written m place v h =
    let e = bind_ok (address_of m place) _ tt h in
    let low = leb-true (e.0 + (layout_of m.version).link_bytes) m.static_base (low_test _ tt tt e.2) in
    rw e.1 (number_written m e.0 v (address_within m place e.0 e.1) low)

high_test : (b : Bool) (x : Unit {0}) (d : Fault) → cond b (Ok x) (Err ReadOnly) ≡ Err d → (b ≡ false) × (d ≡ ReadOnly)
high_test true x d h = absurd cc
high_test false x d h = let same : d ≡ ReadOnly = cc in (refl, same)

-- and one that may not is refused, for the same reason
pub link_refused : (m : MemoryMap) (place : LinkPlace) (v : ℕ) (d : Fault) → write_test m place ≡ Err d
    → link_put m place v ≡ Err d
unfolding write_test link_put
link_refused m place v d h =
    elim (bind_err (address_of m place) _ d h) [
      | inl e ↦ rw e refl
      | inr e ↦ (let t = high_test _ tt d e.2 in
          let high : m.static_base < e.0 + (layout_of m.version).link_bytes = leb-false _ _ t.0 in
          rw (e.1, t.1) (number_refused m e.0 v (address_within m place e.0 e.1) high))
    ]

pub entry_same : (m n : MemoryMap) (o : ℕ) → IsSameShape m n → entry_of n o ≡ entry_of m o
unfolding entry_of is_entry
entry_same m n o s = rw (s.version, s.file, s.long) refl

pub writable_same : (m n : MemoryMap) (place : LinkPlace) → IsSameShape m n → write_test n place ≡ write_test m place
unfolding write_test address_of
writable_same m n place s = rw (entry_same m n place.object s, s.version, s.static_base) refl

-- what a change of a link leaves as it was
pub put_shape : (m n : MemoryMap) (place : LinkPlace) (v : ℕ) → link_put m place v ≡ Ok n → IsSameShape m n
put_shape m n place v h = by_test (write_test m place) refl
  where
    by_test : (r : Result (Unit {0}) Fault) → write_test m place ≡ r → IsSameShape m n
    by_test (Ok a) e =
        (let w = link_written m place v e in let same : w.0 ≡ n = same_map w.0 n (sym w.1 ∙ h) in rw same at w.2)
    by_test (Err d) e = (let bad = link_refused m place v d e in absurd cc)

-- ---- several links, one after another

-- links that get numbers
abbrev pub put_all : MemoryMap → LinkPlace × ℕ → List (LinkPlace × ℕ) → Result MemoryMap Fault
put_all m w [] = link_put m w.0 w.1
put_all m w (v ∷ vs) = link_put m w.0 w.1 >>= λ n. put_all n v vs

abbrev pub places : List (LinkPlace × ℕ) → List LinkPlace
places [] = []
places (w ∷ ws) = w.0 ∷ places ws

-- where they may all be written, they are
pub all_written : (l m : MemoryMap) (w : LinkPlace × ℕ) (ws : List (LinkPlace × ℕ)) → IsSameShape l m
    → write_tests l w.0 (places ws) ≡ Ok tt → (n : MemoryMap) × (put_all m w ws ≡ Ok n)
all_written l m w [] s h = let one = link_written m w.0 w.1 (writable_same l m w.0 s ∙ h) in (one.0, one.1)
all_written l m w (v ∷ vs) s h =
    let e = bind_ok (write_test l w.0) (λ _. write_tests l v.0 (places vs)) tt h in
    let one = link_written m w.0 w.1 (writable_same l m w.0 s ∙ e.1) in
    rw one.1 (all_written l one.0 v vs (shape_join l m one.0 s one.2) e.2)

-- and else they are refused, for the same reason
pub all_refused : (l m : MemoryMap) (w : LinkPlace × ℕ) (ws : List (LinkPlace × ℕ)) (d : Fault) → IsSameShape l m
    → write_tests l w.0 (places ws) ≡ Err d → put_all m w ws ≡ Err d
all_refused l m w [] d s h = link_refused m w.0 w.1 d (writable_same l m w.0 s ∙ h)
all_refused l m w (v ∷ vs) d s h =
    elim (bind_err (write_test l w.0) (λ _. write_tests l v.0 (places vs)) d h) [
      | inl e ↦ rw (link_refused m w.0 w.1 d (writable_same l m w.0 s ∙ e)) refl
      | inr e ↦ (let one = link_written m w.0 w.1 (writable_same l m w.0 s ∙ e.1) in
          rw one.1 (all_refused l one.0 v vs d (shape_join l m one.0 s one.2) e.2))
    ]

-- ---- objects

-- an object has an entry or is bad
pub entry_cases : (m : MemoryMap) (o : ℕ) → ((is_entry m o ≡ true) × ((a : ℕ) × (entry_of m o ≡ Ok a)))
    ⊎ ((is_entry m o ≡ false) × (entry_of m o ≡ Err BadObject))
unfolding entry_of
entry_cases m o = elim (cases_Bool (is_entry m o)) [ inl h ↦ inl (h, rw h (_, refl)) | inr h ↦ inr (h, rw h refl) ]

-- a link of an object is there where it has an entry
pub link_entry : (m : MemoryMap) (place : LinkPlace) (v : ℕ) → place.object ≢ 0 → link_at m place ≡ Ok v
    → (a : ℕ) × (entry_of m place.object ≡ Ok a)
unfolding link_at address_of
link_entry m place v ne h =
    let test = ne_eqb place.object 0 ne in
    let e = bind_ok (address_of m place) (object_number_at m) v (rw test at h) in
    let f = bind_ok (entry_of m place.object) _ e.0 e.1 in
    (f.0, f.1)

-- and a bad object has none
pub link_bad : (m : MemoryMap) (place : LinkPlace) (d : Fault) → place.object ≢ 0 → link_at m place ≡ Err d
    → (is_entry m place.object ≡ false) × (d ≡ BadObject)
unfolding link_at address_of
link_bad m place d ne h =
    elim (entry_cases m place.object) [
      | inl e ↦ (let l = has_link m place e.1.0 e.1.1 in absurd cc)
      | inr e ↦ (let test = ne_eqb place.object 0 ne in let bad : link_at m place ≡ Err BadObject = rw (test, e.1)
          refl in (e.0, same_fault d BadObject (sym h ∙ bad)))
    ]
