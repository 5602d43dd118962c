-- Memories that have the same bytes from a dictionary's address to its end.
use Rattle.std.proofs.Common.{◌≡◌, ◌∙◌, ◌≤◌, ◌<◌, ℕ, zero, suc, ◌+◌, ◌*◌, ◌-◌, true, false, List, ◌∷◌, length, take}
use Rattle.std.proofs.Common.{drop, get_or, Result, Ok, nat_lt, refl, sym, ap, arith, inl, inr}
use Rattle.std.specs.Prelude.{min}
use Rattle.std.proofs.Math.Nat.{mul-suc}
use Rattle.std.proofs.lemmas.Bool.{cases_Bool, lt-ltb, le-ltb}
use Rattle.std.proofs.lemmas.Bool.Decides.{nat_tests}
use Rattle.std.proofs.lemmas.List.{get_or-drop, get_or-take, length-drop, length-take}
use Rattle.zk_mem.specs.declared.fault.Fault.{Fault}
use Rattle.zk_mem.specs.Map.{MemoryMap, readable_end, byte_at, word_at}
use Rattle.zk_tables.specs.declared.dictionary.Dictionary.{Dictionary}
use Rattle.zk_tables.specs.Dictionaries.{key_length, dictionary_byte, dictionary_word, dictionary_by}
use Rattle.zk_tables.specs.Dictionaries.{dictionary_at, IsDictionaryOf, parts_at, bytes_from, keys_from}
use Rattle.zk_tables.specs.Dictionaries.{DictionariesAreTheirBytes}
use Rattle.zk_tables.proofs.Steps.{bind_ok}
use Rattle.zk_tables.proofs.Finding.{based, dictionary_inside}
use Rattle.zk_tables.specs.Signed.{magnitude}

abbrev kept : Dictionary → Result Dictionary Fault
kept d = Ok d

-- both memories have readable bytes up to an end, and from an address on these are the same
record AreAlike (m n : MemoryMap) (from to : ℕ) : Type 0 where
  version : n.version ≡ m.version
  base : n.static_base ≡ m.static_base
  first : to ≤ readable_end m
  second : to ≤ readable_end n
  item : (c : ℕ) → from ≤ c → c < to → get_or n.bytes c 0 ≡ get_or m.bytes c 0

module _ (m n : MemoryMap) (from to : ℕ) (h : AreAlike m n from to) where
  alike_byte : (c : ℕ) → from ≤ c → c < to → dictionary_byte n c ≡ dictionary_byte m c
  unfolding dictionary_byte byte_at
  alike_byte c le lt =
      let one : nat_lt c (readable_end m) ≡ true = lt-ltb c (readable_end m)
      (let f = h.first in omega (arith, f, lt)) in
      let two : nat_lt c (readable_end n) ≡ true = lt-ltb c (readable_end n) (let f = h.second in
      omega (arith, f, lt)) in
      rw (one, two, h.item c le lt) refl

  alike_word : (c : ℕ) → from ≤ c → c + 1 < to → dictionary_word n c ≡ dictionary_word m c
  unfolding dictionary_word word_at
  alike_word c le lt =
      let one : nat_lt (c + 1) (readable_end m) ≡ true = lt-ltb (c + 1) (readable_end m)
      (let f = h.first in omega (arith, f, lt)) in
      let two : nat_lt (c + 1) (readable_end n) ≡ true = lt-ltb (c + 1) (readable_end n)
      (let f = h.second in omega (arith, f, lt)) in
      rw (one, two, h.item c le (omega (arith, lt)), h.item (c + 1) (omega (arith, le)) lt) refl

  alike_bytes : (c k : ℕ) → from ≤ c → c + k ≤ to → bytes_from n c k ≡ bytes_from m c k
  unfolding bytes_from
  alike_bytes c zero le most = refl
  alike_bytes c (suc k) le most =
      ap (λ (x : ℕ). x ∷ bytes_from n (c + 1) k) (h.item c le (omega (arith, most)))
      ∙ ap (λ (l : List ℕ). get_or m.bytes c 0 ∷ l) (alike_bytes (c + 1) k (omega (arith, le)) (omega (arith, most)))

  alike_keys : (c l k : ℕ) → from ≤ c → key_length m.version ≤ l → c + l * k ≤ to
      → keys_from n c l k ≡ keys_from m c l k
  unfolding keys_from
  alike_keys c l zero le room most = refl
  alike_keys c l (suc k) le room most =
      let all : l * suc k ≡ l * k + l = mul-suc l k in
      ap (λ (v : ℕ). bytes_from n c (key_length v) ∷ keys_from n (c + l) l k) h.version
      ∙ ap (λ (x : List ℕ). x ∷ keys_from n (c + l) l k)
      (alike_bytes c (key_length m.version) le (omega (arith, all, room, most)))
      ∙ ap (λ (ks : List (List ℕ)). bytes_from m c (key_length m.version) ∷ ks)
      (alike_keys (c + l) l k (omega (arith, le)) room (omega (arith, all, most)))

-- what a dictionary was made of
parts_are : (m : MemoryMap) (a s l count : ℕ) (d : Dictionary) → dictionary_by m a s l count ≡ Ok d
    → (key_length m.version ≤ l) × (parts_at m a s l count ≡ d)
unfolding dictionary_by
parts_are m a s l count d h = elim (cases_Bool (nat_lt l (key_length m.version))) [
  | inl t ↦ (let g = rw t at h in absurd cc)
  | inr t ↦ elim (cases_Bool (nat_lt (readable_end m) (a + s + 4 + l * magnitude count))) [
    | inl u ↦ (let g = rw (t, u) at h in absurd cc)
    | inr u ↦ (let g = rw (t, u) at h in (grind (arith, nat_tests), cc))
  ]
]

-- a dictionary that ends there
alike_by : (m n : MemoryMap) (a to s l count : ℕ) (d : Dictionary) → AreAlike m n a to
    → dictionary_by m a s l count ≡ Ok d → a + s + 4 + l * magnitude count ≤ to → dictionary_by n a s l count ≡ Ok d
unfolding dictionary_by
alike_by m n a to s l count d h is most =
    let parts = parts_are m a s l count d is in
    let long : nat_lt l (key_length m.version) ≡ false = le-ltb l (key_length m.version) parts.0 in
    let within : nat_lt (readable_end n) (a + s + 4 + l * magnitude count) ≡ false = le-ltb (readable_end n)
    (a + s + 4 + l * magnitude count) (let f = h.second in omega (arith, f, most)) in
    let keys = alike_keys m n a to h (a + s + 4) l (magnitude count) (omega arith) parts.0 most in
    rw (keys, h.version, long, within, h.base) (ap (λ (x : Dictionary). kept x) parts.1)

alike_at : (m n : MemoryMap) (d : Dictionary) → AreAlike m n d.address
    (d.address + (d.separators + 4 + d.entry_length * d.entries)) → dictionary_at m d.address ≡ Ok d
    → dictionary_at n d.address ≡ Ok d
unfolding dictionary_at
alike_at m n d h is =
    let to = d.address + (d.separators + 4 + d.entry_length * d.entries) in
    let s = bind_ok (dictionary_byte m d.address) _ d is in
    let l = bind_ok (dictionary_byte m (d.address + s.0 + 1)) _ d s.2 in
    let c = bind_ok (dictionary_word m (d.address + s.0 + 2)) _ d l.2 in
    let parts = (parts_are m d.address s.0 l.0 c.0 d c.2).1 in
    let its : s.0 ≡ d.separators = ap (λ (x : Dictionary). x.separators) parts in
    let end : s.0 + 4 + l.0 * magnitude c.0 ≡ d.separators + 4 + d.entry_length
    * d.entries = ap (λ (x : Dictionary). x.separators + 4 + x.entry_length * x.entries) parts in
    let one : dictionary_byte n d.address ≡ Ok s.0 = alike_byte m n d.address to h d.address (omega arith)
    (omega arith) ∙ s.1 in
    let two : dictionary_byte n (d.address + s.0 + 1) ≡ Ok l.0 = alike_byte m n d.address to h
    (d.address + s.0 + 1) (omega arith) (omega (arith, its)) ∙ l.1 in
    let three : dictionary_word n (d.address + s.0 + 2) ≡ Ok c.0 = alike_word m n d.address to h
    (d.address + s.0 + 2) (omega arith) (omega (arith, its)) ∙ c.1 in
    rw (one, two, three) (alike_by m n d.address to s.0 l.0 c.0 d h c.2 (omega (arith, end)))

-- a byte of a part
item_in : (xs : List ℕ) (a k c : ℕ) → a ≤ c → c < a + k → get_or (take k (drop a xs)) (c - a) 0 ≡ get_or xs c 0
item_in xs a k c le lt =
    let there : a + (c - a) ≡ c = omega (arith, le) in
    get_or-take k (drop a xs) (c - a) 0 (omega (arith, le, lt)) ∙ get_or-drop a xs (c - a) 0
    ∙ ap (λ (i : ℕ). get_or xs i 0) there

part_length : (xs : List ℕ) (a k : ℕ) → length (take k (drop a xs)) ≡ min k (length xs - a)
part_length xs a k = length-take k (drop a xs) ∙ ap (λ (i : ℕ). min k i) (length-drop a xs)

pub dictionaries_are_their_bytes : DictionariesAreTheirBytes
unfolding IsDictionaryOf
dictionaries_are_their_bytes m n d stands version bytes =
    let k = d.separators + 4 + d.entry_length * d.entries in
    let inside = dictionary_inside m d stands in
    let end = inside.end in
    let long : min k (length n.bytes - d.address) ≡ min k (length m.bytes - d.address) =
    sym (part_length n.bytes d.address k) ∙ ap length bytes ∙ part_length m.bytes d.address k in
    let alike : AreAlike (based m stands.0) (based n stands.0) d.address (d.address + k) = record {
      version = version;
      base = refl;
      first = omega (arith, end);
      second = omega (arith, end, long);
      item = λ c le lt. sym (item_in n.bytes d.address k c le lt)
          ∙ ap (λ (xs : List ℕ). get_or xs (c - d.address) 0) bytes ∙ item_in m.bytes d.address k c le lt;
    } in
    (stands.0, alike_at (based m stands.0) (based n stands.0) d alike stands.1)
