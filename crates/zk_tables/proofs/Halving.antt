-- Search by halves.
use Rattle.std.proofs.Common.{◌≡◌, ◌≤◌, ◌<◌, ℕ, zero, suc, ◌+◌, ◌*◌, ◌-◌, ◌/◌, Bool, true, false, ◌&&◌, List, [], ◌∷◌}
use Rattle.std.proofs.Common.{length, drop, get_or, Some, Ok, ◌==◌, nat_lt, nat_le, add-one, refl, sym, ◌∙◌, ap, subst}
use Rattle.std.proofs.Common.{arith, ◌⊎◌, inl, inr}
use Rattle.std.specs.Prelude.{slice_get, if◌then◌else◌}
use Rattle.std.proofs.Math.Nat.{mul-suc}
use Rattle.std.proofs.lemmas.Bool.{cases_Bool, cases_order, ltb-true, ltb-false, lt-ltb, le-ltb, eqb-true, eqb-false}
use Rattle.std.proofs.lemmas.Bool.{eq-eqb, ne_eqb, both_ways, and_parts}
use Rattle.std.proofs.lemmas.Option.{slice_get-get_or}
use Rattle.zk_mem.specs.Map.{MemoryMap, readable_end}
use Rattle.zk_tables.specs.declared.dictionary.Dictionary.{Dictionary}
use Rattle.zk_tables.specs.Dictionaries.{key_length, dictionary_byte, dictionary_word, dictionary_by}
use Rattle.zk_tables.specs.Dictionaries.{dictionary_at, parts_at, is_above, do_not_fall, bytes_from, keys_from}
use Rattle.zk_tables.specs.Dictionaries.{begins_with, has_key, found_from, found_in, entry_start, IsDictionaryOf}
use Rattle.zk_tables.specs.Halves.{entry_key, halved, halved_whole, found_at_end, found_by_halves, compared_to_end}
use Rattle.zk_tables.specs.Halves.{compared_by_halves, IsFoundByHalves, HalvesFindTheFirst}
use Rattle.zk_tables.proofs.Steps.{bind_ok}
use Rattle.zk_tables.proofs.Ordering.{length_bytes}
use Rattle.zk_tables.proofs.TableLaw.{table_is_read}
use Rattle.zk_tables.proofs.Finding.{drop_some, found_on, found_here, entry_inside, based, keys_by_bytes}
use Rattle.zk_tables.specs.Signed.{magnitude}

-- ---- the order of keys

pub above_first : (k o : ℕ) (ks os : List ℕ) → o < k → is_above (k ∷ ks) (o ∷ os) ≡ true
unfolding is_above
above_first k o ks os below =
    let other : (k == o) ≡ false = ne_eqb k o (λ e. omega (arith, e, below)) in
    rw other (lt-ltb o k below)

pub above_rest : (k o : ℕ) (ks os : List ℕ) (b : Bool) → k ≡ o → is_above ks os ≡ b → is_above (k ∷ ks) (o ∷ os) ≡ b
unfolding is_above
above_rest k o ks os b same rest = rw (eq-eqb k o same) rest

pub above_cases : (k o : ℕ) (ks os : List ℕ) → is_above (k ∷ ks) (o ∷ os) ≡ true
    → (o < k) ⊎ ((k ≡ o) × (is_above ks os ≡ true))
unfolding is_above
above_cases k o ks os h = elim (cases_Bool (k == o)) [
  | inl t ↦ inr (eqb-true k o t, rw t at h)
  | inr t ↦ inl (ltb-true o k (rw t at h))
]

less : (k o : ℕ) → k ≤ o → (k ≡ o → ⊥) → k < o
less k o at_most other = elim (cases_order k o) [
  | inl same ↦ absurd (other same)
  | inr rest ↦ elim rest [ inl below ↦ below | inr above ↦ absurd (omega (arith, at_most, above)) ]
]

not_above_cases : (k o : ℕ) (ks os : List ℕ) → is_above (k ∷ ks) (o ∷ os) ≡ false
    → (k < o) ⊎ ((k ≡ o) × (is_above ks os ≡ false))
unfolding is_above
not_above_cases k o ks os h = elim (cases_Bool (k == o)) [
  | inl t ↦ inr (eqb-true k o t, rw t at h)
  | inr t ↦ inl (less k o (ltb-false o k (rw t at h)) (eqb-false k o t))
]

-- what is above one that another is not above, is above that one
pub above_both : (k j i : List ℕ) → length i ≡ length j → is_above k j ≡ true → is_above i j ≡ false
    → is_above k i ≡ true
unfolding is_above
above_both [] j i long h g = absurd cc
above_both (k ∷ ks) [] i long h g = absurd cc
above_both (k ∷ ks) (j ∷ js) [] long h g = absurd (omega (arith, long))
above_both (k ∷ ks) (j ∷ js) (i ∷ is) long h g = elim (above_cases k j ks js h) [
  | inl high ↦ above_first k i ks is (elim (not_above_cases i j is js g) [
    | inl low ↦ omega (arith, high, low)
    | inr low ↦ omega (arith, high, low.0)
  ])
  | inr high ↦ elim (not_above_cases i j is js g) [
    | inl low ↦ above_first k i ks is (omega (arith, high.0, low))
    | inr low ↦ above_rest k i ks is true (high.0 ∙ sym low.0) (above_both ks js is (omega (arith, long)) high.1 low.1)
  ]
]

not_above_itself : (k : List ℕ) → is_above k k ≡ false
unfolding is_above
not_above_itself [] = refl
not_above_itself (k ∷ ks) = above_rest k k ks ks false refl (not_above_itself ks)

-- bytes that a key is above don't begin with it
begins_below : (key bytes : List ℕ) → is_above key bytes ≡ true → begins_with bytes key ≡ false
unfolding is_above begins_with
begins_below [] bytes h = absurd cc
begins_below (k ∷ ks) [] h = refl
begins_below (k ∷ ks) (b ∷ bs) h = elim (above_cases k b ks bs h) [
  | inl high ↦ (let other : (b == k) ≡ false = ne_eqb b k (λ e. omega (arith, e, high)) in rw other refl)
  | inr same ↦ (let test : (b == k) ≡ true = eq-eqb b k (sym same.0) in rw (test, begins_below ks bs same.1) refl)
]

-- bytes that a key is not above begin with it or are above it
begins_or_above : (key bytes : List ℕ) → length bytes ≡ length key → is_above key bytes ≡ false
    → begins_with bytes key ≡ false → is_above bytes key ≡ true
unfolding is_above begins_with
begins_or_above [] bytes long h g = absurd cc
begins_or_above (k ∷ ks) [] long h g = absurd (omega (arith, long))
begins_or_above (k ∷ ks) (b ∷ bs) long h g = elim (not_above_cases k b ks bs h) [
  | inl low ↦ above_first b k bs ks low
  | inr same ↦ (let test : (b == k) ≡ true = eq-eqb b k (sym same.0) in
      above_rest b k bs ks true (sym same.0) (begins_or_above ks bs (omega (arith, long)) same.1 (rw test at g)))
]

same_key : (key bytes : List ℕ) → length bytes ≡ length key → begins_with bytes key ≡ true → bytes ≡ key
unfolding begins_with
same_key [] [] long h = refl
same_key [] (b ∷ bs) long h = absurd (omega (arith, long))
same_key (k ∷ ks) [] long h = absurd (omega (arith, long))
same_key (k ∷ ks) (b ∷ bs) long h =
    let parts = and_parts (b == k) (begins_with bs ks) h in
    let front : b ≡ k = eqb-true b k parts.0 in
    let rest = same_key ks bs (omega (arith, long)) parts.1 in
    rw (front, rest) refl

-- ---- the keys of a table

begins_in_bytes : (m : MemoryMap) (a : ℕ) (key : List ℕ) → a + length key ≤ length m.bytes
    → begins_with (drop a m.bytes) key ≡ begins_with (bytes_from m a (length key)) key
unfolding begins_with bytes_from
begins_in_bytes m a [] h = refl
begins_in_bytes m a (k ∷ ks) h =
    let inside : a < length m.bytes = omega (arith, h) in
    let there : slice_get m.bytes a ≡ Some (get_or m.bytes a 0) = slice_get-get_or m.bytes a 0 inside in
    rw (
      drop_some m.bytes a (get_or m.bytes a 0) there,
      ← add-one a,
      begins_in_bytes m (a + 1) ks
          (omega (arith, h)),
    ) refl

-- an entry begins with a key where its own key does
pub has_its_key : (m : MemoryMap) (d : Dictionary) (key : List ℕ) (i : ℕ) → IsDictionaryOf m d
    → length key ≡ key_length m.version → i < d.entries → has_key m d key i ≡ begins_with (entry_key m d i) key
unfolding has_key
has_its_key m d key i stands long below =
    let inside = entry_inside m d i stands below in
    rw (sym long) (begins_in_bytes m (entry_start d i) key (omega (arith, long, inside)))

-- two keys one after the other
next_keys : (m : MemoryMap) (a l n i : ℕ) → do_not_fall (keys_from m a l n) ≡ true → i + 1 < n
    → is_above (bytes_from m (a + l * i) (key_length m.version))
    (bytes_from m (a + l * (i + 1)) (key_length m.version)) ≡ false
unfolding do_not_fall keys_from
next_keys m a l zero i h below = absurd (omega (arith, below))
next_keys m a l (suc zero) i h below = absurd (omega (arith, below))
next_keys m a l (suc (suc n)) zero h below =
    elim (cases_Bool (is_above (bytes_from m a (key_length m.version)) (bytes_from m (a + l) (key_length m.version)))) [
      | inl t ↦ (let g = rw t at h in absurd cc)
      | inr t ↦ (
          let e0 : a + l * 0 ≡ a = omega arith in
          let e1 : a + l * (0 + 1) ≡ a + l = omega arith in
          rw (e0, e1) t)
    ]
next_keys m a l (suc (suc n)) (suc i) h below =
    elim (cases_Bool (is_above (bytes_from m a (key_length m.version)) (bytes_from m (a + l) (key_length m.version)))) [
      | inl t ↦ (let g = rw t at h in absurd cc)
      | inr t ↦ (
          let rest : do_not_fall (keys_from m (a + l) l (suc n)) ≡ true = rw t at h in
          let e0 : a + l * suc i ≡ a + l + l * i = (let p = mul-suc l i in omega (arith, p)) in
          let e1 : a + l * (suc i + 1) ≡ a + l + l * (i + 1) = (let p = mul-suc l (i + 1) in omega (arith, p)) in
          rw (e0, e1) (next_keys m (a + l) l (suc n) i rest (omega (arith, below))))
    ]

-- a dictionary whose keys do not fall
pub record IsOrdered (m : MemoryMap) (d : Dictionary) : Type 0 where
  pub stands : IsDictionaryOf m d
  pub keys : do_not_fall (keys_from m (d.address + d.separators + 4) d.entry_length d.entries) ≡ true
  pub few : d.entries < 32768

-- no key is above a later one
later_keys : (m : MemoryMap) (d : Dictionary) → IsOrdered m d → (i more : ℕ) → i + more < d.entries
    → is_above (entry_key m d i) (entry_key m d (i + more)) ≡ false
later_keys m d o i zero below = let e : i + 0 ≡ i = omega arith in rw e (not_above_itself (entry_key m d i))
later_keys m d o i (suc more) below =
    let before = later_keys m d o i more (omega (arith, below)) in
    let next : is_above (entry_key m d (i + more)) (entry_key m d (i + more + 1)) ≡ false = next_keys m
    (d.address + d.separators + 4) d.entry_length d.entries (i + more) o.keys (omega (arith, below)) in
    let e : i + suc more ≡ i + more + 1 = omega arith in
    let long : length (entry_key m d (i + more)) ≡ length (entry_key m d (i + more + 1)) = length_bytes m
    (entry_start d (i + more)) (key_length m.version)
    ∙ sym (length_bytes m (entry_start d (i + more + 1)) (key_length m.version)) in
    rw e (elim (cases_Bool (is_above (entry_key m d i) (entry_key m d (i + more + 1)))) [
      | inl t ↦ absurd (both_ways _ before (above_both (entry_key m d i) (entry_key m d (i + more + 1))
          (entry_key m d (i + more)) long t next))
      | inr t ↦ t
    ])

ordered_keys : (m : MemoryMap) (d : Dictionary) → IsOrdered m d → (i j : ℕ) → i ≤ j → j < d.entries
    → is_above (entry_key m d i) (entry_key m d j) ≡ false
ordered_keys m d o i j most below =
    let e : i + (j - i) ≡ j = omega (arith, most) in
    subst (λ (x : ℕ). is_above (entry_key m d i) (entry_key m d x) ≡ false) e
    (later_keys m d o i (j - i) (omega (arith, most, below)))

key_lengths : (m : MemoryMap) (d : Dictionary) (i j : ℕ) → length (entry_key m d i) ≡ length (entry_key m d j)
key_lengths m d i j = length_bytes m (entry_start d i) (key_length m.version)
    ∙ sym (length_bytes m (entry_start d j) (key_length m.version))

-- ---- halves

-- the entries before one are below a key, and those after the ones that are left are not
pub record Between (m : MemoryMap) (d : Dictionary) (key : List ℕ) (first left : ℕ) : Type 0 where
  pub before : (j : ℕ) → j < first → is_above key (entry_key m d j) ≡ true
  pub behind : (j : ℕ) → first + left ≤ j → j < d.entries → is_above key (entry_key m d j) ≡ false
  pub inside : first + left ≤ d.entries

doubled : ℕ → ℕ
doubled zero = 1
doubled (suc n) = doubled n + doubled n

-- the entries after the middle
upper : (m : MemoryMap) (d : Dictionary) (key : List ℕ) (first left half : ℕ) → IsOrdered m d → half < left
    → Between m d key first left → is_above key (entry_key m d (first + half)) ≡ true
    → Between m d key (first + half + 1) (left - (half + 1))
upper m d key first left half o below b t = record {
  before = λ j early. above_both key (entry_key m d (first + half)) (entry_key m d j)
      (key_lengths m d j (first + half)) t (ordered_keys m d o j (first + half) (omega (arith, early))
      (let i = b.inside in omega (arith, i, below)));
  behind = λ j late inside. b.behind j (omega (arith, late, below)) inside;
  inside = (let i = b.inside in omega (arith, i, below));
}

-- those before it
lower : (m : MemoryMap) (d : Dictionary) (key : List ℕ) (first left half : ℕ) → IsOrdered m d → half < left
    → Between m d key first left → is_above key (entry_key m d (first + half)) ≡ false → Between m d key first half
lower m d key first left half o below b t = record {
  before = b.before;
  behind = λ j late inside. (elim (cases_Bool (is_above key (entry_key m d j))) [
    | inl u ↦ absurd (both_ways _ t (above_both key (entry_key m d j) (entry_key m d (first + half))
        (key_lengths m d (first + half) j) u (ordered_keys m d o (first + half) j late inside)))
    | inr u ↦ u
  ]);
  inside = (let i = b.inside in omega (arith, i, below));
}

halved_ends : (m : MemoryMap) (d : Dictionary) (key : List ℕ) (more compared first left : ℕ) → IsOrdered m d
    → left < doubled more → Between m d key first left
    → Between m d key (halved m d key more compared first left).entry 0
unfolding halved doubled
halved_ends m d key zero compared first left o few b = let none : left ≡ 0 = omega (arith, few) in rw none at b
halved_ends m d key (suc more) compared first left o few b = elim (cases_Bool (nat_lt 0 left)) [
  | inl some ↦ (let below : left / 2 < left = (let p = ltb-true 0 left some in omega (arith, p)) in
      elim (cases_Bool (is_above key (entry_key m d (first + left / 2)))) [
        | inl t ↦ rw (some, t) (halved_ends m d key more (compared + 1) (first + left / 2 + 1)
            (left - (left / 2 + 1)) o (omega (arith, few)) (upper m d key first left (left / 2) o below b t))
        | inr t ↦ rw (some, t) (halved_ends m d key more (compared + 1) first (left / 2) o (omega (arith, few))
            (lower m d key first left (left / 2) o below b t))
      ])
  | inr none ↦ (let p : left ≡ 0 = (let q = ltb-false 0 left none in omega (arith, q)) in rw none (rw p at b))
]

halved_few : (m : MemoryMap) (d : Dictionary) (key : List ℕ) (more compared first left : ℕ)
    → (halved m d key more compared first left).compared ≤ compared + more
unfolding halved
halved_few m d key zero compared first left = omega arith
halved_few m d key (suc more) compared first left = elim (cases_Bool (nat_lt 0 left)) [
  | inl some ↦ elim (cases_Bool (is_above key (entry_key m d (first + left / 2)))) [
    | inl t ↦ rw (some, t) (let p = halved_few m d key more (compared + 1) (first + left / 2 + 1)
        (left - (left / 2 + 1)) in omega (arith, p))
    | inr t ↦ rw (some, t) (let p = halved_few m d key more (compared + 1) first (left / 2) in omega (arith, p))
  ]
  | inr none ↦ rw none (omega arith)
]

-- one halving after the other

pub halved_out : (m : MemoryMap) (d : Dictionary) (key : List ℕ) (c first left : ℕ) → c < 15 → left ≡ 0
    → halved m d key (15 - c) c first left ≡ record { entry = first; compared = c }
unfolding halved
halved_out m d key c first left h none = let e : 15 - c ≡ suc (14 - c) = omega arith in rw (e, none) refl

pub halved_up : (m : MemoryMap) (d : Dictionary) (key : List ℕ) (c first left : ℕ) → c < 15 → 0 < left
    → is_above key (entry_key m d (first + left / 2)) ≡ true → halved m d key (15 - c) c first left ≡ halved m d key
    (15 - (c + 1)) (c + 1) (first + (left / 2 + 1)) (left - (left / 2 + 1))
unfolding halved
halved_up m d key c first left h some test =
    let e : 15 - c ≡ suc (15 - (c + 1)) = omega arith in
    let next : first + (left / 2 + 1) ≡ first + left / 2 + 1 = omega arith in
    rw (e, lt-ltb 0 left some, test, next) refl

pub halved_down : (m : MemoryMap) (d : Dictionary) (key : List ℕ) (c first left : ℕ) → c < 15 → 0 < left
    → is_above key (entry_key m d (first + left / 2)) ≡ false → halved m d key (15 - c) c first left ≡ halved m d
    key (15 - (c + 1)) (c + 1) first (left / 2)
unfolding halved
halved_down m d key c first left h some test =
    let e : 15 - c ≡ suc (15 - (c + 1)) = omega arith in
    rw (e, lt-ltb 0 left some, test) refl

pub halved_end : (m : MemoryMap) (d : Dictionary) (key : List ℕ) (c first left : ℕ) → 15 ≤ c
    → halved m d key (15 - c) c first left ≡ record { entry = first; compared = c }
unfolding halved
halved_end m d key c first left h = let e : 15 - c ≡ 0 = omega arith in rw e refl

-- ---- the first entry

none_before : (m : MemoryMap) (d : Dictionary) (key : List ℕ) (first : ℕ) → first ≤ d.entries
    → ((j : ℕ) → j < first → has_key m d key j ≡ false) → found_from m d key d.entries 0 ≡ found_from m d key
    (d.entries - first) first
none_before m d key zero most none = let e : d.entries - 0 ≡ d.entries = omega arith in rw e refl
none_before m d key (suc first) most none =
    let next = found_on m d key first (omega (arith, most)) (none first (omega arith)) in
    none_before m d key first (omega (arith, most)) (λ j early. none j (omega (arith, early)))
    ∙ (rw (add-one first) at next)

none_behind : (m : MemoryMap) (d : Dictionary) (key : List ℕ) (n i : ℕ)
    → ((j : ℕ) → i ≤ j → j < i + n → has_key m d key j ≡ false) → found_from m d key n i ≡ 0
unfolding found_from
none_behind m d key zero i none = refl
none_behind m d key (suc n) i none =
    rw (none i (omega arith) (omega arith)) (none_behind m d key n (i + 1)
    (λ j late early. none j (omega (arith, late)) (omega (arith, early))))

begins_nowhere : (m : MemoryMap) (d : Dictionary) (key : List ℕ) (first : ℕ) → IsOrdered m d
    → length key ≡ key_length m.version → first < d.entries → Between m d key first 0
    → has_key m d key first ≡ false → (j : ℕ) → first ≤ j → j < d.entries → has_key m d key j ≡ false
begins_nowhere m d key first o long below b other j late inside = elim (cases_Bool (has_key m d key j)) [
  | inl t ↦ (
      let long_first : length (entry_key m d first) ≡ length key = length_bytes m (entry_start d first)
      (key_length m.version) ∙ sym long in
      let long_j : length (entry_key m d j) ≡ length key = length_bytes m (entry_start d j) (key_length m.version)
      ∙ sym long in
      let its : begins_with (entry_key m d j) key ≡ true = sym (has_its_key m d key j o.stands long inside) ∙ t in
      let same : entry_key m d j ≡ key = same_key key (entry_key m d j) long_j its in
      let front : begins_with (entry_key m d first) key ≡ false = sym (has_its_key m d key first o.stands long
      below) ∙ other in
      let high : is_above (entry_key m d first) key ≡ true = begins_or_above key (entry_key m d first) long_first
      (b.behind first (omega arith) below) front in
      let low : is_above (entry_key m d first) key ≡ false = subst (λ (x : List ℕ). is_above (entry_key m d first)
      x ≡ false) same (ordered_keys m d o first j late inside) in
      absurd (both_ways _ low high))
  | inr t ↦ t
]

found_between : (m : MemoryMap) (d : Dictionary) (key : List ℕ) (first : ℕ) → IsOrdered m d
    → length key ≡ key_length m.version → Between m d key first 0
    → (if nat_lt first d.entries then (if has_key m d key first then entry_start d first else 0) else 0)
    ≡ found_from m d key d.entries 0
found_between m d key first o long b =
    let most : first ≤ d.entries = (let i = b.inside in omega (arith, i)) in
    let skip = none_before m d key first most (λ j early. has_its_key m d key j o.stands long
    (omega (arith, early, most)) ∙ begins_below key (entry_key m d j) (b.before j early)) in
    elim (cases_Bool (nat_lt first d.entries)) [
      | inl some ↦ (let below = ltb-true first d.entries some in elim (cases_Bool (has_key m d key first)) [
        | inl t ↦ rw (some, t) (sym (skip ∙ found_here m d key first below t))
        | inr t ↦ rw (some, t) (sym (skip ∙ none_behind m d key (d.entries - first) first
            (λ j late early. begins_nowhere m d key first o long below b t j late (omega (arith, early, most)))))
      ])
      | inr none ↦ (let past = ltb-false first d.entries none in let e : d.entries - first ≡ 0 = omega (arith, past) in
          rw none (sym (skip ∙ none_behind m d key (d.entries - first) first
          (λ j late early. absurd (omega (arith, late, early, e))))))
    ]

-- what the search comes to, for a key of the right length
record ComesToFirst (m : MemoryMap) (d : Dictionary) (key : List ℕ) : Type 0 where
  first : found_at_end m d key ≡ found_from m d key d.entries 0
  few : compared_to_end m d key ≤ 16

comes_to_first : (m : MemoryMap) (d : Dictionary) (key : List ℕ) → IsOrdered m d
    → length key ≡ key_length m.version → ComesToFirst m d key
unfolding halved_whole doubled
comes_to_first m d key o long =
    let all : Between m d key 0 d.entries = record {
      before = λ j early. absurd (omega (arith, early));
      behind = λ j late inside. absurd (omega (arith, late, inside));
      inside = omega arith;
    } in
    let end = halved_ends m d key 15 0 0 d.entries o (let f = o.few in omega (arith, f)) all in
    let few = halved_few m d key 15 0 0 d.entries in
    record {
      first = found_between m d key (halved m d key 15 0 0 d.entries).entry o long end;
      few = elim (cases_Bool (nat_lt (halved m d key 15 0 0 d.entries).entry d.entries))
          [ inl t ↦ rw t (omega (arith, few)) | inr t ↦ rw t (omega (arith, few)) ];
    }

pub is_found_by_halves : (m : MemoryMap) (d : Dictionary) (key : List ℕ) → IsOrdered m d → IsFoundByHalves m d key
unfolding found_by_halves compared_by_halves found_in
is_found_by_halves m d key o = elim (cases_Bool (length key == key_length m.version)) [
  | inl t ↦ (let c = comes_to_first m d key o (eqb-true (length key) (key_length m.version) t) in
      record { first = rw t c.first; few = rw t c.few })
  | inr t ↦ record { first = rw t refl; few = rw t (omega arith) }
]

-- ---- the dictionaries that allow it

allowed : (m : MemoryMap) (a s l n : ℕ) → (parts_at m a s l n).allows_halves ≡ true
    → (do_not_fall (keys_from m (a + s + 4) l (magnitude n)) ≡ true) × (magnitude n < 32768)
allowed m a s l n h =
    let outer = and_parts (nat_le m.static_base a && nat_lt n 32768)
    (do_not_fall (keys_from m (a + s + 4) l (magnitude n))) h in
    let inner = and_parts (nat_le m.static_base a) (nat_lt n 32768) outer.0 in
    let below = ltb-true n 32768 inner.1 in
    (outer.1, rw inner.1 below)

ordered_by : (m : MemoryMap) (a s l n : ℕ) (d : Dictionary) → dictionary_by m a s l n ≡ Ok d
    → d.allows_halves ≡ true → (do_not_fall (keys_from m (d.address + d.separators + 4) d.entry_length d.entries)
    ≡ true) × (d.entries < 32768)
unfolding dictionary_by
ordered_by m a s l n d h allows = elim (cases_Bool (nat_lt l (key_length m.version))) [
  | inl t ↦ (let g = rw t at h in absurd cc)
  | inr t ↦ elim (cases_Bool (nat_lt (readable_end m) (a + s + 4 + l * magnitude n))) [
    | inl u ↦ (let g = rw (t, u) at h in absurd cc)
    | inr u ↦ (let g = rw (t, u) at h in
        let same : parts_at m a s l n ≡ d = cc in
        let all : (parts_at m a s l n).allows_halves ≡ true = ap (λ (x : Dictionary). x.allows_halves) same ∙ allows in
        rw (sym same) (allowed m a s l n all))
  ]
]

pub is_ordered : (m : MemoryMap) (d : Dictionary) → IsDictionaryOf m d → d.allows_halves ≡ true → IsOrdered m d
unfolding dictionary_at IsDictionaryOf
is_ordered m d stands allows =
    let b = based m stands.0 in
    let s = bind_ok (dictionary_byte b d.address) _ d stands.1 in
    let l = bind_ok (dictionary_byte b (d.address + s.0 + 1)) _ d s.2 in
    let n = bind_ok (dictionary_word b (d.address + s.0 + 2)) _ d l.2 in
    let o = ordered_by b d.address s.0 l.0 n.0 d n.2 allows in
    record {
      stands = stands;
      keys =
          sym (ap do_not_fall (keys_by_bytes m stands.0 (d.address + d.separators + 4) d.entry_length d.entries))
          ∙ o.0;
      few = o.1;
    }

pub halves_find_the_first : HalvesFindTheFirst
halves_find_the_first m a t key h allows =
    is_found_by_halves m _ key (is_ordered m _ (table_is_read m a t h) allows)

-- what the search gives, by the entry that it comes to

pub first_past : (m : MemoryMap) (d : Dictionary) (key : List ℕ) (i : ℕ) → IsDictionaryOf m d
    → d.allows_halves ≡ true → length key ≡ key_length m.version → i ≡ (halved_whole m d key).entry → d.entries ≤ i
    → 0 ≡ found_from m d key d.entries 0
first_past m d key i stands allows long is past =
    let test : nat_lt (halved_whole m d key).entry d.entries ≡ false = rw is at (le-ltb i d.entries past) in
    rw test at (comes_to_first m d key (is_ordered m d stands allows) long).first

pub first_other : (m : MemoryMap) (d : Dictionary) (key : List ℕ) (i : ℕ) → IsDictionaryOf m d
    → d.allows_halves ≡ true → length key ≡ key_length m.version → i ≡ (halved_whole m d key).entry → i < d.entries
    → has_key m d key i ≡ false → 0 ≡ found_from m d key d.entries 0
first_other m d key i stands allows long is below other =
    let test : nat_lt (halved_whole m d key).entry d.entries ≡ true = rw is at (lt-ltb i d.entries below) in
    let key_test : has_key m d key (halved_whole m d key).entry ≡ false = rw is at other in
    rw (test, key_test) at (comes_to_first m d key (is_ordered m d stands allows) long).first

pub first_here : (m : MemoryMap) (d : Dictionary) (key : List ℕ) (i : ℕ) → IsDictionaryOf m d
    → d.allows_halves ≡ true → length key ≡ key_length m.version → i ≡ (halved_whole m d key).entry → i < d.entries
    → has_key m d key i ≡ true → entry_start d i ≡ found_from m d key d.entries 0
first_here m d key i stands allows long is below here =
    let test : nat_lt (halved_whole m d key).entry d.entries ≡ true = rw is at (lt-ltb i d.entries below) in
    let key_test : has_key m d key (halved_whole m d key).entry ≡ true = rw is at here in
    rw is (rw (test, key_test) at (comes_to_first m d key (is_ordered m d stands allows) long).first)

pub ruleset of_halve = (first_past, first_other, first_here)
