-- What is read at an address is the dictionary that the bytes spell there.
use Rattle.std.proofs.Common.{◌≡◌, ◌≤◌, ◌<◌, ℕ, zero, suc, ◌+◌, ◌*◌, ◌/◌, ◌%◌, true, false, List, [], ◌∷◌, ◌++◌, length}
use Rattle.std.proofs.Common.{length-append, take, get_or, Result, Ok, Err, nat_lt, refl, sym, ◌∙◌, ap, subst, arith}
use Rattle.std.proofs.Common.{inl, inr}
use Rattle.std.specs.Prelude.{map}
use Rattle.std.specs.List.{concat, AllByRecursion}
use Rattle.std.proofs.Math.Nat.{mul-suc}
use Rattle.std.proofs.lemmas.Bool.{cases_Bool, ltb-true}
use Rattle.std.proofs.lemmas.Bool.Decides.{nat_tests}
use Rattle.zk_mem.specs.declared.fault.Fault.{Fault}
use Rattle.zk_mem.specs.declared.fault.Fault.TheVariants.{BadDictionary}
use Rattle.zk_mem.specs.Header.{word_in}
use Rattle.zk_mem.specs.Map.{MemoryMap, readable_end, byte_at, word_at, HasBytes}
use Rattle.zk_tables.specs.declared.dictionary.Dictionary.{Dictionary}
use Rattle.zk_tables.specs.PropertyList.{Stands}
use Rattle.zk_tables.specs.Dictionaries.{key_length, Table, IsTable, table_bytes, described, dictionary_byte}
use Rattle.zk_tables.specs.Dictionaries.{dictionary_word, dictionary_by, dictionary_at, IsDictionaryOf, parts_at}
use Rattle.zk_tables.specs.Dictionaries.{bytes_from, keys_from, entry_start, DictionariesAreTables}
use Rattle.zk_tables.proofs.Steps.{bind_ok, bind_err, chosen, same_value}
use Rattle.zk_tables.proofs.ListLaw.{byte_small}
use Rattle.zk_tables.proofs.Ordering.{length_bytes}
use Rattle.zk_tables.proofs.Finding.{read_stands}
use Rattle.zk_tables.proofs.LookUpLaw.{stands_first, stands_behind, table_entries_stand}
use Rattle.zk_tables.specs.Signed.{magnitude}

-- ---- bytes of data

abbrev value : ℕ → Result ℕ Fault
value x = Ok x

byte_found : (m : MemoryMap) (a x : ℕ) → dictionary_byte m a ≡ Ok x → byte_at m a ≡ Ok x
unfolding dictionary_byte
byte_found m a x h = elim (chosen (nat_lt a (readable_end m)) _ _ _ h) [ inl t ↦ t.1 | inr t ↦ absurd cc ]

byte_fault : (m : MemoryMap) (a : ℕ) (e : Fault) → dictionary_byte m a ≡ Err e → e ≡ BadDictionary
unfolding dictionary_byte byte_at
byte_fault m a e h = elim (cases_Bool (nat_lt a (readable_end m))) [
  | inl t ↦ (let g = rw t at h in absurd cc)
  | inr t ↦ (let g = rw t at h in cc)
]

word_fault : (m : MemoryMap) (a : ℕ) (e : Fault) → dictionary_word m a ≡ Err e → e ≡ BadDictionary
unfolding dictionary_word word_at
word_fault m a e h = elim (cases_Bool (nat_lt (a + 1) (readable_end m))) [
  | inl t ↦ (let g = rw t at h in absurd cc)
  | inr t ↦ (let g = rw t at h in cc)
]

byte_inside : (m : MemoryMap) (a : ℕ) → a < readable_end m → byte_at m a ≡ Ok (get_or m.bytes a 0)
unfolding byte_at
byte_inside m a h = let t : nat_lt a (readable_end m) ≡ true = grind (arith, nat_tests) in rw t refl

byte_below : (m : MemoryMap) (a x : ℕ) → byte_at m a ≡ Ok x → a < readable_end m
unfolding byte_at
byte_below m a x h =
    elim (chosen (nat_lt a (readable_end m)) _ _ _ h) [ inl t ↦ ltb-true a (readable_end m) t.0 | inr t ↦ absurd cc ]

byte_value : (m : MemoryMap) (a x : ℕ) → byte_at m a ≡ Ok x → get_or m.bytes a 0 ≡ x
unfolding byte_at
byte_value m a x h =
    elim (chosen (nat_lt a (readable_end m)) _ _ _ h) [ inl t ↦ same_value _ x t.1 | inr t ↦ absurd cc ]

byte_of : (m : MemoryMap) (a x : ℕ) → byte_at m a ≡ Ok x → dictionary_byte m a ≡ Ok x
unfolding dictionary_byte
byte_of m a x h =
    let t : nat_lt a (readable_end m) ≡ true = (let below = byte_below m a x h in grind (arith, nat_tests)) in rw t h

-- ---- a word is two bytes

word_found : (m : MemoryMap) (a x : ℕ) → dictionary_word m a ≡ Ok x → (a + 1 < readable_end m) × (word_in m.bytes a ≡ x)
unfolding dictionary_word word_at
word_found m a x h = elim (cases_Bool (nat_lt (a + 1) (readable_end m))) [
  | inl t ↦ (let g = rw t at h in (ltb-true (a + 1) (readable_end m) t, same_value _ x g))
  | inr t ↦ (let g = rw t at h in absurd cc)
]

word_of : (m : MemoryMap) (a x : ℕ) → a + 1 < readable_end m → word_in m.bytes a ≡ x → dictionary_word m a ≡ Ok x
unfolding dictionary_word word_at
word_of m a x below same =
    let t : nat_lt (a + 1) (readable_end m) ≡ true = grind (arith, nat_tests) in rw (t, same) refl

-- ---- bytes one after the other

bytes_stand : (m : MemoryMap) (a n : ℕ) → a + n ≤ readable_end m → Stands m a (bytes_from m a n) (a + n)
unfolding bytes_from
bytes_stand m a zero h = omega arith
bytes_stand m a (suc n) h =
    let e : a + 1 + n ≡ a + suc n = omega arith in (
      byte_inside m a (omega (arith, h)),
      subst (λ b. Stands m (a + 1) (bytes_from m (a + 1) n) b) e
          (bytes_stand m (a + 1) n (omega (arith, h))),
    )

joined : (m : MemoryMap) (a b c : ℕ) (xs ys : List ℕ) → Stands m a xs b → Stands m b ys c → Stands m a (xs ++ ys) c
joined m a b c [] ys h k = rw h k
joined m a b c (x ∷ xs) ys h k = (h.0, joined m (a + 1) b c xs ys h.1 k)

stands_end : (m : MemoryMap) (a b : ℕ) (xs : List ℕ) → Stands m a xs b → b ≡ a + length xs
stands_end m a b [] h = omega (arith, h)
stands_end m a b (x ∷ xs) h = omega (arith, stands_end m (a + 1) b xs h.1)

-- what stands lies in data
stands_inside : (m : MemoryMap) (a b x : ℕ) (xs : List ℕ) → Stands m a (x ∷ xs) b → b ≤ readable_end m
stands_inside m a b x [] h = omega (arith, byte_below m a x h.0, h.1)
stands_inside m a b x (y ∷ ys) h = stands_inside m (a + 1) b y ys h.1

-- ---- the entries

entries_from : MemoryMap → ℕ → ℕ → ℕ → List (List ℕ)
entries_from m a l zero = []
entries_from m a l (suc n) = bytes_from m a l ∷ entries_from m (a + l) l n

length_entries : (m : MemoryMap) (a l n : ℕ) → length (entries_from m a l n) ≡ n
unfolding entries_from
length_entries m a l zero = refl
length_entries m a l (suc n) = ap suc (length_entries m (a + l) l n)

entry_lengths : (m : MemoryMap) (a l n : ℕ) → AllByRecursion (λ e. length e ≡ l) (entries_from m a l n)
unfolding entries_from
entry_lengths m a l zero = tt
entry_lengths m a l (suc n) = (length_bytes m a l, entry_lengths m (a + l) l n)

entries_stand : (m : MemoryMap) (a l n : ℕ) → a + l * n ≤ readable_end m
    → Stands m a (concat (entries_from m a l n)) (a + l * n)
unfolding entries_from
entries_stand m a l zero h = omega arith
entries_stand m a l (suc n) h =
    let more = mul-suc l n in
    let e : a + l + l * n ≡ a + l * suc n = omega (arith, more) in
    joined m a (a + l) (a + l * suc n) (bytes_from m a l) (concat (entries_from m (a + l) l n))
    (bytes_stand m a l (omega (arith, h, more)))
    (subst (λ b. Stands m (a + l) (concat (entries_from m (a + l) l n)) b) e
    (entries_stand m (a + l) l n (omega (arith, h, more))))

all_length : (l : ℕ) (es : List (List ℕ)) → AllByRecursion (λ e. length e ≡ l) es → length (concat es) ≡ l * length es
all_length l [] h = omega arith
all_length l (e ∷ es) h = omega (arith, length-append e (concat es), h.0, all_length l es h.1, mul-suc l (length es))

-- ---- the keys

first_bytes : (m : MemoryMap) (a k n : ℕ) → k ≤ n → take k (bytes_from m a n) ≡ bytes_from m a k
unfolding bytes_from
first_bytes m a zero n h = refl
first_bytes m a (suc k) zero h = absurd (omega (arith, h))
first_bytes m a (suc k) (suc n) h = ap (λ xs. get_or m.bytes a 0 ∷ xs) (first_bytes m (a + 1) k n (omega (arith, h)))

keys_read : (m : MemoryMap) (a l n : ℕ) → key_length m.version ≤ l
    → map (λ entry. take (key_length m.version) entry) (entries_from m a l n) ≡ keys_from m a l n
unfolding entries_from keys_from
keys_read m a l zero room = refl
keys_read m a l (suc n) room = rw (first_bytes m a (key_length m.version) l room, keys_read m (a + l) l n room) refl

bytes_found : (m : MemoryMap) (a k c : ℕ) (xs : List ℕ) → Stands m a xs c → k ≤ length xs → take k xs ≡ bytes_from m a k
unfolding bytes_from
bytes_found m a zero c xs h room = refl
bytes_found m a (suc k) c [] h room = absurd (omega (arith, room))
bytes_found m a (suc k) c (x ∷ xs) h room =
    rw (byte_value m a x h.0, bytes_found m (a + 1) k c xs h.1 (omega (arith, room))) refl

keys_found : (m : MemoryMap) (a l c : ℕ) (es : List (List ℕ)) → Stands m a (concat es) c
    → AllByRecursion (λ e. length e ≡ l) es → key_length m.version ≤ l
    → map (λ entry. take (key_length m.version) entry) es ≡ keys_from m a l (length es)
unfolding keys_from
keys_found m a l c [] h lengths room = refl
keys_found m a l c (e ∷ es) h lengths room =
    let first = bytes_found m a (key_length m.version) (a + length e) e (stands_first m a e (concat es) c h)
    (omega (arith, room, lengths.0)) in
    let behind : Stands m (a + l) (concat es) c = rw lengths.0 at (stands_behind m a e (concat es) c h) in
    rw (first, keys_found m (a + l) l c es behind lengths.1 room) refl

-- ---- from the parts to the table

record Parts (m : MemoryMap) (a : ℕ) (d : Dictionary) : Type 0 where
  separators : ℕ
  entry_length : ℕ
  count : ℕ
  first : dictionary_byte m a ≡ Ok separators
  second : dictionary_byte m (a + separators + 1) ≡ Ok entry_length
  third : dictionary_word m (a + separators + 2) ≡ Ok count
  by : dictionary_by m a separators entry_length count ≡ Ok d

parts_of : (m : MemoryMap) (a : ℕ) (d : Dictionary) → dictionary_at m a ≡ Ok d → Parts m a d
unfolding dictionary_at
parts_of m a d h =
    let s = bind_ok (dictionary_byte m a) _ d h in
    let l = bind_ok (dictionary_byte m (a + s.0 + 1)) _ d s.2 in
    let n = bind_ok (dictionary_word m (a + s.0 + 2)) _ d l.2 in
    record { separators = s.0; entry_length = l.0; count = n.0; first = s.1; second = l.1; third = n.1; by = n.2 }

of_parts : (m : MemoryMap) (a : ℕ) (d : Dictionary) → Parts m a d → dictionary_at m a ≡ Ok d
unfolding dictionary_at
of_parts m a d p = rw (p.first, p.second, p.third) p.by

-- what the tests say
tests_of : (m : MemoryMap) (a s l n : ℕ) (d : Dictionary) → dictionary_by m a s l n ≡ Ok d
    → (key_length m.version ≤ l) × (a + s + 4 + l * magnitude n ≤ readable_end m) × (d ≡ parts_at m a s l n)
unfolding dictionary_by
tests_of m a s l n d h = elim (cases_Bool (nat_lt l (key_length m.version))) [
  | inl t ↦ (let g = rw t at h in absurd cc)
  | inr t ↦ elim (cases_Bool (nat_lt (readable_end m) (a + s + 4 + l * magnitude n))) [
    | inl u ↦ (let g = rw (t, u) at h in absurd cc)
    | inr u ↦ (let g = rw (t, u) at h in (
      grind (arith, nat_tests),
      grind (arith, nat_tests),
      (let same : parts_at m a s l n ≡ d = cc in sym same),
    ))
  ]
]

by_tests : (m : MemoryMap) (a s l n : ℕ) → key_length m.version ≤ l → a + s + 4 + l * magnitude n ≤ readable_end m
    → dictionary_by m a s l n ≡ Ok (parts_at m a s l n)
unfolding dictionary_by
by_tests m a s l n room inside =
    let t : nat_lt l (key_length m.version) ≡ false = grind (arith, nat_tests) in
    let u : nat_lt (readable_end m) (a + s + 4 + l * magnitude n) ≡ false = grind (arith, nat_tests) in
    rw (t, u) refl

table_of : MemoryMap → ℕ → ℕ → ℕ → ℕ → Table
table_of m a s l n =
    record {
      separators = bytes_from m (a + 1) s;
      entry_length = l;
      count = n;
      entries = entries_from m (a + s + 4) l (magnitude n);
    }

-- ---- the law

-- the table's first bytes
front_stands : (m : MemoryMap) (a : ℕ) (d : Dictionary) → HasBytes m → (p : Parts m a d)
    → a + p.separators + 4 ≤ readable_end m → Stands m a ((p.separators ∷ bytes_from m (a + 1) p.separators)
    ++ (p.entry_length ∷ p.count / 256 ∷ p.count % 256 ∷ [])) (a + p.separators + 4)
front_stands m a d fits p inside =
    let s = p.separators in
    let word = word_found m (a + s + 2) p.count p.third in
    let high = byte_inside m (a + s + 2) (omega (arith, inside)) in
    let low = byte_inside m (a + s + 3) (omega (arith, inside)) in
    let small_high = byte_small m (a + s + 2) _ fits high in
    let small_low = byte_small m (a + s + 3) _ fits low in
    let next : a + s + 2 + 1 ≡ a + s + 3 = omega arith in
    let both : 256 * get_or m.bytes (a + s + 2) 0 + get_or m.bytes (a + s + 3) 0 ≡ p.count = rw next at word.1 in
    let is_high : get_or m.bytes (a + s + 2) 0 ≡ p.count / 256 = omega (arith, both, small_low) in
    let is_low : get_or m.bytes (a + s + 3) 0 ≡ p.count % 256 = omega (arith, both, small_low) in
    let e1 : a + 1 + s ≡ a + s + 1 = omega arith in
    let e2 : a + s + 1 + 1 ≡ a + s + 2 = omega arith in
    let tail : Stands m (a + 1 + s) (p.entry_length ∷ p.count / 256 ∷ p.count % 256 ∷ [])
    (a + s + 4) =
    rw (e1, e2, next) (
      byte_found m (a + s + 1) p.entry_length p.second,
      (high ∙ ap (λ (x : ℕ). value x) is_high, (low ∙ ap (λ (x : ℕ). value x) is_low, omega arith)),
    ) in (
      byte_found m a s p.first,
      joined m (a + 1) (a + 1 + s) (a + s + 4) (bytes_from m (a + 1) s)
          (p.entry_length ∷ p.count / 256 ∷ p.count % 256 ∷ []) (bytes_stand m (a + 1) s (omega (arith, inside))) tail,
    )

is_table : (m : MemoryMap) (a : ℕ) (d : Dictionary) → HasBytes m → (p : Parts m a d)
    → IsTable m a (table_of m a p.separators p.entry_length p.count)
unfolding table_of
is_table m a d fits p =
    let tests = tests_of m a p.separators p.entry_length p.count d p.by in
    let length_is = length_bytes m (a + 1) p.separators in
    let front = front_stands m a d fits p (omega (arith, tests.1)) in
    let word = word_found m (a + p.separators + 2) p.count p.third in
    let small_high = byte_small m (a + p.separators + 2) _ fits
    (byte_inside m (a + p.separators + 2) (omega (arith, tests.1))) in
    let small_low = byte_small m (a + p.separators + 2 + 1) _ fits
    (byte_inside m (a + p.separators + 2 + 1) (omega (arith, tests.1))) in
    record {
      end = a + p.separators + 4 + p.entry_length * magnitude p.count;
      bytes =
          rw length_is (joined m a (a + p.separators + 4) _ ((p.separators ∷ bytes_from m (a + 1) p.separators)
          ++ (p.entry_length ∷ p.count / 256 ∷ p.count % 256 ∷ []))
          (concat (entries_from m (a + p.separators + 4) p.entry_length (magnitude p.count))) front
          (entries_stand m (a + p.separators + 4) p.entry_length (magnitude p.count) tests.1));
      count =
          (let both : 256 * get_or m.bytes (a + p.separators + 2) 0 + get_or m.bytes (a + p.separators + 2 + 1)
          0 ≡ p.count = word.1 in omega (arith, both, small_high, small_low));
      entries = length_entries m (a + p.separators + 4) p.entry_length (magnitude p.count);
      lengths = entry_lengths m (a + p.separators + 4) p.entry_length (magnitude p.count);
      room = tests.0;
    }

found_there : (m : MemoryMap) (a : ℕ) (d : Dictionary) → HasBytes m → dictionary_at m a ≡ Ok d
    → (t : Table) × IsTable m a t × (d ≡ described m a t)
unfolding table_of
found_there m a d fits h =
    let p = parts_of m a d h in
    let tests = tests_of m a p.separators p.entry_length p.count d p.by in (
      table_of m a p.separators p.entry_length p.count,
      is_table m a d fits p,
      rw (
        length_bytes m (a + 1) p.separators,
        length_entries m (a + p.separators + 4) p.entry_length
            (magnitude p.count),
        keys_read m (a + p.separators + 4) p.entry_length (magnitude p.count) tests.0,
      ) tests.2,
    )

table_end : (m : MemoryMap) (a : ℕ) (t : Table) → (h : IsTable m a t)
    → a + length t.separators + 4 + t.entry_length * magnitude t.count ≤ readable_end m
table_end m a t h =
    let end = stands_inside m a h.end (length t.separators) _ h.bytes in
    let is = stands_end m a h.end (table_bytes t) h.bytes in
    let entries = all_length t.entry_length t.entries h.lengths in
    let all = length-append ((length t.separators ∷ t.separators)
    ++ (t.entry_length ∷ t.count / 256 ∷ t.count % 256 ∷ [])) (concat t.entries) in
    let front = length-append (length t.separators ∷ t.separators)
    (t.entry_length ∷ t.count / 256 ∷ t.count % 256 ∷ []) in
    let many : t.entry_length * length t.entries ≡ t.entry_length * magnitude
    t.count = ap (λ (n : ℕ). t.entry_length * n) h.entries in
    omega (arith, end, is, entries, all, front, many)

table_found : (m : MemoryMap) (a : ℕ) (t : Table) → IsTable m a t → dictionary_at m a ≡ Ok (described m a t)
table_found m a t h =
    let s = length t.separators in
    let front = stands_first m (a + 1) (t.separators ++ (t.entry_length ∷ t.count / 256 ∷ t.count % 256 ∷ []))
    (concat t.entries) h.end h.bytes.1 in
    let tail = stands_behind m (a + 1) t.separators (t.entry_length ∷ t.count / 256 ∷ t.count % 256 ∷ []) _ front in
    let e1 : a + 1 + s ≡ a + s + 1 = omega arith in
    let e2 : a + 1 + s + 1 ≡ a + s + 2 = omega arith in
    let e3 : a + 1 + s + 1 + 1 ≡ a + s + 2 + 1 = omega arith in
    let second = rw e1 at tail.0 in
    let high = rw e2 at tail.1.0 in
    let low = rw e3 at tail.1.1.0 in
    let high_is = byte_value m (a + s + 2) _ high in
    let low_is = byte_value m (a + s + 2 + 1) _ low in
    let word : word_in m.bytes (a + s + 2) ≡ t.count = rw (high_is, low_is) (omega arith) in
    let by = by_tests m a s t.entry_length t.count h.room (table_end m a t h) in
    let start : entry_start (described m a t) 0 ≡ a + s + 4 = omega arith in
    let stand : Stands m (a + s + 4) (concat t.entries) h.end = subst (λ (b : ℕ). Stands m b (concat t.entries)
    h.end) start (table_entries_stand m a t h) in
    let keys = keys_found m (a + s + 4) t.entry_length h.end t.entries stand h.lengths h.room in
    rw (keys, h.entries) (of_parts m a _ (record {
      separators = s;
      entry_length = t.entry_length;
      count = t.count;
      first = byte_of m a s h.bytes.0;
      second = byte_of m (a + s + 1) t.entry_length second;
      third = word_of m (a + s + 2) t.count (byte_below m (a + s + 2 + 1) _ low) word;
      by = by;
    }))

by_fault : (m : MemoryMap) (a s l n : ℕ) (e : Fault) → dictionary_by m a s l n ≡ Err e → e ≡ BadDictionary
unfolding dictionary_by
by_fault m a s l n e h = elim (cases_Bool (nat_lt l (key_length m.version))) [
  | inl t ↦ (let g = rw t at h in cc)
  | inr t ↦ elim (cases_Bool (nat_lt (readable_end m) (a + s + 4 + l * magnitude n))) [
    | inl u ↦ (let g = rw (t, u) at h in cc)
    | inr u ↦ (let g = rw (t, u) at h in absurd cc)
  ]
]

fault_is : (m : MemoryMap) (a : ℕ) (e : Fault) → dictionary_at m a ≡ Err e → e ≡ BadDictionary
unfolding dictionary_at dictionary_by
fault_is m a e h = elim (bind_err (dictionary_byte m a) _ e h) [
  | inl f ↦ byte_fault m a e f
  | inr s ↦ elim (bind_err (dictionary_byte m (a + s.0 + 1)) _ e s.2) [
    | inl f ↦ byte_fault m (a + s.0 + 1) e f
    | inr l ↦ elim (bind_err (dictionary_word m (a + s.0 + 2)) _ e l.2) [
      | inl f ↦ word_fault m (a + s.0 + 2) e f
      | inr n ↦ by_fault m a s.0 l.0 n.0 e n.2
    ]
  ]
]

abbrev some_dictionary : Dictionary → Result Dictionary Fault
some_dictionary d = Ok d

refused_there : (m : MemoryMap) (a : ℕ) (r : Result Dictionary Fault) → dictionary_at m a ≡ r → HasBytes m
    → ((t : Table) → IsTable m a t → ⊥) → r ≡ Err BadDictionary
refused_there m a (Ok d) h fits none = (let t = found_there m a d fits h in absurd (none t.0 t.1))
refused_there m a (Err e) h fits none = rw (fault_is m a e h) refl

-- a table is the dictionary at its address
pub table_is_read : (m : MemoryMap) (a : ℕ) (t : Table) → IsTable m a t → IsDictionaryOf m (described m a t)
table_is_read m a t h = read_stands m a (described m a t) (table_found m a t h)

pub dictionaries_are_tables : DictionariesAreTables
dictionaries_are_tables m a fits = record {
  found = λ d. (λ h. found_there m a d fits h, λ t. rw t.2 (table_found m a t.0 t.1));
  refused =
      λ e. (
        λ h. (fault_is m a e h, λ t k. (let ok = table_found m a t k in absurd cc)),
        λ f. rw f.0 (refused_there m a (dictionary_at m a) refl fits f.1),
      );
}
