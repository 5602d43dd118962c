use Rattle.zk_tables.proofs.Halving.{halved_out, halved_up, halved_down, halved_end}
-- Keys as numbers: they are in the order of the keys.
use Rattle.std.proofs.Common.{◌≡◌, ◌≢◌, ◌≤◌, ◌<◌, ℕ, zero, suc, ◌+◌, ◌*◌, ◌-◌, true, false, List, [], ◌∷◌, length}
use Rattle.std.proofs.Common.{get_or, ◌==◌, nat_lt, refl, sym, ◌∙◌, subst, arith, inl, inr}
use Rattle.std.proofs.Math.Nat.{mul-suc}
use Rattle.std.proofs.lemmas.Bool.{cases_Bool, cases_order, lt-ltb, le-ltb, eq-eqb, ne_eqb}
use Rattle.zk_mem.specs.Map.{MemoryMap}
use Rattle.zk_tables.specs.declared.dictionary.Dictionary.{Dictionary}
use Rattle.zk_tables.specs.Dictionaries.{key_length, is_above, begins_with, do_not_fall, bytes_from, keys_from}
use Rattle.zk_tables.specs.Dictionaries.{front_at, number_at, has_key, entry_start, IsDictionaryOf}
use Rattle.zk_tables.specs.Halves.{entry_key}
use Rattle.zk_tables.proofs.Ordering.{length_bytes, falls_here, falls_on}
use Rattle.zk_tables.proofs.Halving.{has_its_key}

-- the items of a list are bytes
abbrev pub AreBytes : List ℕ → Type 0
AreBytes bytes = (i : ℕ) → get_or bytes i 0 < 256

-- a list of bytes as one number, the first the highest, after one that goes before it
number_after : ℕ → List ℕ → ℕ
number_after n [] = n
number_after n (k ∷ ks) = number_after (n * 256 + k) ks

rest_are_bytes : (k : ℕ) (ks : List ℕ) → AreBytes (k ∷ ks) → AreBytes ks
rest_are_bytes k ks h i = h (suc i)

-- what goes before decides
grows : (a b : ℕ) (xs ys : List ℕ) → length xs ≡ length ys → AreBytes xs → a < b → number_after a xs < number_after b ys
unfolding number_after
grows a b [] [] long h below = below
grows a b [] (y ∷ ys) long h below = absurd (omega (arith, long))
grows a b (x ∷ xs) [] long h below = absurd (omega (arith, long))
grows a b (x ∷ xs) (y ∷ ys) long h below =
    let small : x < 256 = h 0 in
    grows (a * 256 + x) (b * 256 + y) xs ys (omega (arith, long)) (rest_are_bytes x xs h) (omega (arith, small, below))

above_is : (n : ℕ) (xs ys : List ℕ) → length xs ≡ length ys → AreBytes xs → AreBytes ys
    → is_above xs ys ≡ nat_lt (number_after n ys) (number_after n xs)
unfolding is_above number_after
above_is n [] [] long f g = sym (le-ltb n n (omega arith))
above_is n [] (y ∷ ys) long f g = absurd (omega (arith, long))
above_is n (x ∷ xs) [] long f g = absurd (omega (arith, long))
above_is n (x ∷ xs) (y ∷ ys) long f g =
    let rest : length xs ≡ length ys = omega (arith, long) in
    elim (cases_order x y) [
      | inl same ↦ rw (eq-eqb x y same)
          (subst (λ (z : ℕ). is_above xs ys ≡ nat_lt (number_after (n * 256 + z) ys)
          (number_after (n * 256 + x) xs)) same (above_is (n * 256 + x) xs ys rest (rest_are_bytes x xs f)
          (rest_are_bytes y ys g)))
      | inr other ↦ elim other [
        | inl low ↦ (let after = grows (n * 256 + x) (n * 256 + y) xs ys rest (rest_are_bytes x xs f)
            (omega (arith, low)) in
            rw (
              ne_eqb x y (λ e. omega (arith, e, low)),
              le-ltb y x (omega (arith, low)),
              le-ltb (number_after (n * 256 + y) ys) (number_after (n * 256 + x) xs) (omega (arith, after)),
            ) refl)
        | inr high ↦ (let after = grows (n * 256 + y) (n * 256 + x) ys xs (sym rest) (rest_are_bytes y ys g)
            (omega (arith, high)) in
            rw (
              ne_eqb x y (λ e. omega (arith, e, high)),
              lt-ltb y x high,
              lt-ltb (number_after (n * 256 + y) ys)
                  (number_after (n * 256 + x) xs) after,
            ) refl)
      ]
    ]

begins_is : (n : ℕ) (xs ys : List ℕ) → length xs ≡ length ys → AreBytes xs → AreBytes ys
    → begins_with xs ys ≡ (number_after n xs == number_after n ys)
unfolding begins_with number_after
begins_is n [] [] long f g = sym (eq-eqb n n refl)
begins_is n [] (y ∷ ys) long f g = absurd (omega (arith, long))
begins_is n (x ∷ xs) [] long f g = absurd (omega (arith, long))
begins_is n (x ∷ xs) (y ∷ ys) long f g =
    let rest : length xs ≡ length ys = omega (arith, long) in
    elim (cases_order x y) [
      | inl same ↦ rw (eq-eqb x y same)
          (subst (λ (z : ℕ). begins_with xs ys ≡ (number_after (n * 256 + x) xs == number_after (n * 256 + z) ys))
          same (begins_is (n * 256 + x) xs ys rest (rest_are_bytes x xs f) (rest_are_bytes y ys g)))
      | inr other ↦ elim other [
        | inl low ↦ (let after = grows (n * 256 + x) (n * 256 + y) xs ys rest (rest_are_bytes x xs f)
            (omega (arith, low)) in
            rw (
              ne_eqb x y (λ e. omega (arith, e, low)),
              ne_eqb (number_after (n * 256 + x) xs)
                  (number_after (n * 256 + y) ys) (λ e. omega (arith, e, after)),
            ) refl)
        | inr high ↦ (let after = grows (n * 256 + y) (n * 256 + x) ys xs (sym rest) (rest_are_bytes y ys g)
            (omega (arith, high)) in
            rw (
              ne_eqb x y (λ e. omega (arith, e, high)),
              ne_eqb (number_after (n * 256 + x) xs)
                  (number_after (n * 256 + y) ys) (λ e. omega (arith, e, after)),
            ) refl)
      ]
    ]

-- ---- the number of a key in memory, and of one by itself

four_in_memory : (m : MemoryMap) (a : ℕ) → front_at m.bytes a ≡ number_after 0 (bytes_from m a 4)
unfolding bytes_from number_after
four_in_memory m a =
    let second : a + 1 + 1 ≡ a + 2 = omega arith in
    let third : a + 2 + 1 ≡ a + 3 = omega arith in
    rw (second, third) (omega arith)

six_in_memory : (m : MemoryMap) (a : ℕ) → front_at m.bytes a * 65536
    + (get_or m.bytes (a + 4) 0 * 256 + get_or m.bytes (a + 5) 0) ≡ number_after 0 (bytes_from m a 6)
unfolding bytes_from number_after
six_in_memory m a =
    let second : a + 1 + 1 ≡ a + 2 = omega arith in
    let third : a + 2 + 1 ≡ a + 3 = omega arith in
    let fourth : a + 3 + 1 ≡ a + 4 = omega arith in
    let fifth : a + 4 + 1 ≡ a + 5 = omega arith in
    rw (second, third, fourth, fifth) (omega arith)

in_memory : (m : MemoryMap) (a : ℕ) → number_at m.version m.bytes a ≡ number_after 0
    (bytes_from m a (key_length m.version))
unfolding number_at
in_memory m a = elim (cases_Bool (nat_lt m.version 4)) [
  | inl t ↦ rw t (four_in_memory m a)
  | inr t ↦ rw t (six_in_memory m a)
]

four_alone : (key : List ℕ) → length key ≡ 4 → front_at key 0 ≡ number_after 0 key
unfolding number_after
four_alone [] h = absurd (omega (arith, h))
four_alone (a ∷ []) h = absurd (omega (arith, h))
four_alone (a ∷ b ∷ []) h = absurd (omega (arith, h))
four_alone (a ∷ b ∷ c ∷ []) h = absurd (omega (arith, h))
four_alone (a ∷ b ∷ c ∷ d ∷ []) h = omega arith
four_alone (a ∷ b ∷ c ∷ d ∷ e ∷ ks) h = absurd (omega (arith, h))

six_alone : (key : List ℕ) → length key ≡ 6 → front_at key 0 * 65536 + (get_or key 4 0 * 256 + get_or key 5 0)
    ≡ number_after 0 key
unfolding number_after
six_alone [] h = absurd (omega (arith, h))
six_alone (a ∷ []) h = absurd (omega (arith, h))
six_alone (a ∷ b ∷ []) h = absurd (omega (arith, h))
six_alone (a ∷ b ∷ c ∷ []) h = absurd (omega (arith, h))
six_alone (a ∷ b ∷ c ∷ d ∷ []) h = absurd (omega (arith, h))
six_alone (a ∷ b ∷ c ∷ d ∷ e ∷ []) h = absurd (omega (arith, h))
six_alone (a ∷ b ∷ c ∷ d ∷ e ∷ f ∷ []) h = omega arith
six_alone (a ∷ b ∷ c ∷ d ∷ e ∷ f ∷ g ∷ ks) h = absurd (omega (arith, h))

alone : (version : ℕ) (key : List ℕ) → length key ≡ key_length version → number_at version key 0 ≡ number_after 0 key
unfolding number_at
alone version key long = elim (cases_Bool (nat_lt version 4)) [
  | inl t ↦ rw t (four_alone key (rw t at long))
  | inr t ↦ rw t (six_alone key (rw t at long))
]

are_bytes_from : (m : MemoryMap) (a n : ℕ) → AreBytes m.bytes → AreBytes (bytes_from m a n)
unfolding bytes_from
are_bytes_from m a zero h i = omega arith
are_bytes_from m a (suc n) h zero = h a
are_bytes_from m a (suc n) h (suc i) = are_bytes_from m (a + 1) n h i

-- ---- two keys in memory

keys_by_number : (m : MemoryMap) (a b : ℕ) → AreBytes m.bytes → is_above (bytes_from m a (key_length m.version))
    (bytes_from m b (key_length m.version)) ≡ nat_lt (number_at m.version m.bytes b) (number_at m.version m.bytes a)
keys_by_number m a b h =
    let n : ℕ = key_length m.version in
    let long : length (bytes_from m a n) ≡ length (bytes_from m b n) = length_bytes m a n ∙ sym (length_bytes m b n) in
    rw (in_memory m a, in_memory m b) (above_is 0 (bytes_from m a n) (bytes_from m b n) long
    (are_bytes_from m a n h) (are_bytes_from m b n h))

pub entries_by_number : (m : MemoryMap) (d : Dictionary) (i j : ℕ) → AreBytes m.bytes
    → is_above (entry_key m d i) (entry_key m d j) ≡ nat_lt (number_at m.version m.bytes (entry_start d j))
    (number_at m.version m.bytes (entry_start d i))
entries_by_number m d i j h = keys_by_number m (entry_start d i) (entry_start d j) h

pub number_falls : (m : MemoryMap) (a l n i : ℕ) → AreBytes m.bytes → i < n
    → number_at m.version m.bytes (a + l) < number_at m.version m.bytes a
    → do_not_fall (keys_from m a l (n + 1 - i)) ≡ false
number_falls m a l n i h below low = falls_here m a l n i below (keys_by_number m a (a + l) h ∙ lt-ltb _ _ low)

pub number_goes_on : (m : MemoryMap) (a l n i : ℕ) → AreBytes m.bytes → i < n
    → number_at m.version m.bytes a ≤ number_at m.version m.bytes (a + l)
    → do_not_fall (keys_from m a l (n + 1 - i)) ≡ do_not_fall (keys_from m (a + l) l (n + 1 - (i + 1)))
number_goes_on m a l n i h below high = falls_on m a l n i below (keys_by_number m a (a + l) h ∙ le-ltb _ _ high)

-- ---- a key and that of an entry

key_by_number : (m : MemoryMap) (d : Dictionary) (key : List ℕ) (i : ℕ) → length key ≡ key_length m.version
    → AreBytes m.bytes → AreBytes key → is_above key (entry_key m d i) ≡ nat_lt
    (number_at m.version m.bytes (entry_start d i)) (number_at m.version key 0)
key_by_number m d key i long h k =
    let n : ℕ = key_length m.version in
    let a : ℕ = entry_start d i in
    rw (in_memory m a, alone m.version key long)
    (above_is 0 key (bytes_from m a n) (long ∙ sym (length_bytes m a n)) k (are_bytes_from m a n h))

pub number_below : (m : MemoryMap) (d : Dictionary) (key : List ℕ) (i : ℕ) → length key ≡ key_length m.version
    → AreBytes m.bytes → AreBytes key → number_at m.version m.bytes (entry_start d i) < number_at m.version key 0
    → is_above key (entry_key m d i) ≡ true
number_below m d key i long h k low = key_by_number m d key i long h k ∙ lt-ltb _ _ low

pub number_not_below : (m : MemoryMap) (d : Dictionary) (key : List ℕ) (i : ℕ) → length key ≡ key_length m.version
    → AreBytes m.bytes → AreBytes key → number_at m.version key 0 ≤ number_at m.version m.bytes (entry_start d i)
    → is_above key (entry_key m d i) ≡ false
number_not_below m d key i long h k high = key_by_number m d key i long h k ∙ le-ltb _ _ high

has_by_number : (m : MemoryMap) (d : Dictionary) (key : List ℕ) (i : ℕ) → IsDictionaryOf m d
    → length key ≡ key_length m.version → i < d.entries → AreBytes m.bytes → AreBytes key
    → has_key m d key i ≡ (number_at m.version m.bytes (entry_start d i) == number_at m.version key 0)
has_by_number m d key i stands long below h k =
    let n : ℕ = key_length m.version in
    let a : ℕ = entry_start d i in
    rw (has_its_key m d key i stands long below, in_memory m a, alone m.version key long)
    (begins_is 0 (bytes_from m a n) key (length_bytes m a n ∙ sym long) (are_bytes_from m a n h) k)

pub number_is : (m : MemoryMap) (d : Dictionary) (key : List ℕ) (i : ℕ) → IsDictionaryOf m d
    → length key ≡ key_length m.version → i < d.entries → AreBytes m.bytes → AreBytes key
    → number_at m.version m.bytes (entry_start d i) ≡ number_at m.version key 0 → has_key m d key i ≡ true
number_is m d key i stands long below h k same = has_by_number m d key i stands long below h k ∙ eq-eqb _ _ same

pub number_is_not : (m : MemoryMap) (d : Dictionary) (key : List ℕ) (i : ℕ) → IsDictionaryOf m d
    → length key ≡ key_length m.version → i < d.entries → AreBytes m.bytes → AreBytes key
    → number_at m.version m.bytes (entry_start d i) ≢ number_at m.version key 0 → has_key m d key i ≡ false
number_is_not m d key i stands long below h k other = has_by_number m d key i stands long below h k ∙ ne_eqb _ _ other

-- ---- the keys of so many entries lie inside

pub next_inside : (l n i a end : ℕ) → i < n → a + l * (n + 1 - i) ≤ end → a + l + l * (n + 1 - (i + 1)) ≤ end
next_inside l n i a end below h =
    let e : n + 1 - i ≡ suc (n + 1 - (i + 1)) = omega arith in
    let g = rw e at h in
    omega (arith, g, mul-suc l (n + 1 - (i + 1)))

pub ruleset of_keys_do_not_fall = (number_falls, number_goes_on, next_inside)

pub ruleset halving = (halved_out, halved_up, halved_down, halved_end, number_below, number_not_below)

pub ruleset numbers = (number_is, number_is_not)
