-- A look-up finds the first entry that begins with the key.
use Rattle.std.proofs.Common.{◌≡◌, ◌≤◌, ◌<◌, ℕ, ◌+◌, ◌/◌, ◌%◌, true, List, [], ◌∷◌, ◌++◌, length, length-append, drop}
use Rattle.std.proofs.Common.{get_or, Some, Ok, nat_lt, ◌==◌, refl, ◌∙◌, ap, subst, arith, inl, inr, add-one}
use Rattle.std.specs.Prelude.{slice_get}
use Rattle.std.specs.List.{concat, AllByRecursion}
use Rattle.std.proofs.Math.Nat.{mul-suc}
use Rattle.std.proofs.lemmas.Bool.{cases_Bool, eq-eqb, eqb-true, ltb-true, ne_eqb}
use Rattle.std.proofs.lemmas.Option.{slice_get-get_or}
use Rattle.zk_mem.specs.Map.{MemoryMap, readable_end, byte_at}
use Rattle.zk_tables.specs.declared.dictionary.Dictionary.{Dictionary}
use Rattle.zk_tables.specs.PropertyList.{Stands}
use Rattle.zk_tables.specs.Dictionaries.{key_length, Table, IsTable, described, begins_with, has_key, found_from}
use Rattle.zk_tables.specs.Dictionaries.{found_in, entry_start, NoneBegins, LookUpsAreFirst}
use Rattle.zk_tables.proofs.Steps.{chosen, same_value}
use Rattle.zk_tables.proofs.Finding.{drop_some}

-- ---- what stands at an address

pub stands_first : (m : MemoryMap) (a : ℕ) (xs ys : List ℕ) (c : ℕ) → Stands m a (xs ++ ys) c
    → Stands m a xs (a + length xs)
stands_first m a [] ys c h = omega arith
stands_first m a (x ∷ xs) ys c h =
    let e : a + 1 + length xs ≡ a + length (x ∷ xs) = omega arith in
    (h.0, subst (λ b. Stands m (a + 1) xs b) e (stands_first m (a + 1) xs ys c h.1))

pub stands_behind : (m : MemoryMap) (a : ℕ) (xs ys : List ℕ) (c : ℕ) → Stands m a (xs ++ ys) c
    → Stands m (a + length xs) ys c
stands_behind m a [] ys c h = let e : a + 0 ≡ a = omega arith in rw e h
stands_behind m a (x ∷ xs) ys c h =
    let e : a + length (x ∷ xs) ≡ a + 1 + length xs = omega arith in
    rw e (stands_behind m (a + 1) xs ys c h.1)

-- a byte of data, and those after it
byte_front : (m : MemoryMap) (a x : ℕ) → byte_at m a ≡ Ok x → drop a m.bytes ≡ x ∷ drop (a + 1) m.bytes
unfolding byte_at
byte_front m a x h = elim (chosen (nat_lt a (readable_end m)) _ _ _ h) [
  | inl t ↦ (let below = ltb-true a (readable_end m) t.0 in
      let inside : a < length m.bytes = omega (arith, below) in
      let same : get_or m.bytes a 0 ≡ x = same_value _ x t.1 in
      let there : slice_get m.bytes a ≡ Some x = slice_get-get_or m.bytes a 0 inside ∙ ap Some same in
      rw (add-one a) (drop_some m.bytes a x there))
  | inr t ↦ absurd cc
]

begins_same : (m : MemoryMap) (a : ℕ) (xs key : List ℕ) (end : ℕ) → Stands m a xs end → length key ≤ length xs
    → begins_with (drop a m.bytes) key ≡ begins_with xs key
unfolding begins_with
begins_same m a xs [] end h room = refl
begins_same m a [] (k ∷ ks) end h room = absurd (omega (arith, room))
begins_same m a (x ∷ xs) (k ∷ ks) end h room =
    rw (byte_front m a x h.0, begins_same m (a + 1) xs ks end h.1 (omega (arith, room))) refl

-- ---- one entry after the other

next_start : (d : Dictionary) (i : ℕ) → entry_start d i + d.entry_length ≡ entry_start d (i + 1)
next_start d i = rw (add-one i, mul-suc d.entry_length i) (omega arith)

-- what the entries from one on keep to
record Rest (m : MemoryMap) (d : Dictionary) (key : List ℕ) (i : ℕ) (rest : List (List ℕ)) : Type 0 where
  end : ℕ
  bytes : Stands m (entry_start d i) (concat rest) end
  lengths : AllByRecursion (λ e. length e ≡ d.entry_length) rest
  room : length key ≤ d.entry_length

rest_step : (m : MemoryMap) (d : Dictionary) (key : List ℕ) (i : ℕ) (e : List ℕ) (rest : List (List ℕ))
    → Rest m d key i (e ∷ rest) → Rest m d key (i + 1) rest
rest_step m d key i e rest r =
    let start : entry_start d i + length e ≡ entry_start d (i + 1) = rw (r.lengths.0) (next_start d i) in
    record {
      end = r.end;
      bytes =
          subst (λ a. Stands m a (concat rest) r.end) start
          (stands_behind m (entry_start d i) e (concat rest) r.end r.bytes);
      lengths = r.lengths.1;
      room = r.room;
    }

has_entry : (m : MemoryMap) (d : Dictionary) (key : List ℕ) (i : ℕ) (e : List ℕ) (rest : List (List ℕ))
    → Rest m d key i (e ∷ rest) → has_key m d key i ≡ begins_with e key
unfolding has_key
has_entry m d key i e rest r =
    begins_same m (entry_start d i) e key _ (stands_first m (entry_start d i) e (concat rest) r.end r.bytes)
    (omega (arith, r.room, r.lengths.0))

walk_first : (m : MemoryMap) (d : Dictionary) (key : List ℕ) (i : ℕ) (before behind : List (List ℕ))
    (entry : List ℕ) → Rest m d key i (before ++ entry ∷ behind) → begins_with entry key ≡ true
    → NoneBegins before key → found_from m d key (length (before ++ entry ∷ behind)) i ≡ entry_start d
    (i + length before)
unfolding found_from
walk_first m d key i [] behind entry r is none =
    let e : i + 0 ≡ i = omega arith in
    rw (has_entry m d key i entry behind r, is, e) refl
walk_first m d key i (x ∷ xs) behind entry r is none =
    let e : i + length (x ∷ xs) ≡ i + 1 + length xs = omega arith in
    rw (has_entry m d key i x (xs ++ entry ∷ behind) r, none.0, e)
    (walk_first m d key (i + 1) xs behind entry (rest_step m d key i x (xs ++ entry ∷ behind) r) is none.1)

walk_to : (m : MemoryMap) (d : Dictionary) (key : List ℕ) (rest before behind : List (List ℕ)) (entry : List ℕ)
    → Rest m d key 0 rest → rest ≡ before ++ entry ∷ behind → begins_with entry key ≡ true → NoneBegins before key
    → found_from m d key (length rest) 0 ≡ entry_start d (length before)
walk_to m d key rest before behind entry r same is none =
    let at_start : 0 + length before ≡ length before = omega arith in
    let found = walk_first m d key 0 before behind entry (subst (λ xs. Rest m d key 0 xs) same r) is none in
    rw same (rw at_start at found)

walk_none : (m : MemoryMap) (d : Dictionary) (key : List ℕ) (i : ℕ) (rest : List (List ℕ)) → Rest m d key i rest
    → NoneBegins rest key → found_from m d key (length rest) i ≡ 0
unfolding found_from
walk_none m d key i [] r none = refl
walk_none m d key i (x ∷ xs) r none =
    rw (has_entry m d key i x xs r, none.0) (walk_none m d key (i + 1) xs (rest_step m d key i x xs r) none.1)

-- ---- the whole table

-- the bytes before the entries
front_length : (t : Table) → length ((length t.separators ∷ t.separators)
    ++ (t.entry_length ∷ t.count / 256 ∷ t.count % 256 ∷ [])) ≡ length t.separators + 4
front_length t =
    rw (length-append (length t.separators ∷ t.separators) (t.entry_length ∷ t.count / 256 ∷ t.count % 256 ∷ []))
    (omega arith)

pub table_entries_stand : (m : MemoryMap) (a : ℕ) (t : Table) → (h : IsTable m a t)
    → Stands m (entry_start (described m a t) 0) (concat t.entries) h.end
table_entries_stand m a t h =
    let front = (length t.separators ∷ t.separators) ++ (t.entry_length ∷ t.count / 256 ∷ t.count % 256 ∷ []) in
    let bytes : Stands m a (front ++ concat t.entries) h.end = h.bytes in
    let start : a + length front ≡ entry_start (described m a t) 0 = (let l = front_length t in omega (arith, l)) in
    subst (λ b. Stands m b (concat t.entries) h.end) start (stands_behind m a front (concat t.entries) h.end bytes)

whole : (m : MemoryMap) (a : ℕ) (t : Table) (key : List ℕ) → IsTable m a t → length key ≡ key_length m.version
    → Rest m (described m a t) key 0 t.entries
whole m a t key h long =
    record { end = h.end; bytes = table_entries_stand m a t h; lengths = h.lengths; room = omega (arith, long, h.room) }

pub look_ups_are_first : LookUpsAreFirst
unfolding found_in
look_ups_are_first m a t key h = record {
  first = λ before behind entry long same is none. rw (eq-eqb (length key) (key_length m.version) long)
      (walk_to m (described m a t) key t.entries before behind entry (whole m a t key h long) same is none);
  none = λ none. elim (cases_Bool (length key == key_length m.version)) [
    | inl u ↦ rw u (walk_none m (described m a t) key 0 t.entries
        (whole m a t key h (eqb-true (length key) (key_length m.version) u)) none)
    | inr u ↦ rw u refl
  ];
  other = λ long. rw (ne_eqb (length key) (key_length m.version) long) refl;
}
