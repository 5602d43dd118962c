-- What is found of a dictionary.
use Rattle.std.proofs.Common.{◌≡◌, ◌≢◌, ◌∙◌, ℕ, zero, suc, ◌+◌, ◌<◌, ◌≤◌, inl, inr, Bool, true, false, ◌||◌, ◌&&◌, List}
use Rattle.std.proofs.Common.{[], ◌∷◌, length, take, drop, drop-cons, get_or, Result, Ok, Err, refl, sym, ap, subst}
use Rattle.std.proofs.Common.{arith, nat_lt, eqb, if◌then◌else◌}
use Rattle.std.specs.Prelude.{is_err}
use Rattle.std.proofs.lemmas.Bool.{cases_eq, cases_lt, eqb-true, eqb-false, ne_eqb, eq-eqb}
use Rattle.zk_mem.specs.declared.fault.Fault.{Fault}
use Rattle.zk_mem.specs.declared.fault.Fault.TheVariants.{BadDictionary}
use Rattle.zk_mem.specs.Header.{header_of}
use Rattle.zk_mem.specs.Map.{MemoryMap, HasBytes}
use Rattle.zk_tables.specs.declared.dictionary.Dictionary.{Dictionary}
use Rattle.zk_tables.specs.Dictionaries.{IsDictionaryOf, bytes_from, dictionary_at, entry_start, is_above, key_length}
use Rattle.zk_tables.specs.Halves.{entry_key}
use Rattle.zk_tables.proofs.Finding.{entry_inside}
use Rattle.zk_tables.proofs.Ordering.{length_bytes}
use Rattle.zk_tables.proofs.TableLaw.{dictionaries_are_tables}
use Rattle.zk_inspect.specs.declared.check.finding.Number.TheVariants.{DictionaryOrder, DictionaryExtent}
use Rattle.zk_inspect.specs.Findings.{Finds}
use Rattle.zk_inspect.specs.Keys.{Falls, IsFirstFall, comes_before, key_in}
use Rattle.zk_inspect.specs.Lists.{IsListOf}
use Rattle.zk_inspect.proofs.Listed.{list_if, list_none, list_one}

-- ---- the order of keys

or_false : (a : Bool) → (a || false) ≡ a
or_false true = refl
or_false false = refl

before_by : (x y : ℕ) (xs ys : List ℕ) (b : Bool) → eqb y x ≡ b → comes_before xs ys ≡ is_above ys xs
    → (nat_lt x y || ((eqb x y) && comes_before xs ys)) ≡ (if b then is_above ys xs else nat_lt x y)
before_by x y xs ys true e rest =
    let same : x ≡ y = sym (eqb-true y x e) in
    rw (same, eq-eqb y y refl, rest) (let n : nat_lt y y ≡ false = grind arith in rw n refl)
before_by x y xs ys false e rest =
    let other : eqb x y ≡ false = ne_eqb x y (λ s. eqb-false y x e (sym s)) in
    rw other (or_false (nat_lt x y))

-- one key comes before another that is above it
before_above : (xs ys : List ℕ) → length xs ≡ length ys → comes_before xs ys ≡ is_above ys xs
unfolding comes_before is_above
before_above [] [] e = refl
before_above [] (y ∷ ys) e = absurd (omega arith)
before_above (x ∷ xs) [] e = absurd (omega arith)
before_above (x ∷ xs) (y ∷ ys) e = before_by x y xs ys (eqb y x) refl (before_above xs ys (omega arith))

-- the bytes from an address on
taken : (m : MemoryMap) (a n : ℕ) → a + n ≤ length m.bytes → take n (drop a m.bytes) ≡ bytes_from m a n
unfolding bytes_from
taken m a zero le = refl
taken m a (suc n) le =
    let lt : a < length m.bytes = omega arith in
    let e : a + 1 ≡ suc a = omega arith in
    rw (drop-cons m.bytes a 0) (ap (λ (bs : List ℕ). get_or m.bytes a 0 ∷ bs)
    (ap (λ (k : ℕ). take n (drop k m.bytes)) (sym e) ∙ taken m (a + 1) n (omega arith)))

key_is : (m : MemoryMap) (d : Dictionary) (i : ℕ) → IsDictionaryOf m d → i < d.entries → key_in m d i ≡ entry_key m d i
unfolding key_in
key_is m d i h lt = let le = entry_inside m d i h lt in taken m (entry_start d i) (key_length m.version) (omega arith)

pub falls_by : (m : MemoryMap) (d : Dictionary) (i : ℕ) → IsDictionaryOf m d → i + 1 < d.entries
    → comes_before (key_in m d i) (key_in m d (i + 1)) ≡ is_above (entry_key m d (i + 1)) (entry_key m d i)
falls_by m d i h lt =
    let first = key_is m d i h (omega arith) in
    let next = key_is m d (i + 1) h lt in
    rw (first, next) (before_above (entry_key m d i) (entry_key m d (i + 1))
    (length_bytes m (entry_start d i) (key_length m.version)
    ∙ sym (length_bytes m (entry_start d (i + 1)) (key_length m.version))))

-- ---- the first that falls

pub fall_more : (m : MemoryMap) (d : Dictionary) (i : ℕ) (above : Bool) → IsDictionaryOf m d → i + 1 < d.entries
    → above ≡ is_above (entry_key m d (i + 1)) (entry_key m d i) → above ≡ true
    → ((k : ℕ) → k < i → Falls m d k → ⊥) → (k : ℕ) → k < i + 1 → Falls m d k → ⊥
fall_more m d i above h lt e up none k below f = elim (cases_eq k i) [
  | inl s ↦ (let g : comes_before (key_in m d i) (key_in m d (i + 1)) ≡ false = rw s at f.1 in
      let t = falls_by m d i h lt in absurd cc)
  | inr ne ↦ none k (omega arith) f
]

pub fall_here : (m : MemoryMap) (d : Dictionary) (i : ℕ) (above : Bool) → IsDictionaryOf m d → i + 1 < d.entries
    → above ≡ is_above (entry_key m d (i + 1)) (entry_key m d i) → above ≡ false → Falls m d i
fall_here m d i above h lt e down = (lt, falls_by m d i h lt ∙ sym e ∙ down)

-- ---- what is listed

same_dictionary : (r : Result Dictionary Fault) (d e : Dictionary) → r ≡ Ok d → r ≡ Ok e → d ≡ e
same_dictionary r d e h k = cc

-- of two that are the first neither is the lower one
same_first : (m : MemoryMap) (d : Dictionary) (i j : ℕ) → Falls m d i → ((k : ℕ) → k < i → Falls m d k → ⊥)
    → Falls m d j → ((k : ℕ) → k < j → Falls m d k → ⊥) → j ≡ i
same_first m d i j f first g second = elim (cases_lt j i) [
  | inl lt ↦ absurd (first j lt g)
  | inr ge ↦ elim (cases_lt i j) [ inl lt ↦ absurd (second i lt f) | inr le ↦ omega arith ]
]

same_fall : (m : MemoryMap) (d : Dictionary) (i b : ℕ) → dictionary_at m (header_of m.file).dictionary ≡ Ok d
    → Falls m d i → ((k : ℕ) → k < i → Falls m d k → ⊥) → IsFirstFall m b → b ≡ entry_start d (i + 1)
same_fall m d i b stands falls first p =
    let same = same_dictionary (dictionary_at m (header_of m.file).dictionary) p.dictionary d p.stands stands in
    let g : Falls m d p.index = subst (λ (x : Dictionary). Falls m x p.index) same p.falls in
    let second : (k : ℕ) → k < p.index → Falls m d k → ⊥ = subst (λ (x : Dictionary). (k : ℕ) → k < p.index
    → Falls m x k → ⊥) same p.first in
    let index = same_first m d i p.index falls first g second in
    p.address ∙ ap (λ (x : Dictionary). entry_start x (p.index + 1)) same ∙ ap (λ (k : ℕ). entry_start d (k + 1)) index

pub first_fall : (m : MemoryMap) (d : Dictionary) (i : ℕ) (xs : List ℕ) → (header_of m.file).dictionary ≢ 0
    → dictionary_at m (header_of m.file).dictionary ≡ Ok d → d.is_sorted ≡ true → Falls m d i
    → ((k : ℕ) → k < i → Falls m d k → ⊥) → xs ≡ entry_start d (i + 1) ∷ [] → IsListOf (Finds m DictionaryOrder) xs
unfolding Finds
first_fall m d i xs named stands sorted falls first is =
    subst (IsListOf (Finds m DictionaryOrder)) (sym is) (list_one (Finds m DictionaryOrder) (entry_start d (i + 1)) (
      named,
      record {
        dictionary = d;
        index = i;
        stands = stands;
        sorted = sorted;
        falls = falls;
        first = first;
        address = refl;
      },
    )
    (λ b p. same_fall m d i b stands falls first p.1))

pub no_fall : (m : MemoryMap) (d : Dictionary) (xs : List ℕ) → dictionary_at m (header_of m.file).dictionary ≡ Ok
    d → ((k : ℕ) → Falls m d k → ⊥) → xs ≡ [] → IsListOf (Finds m DictionaryOrder) xs
unfolding Finds
no_fall m d xs stands none is =
    subst (IsListOf (Finds m DictionaryOrder)) (sym is) (list_none (Finds m DictionaryOrder) (λ a p.
    (let f = p.1 in let same = same_dictionary (dictionary_at m (header_of m.file).dictionary) f.dictionary d
    f.stands stands in
    none f.index (subst (λ (x : Dictionary). Falls m x f.index) same f.falls))))

pub unsorted : (m : MemoryMap) (d : Dictionary) (xs : List ℕ) → dictionary_at m (header_of m.file).dictionary ≡ Ok
    d → d.is_sorted ≡ false → xs ≡ [] → IsListOf (Finds m DictionaryOrder) xs
unfolding Finds
unsorted m d xs stands not_sorted is =
    subst (IsListOf (Finds m DictionaryOrder)) (sym is) (list_none (Finds m DictionaryOrder) (λ a p.
    (let f = p.1 in let same = same_dictionary (dictionary_at m (header_of m.file).dictionary) f.dictionary d
    f.stands stands in
    let s : d.is_sorted ≡ true = subst (λ (x : Dictionary). x.is_sorted ≡ true) same f.sorted in
    absurd cc)))

pub no_order : (m : MemoryMap) (f : Fault) (xs : List ℕ) → dictionary_at m (header_of m.file).dictionary ≡ Err f
    → xs ≡ [] → IsListOf (Finds m DictionaryOrder) xs
unfolding Finds
no_order m f xs stands is =
    subst (IsListOf (Finds m DictionaryOrder)) (sym is) (list_none (Finds m DictionaryOrder)
    (λ a p. (let s = p.1.stands in absurd cc)))

pub unnamed : (m : MemoryMap) (xs : List ℕ) → (header_of m.file).dictionary ≡ 0 → xs ≡ []
    → IsListOf (Finds m DictionaryOrder) xs
unfolding Finds
unnamed m xs z is =
    subst (IsListOf (Finds m DictionaryOrder)) (sym is) (list_none (Finds m DictionaryOrder) (λ a p. p.0 z))

bad_by : (m : MemoryMap) (address : ℕ) (r : Result Dictionary Fault) → HasBytes m → dictionary_at m address ≡ r
    → is_err r ≡ true → dictionary_at m address ≡ Err BadDictionary
bad_by m address (Ok d) bytes e h = absurd cc
bad_by m address (Err f) bytes e h =
    e ∙ ap (λ (g : Fault). Err g) (((dictionaries_are_tables m address bytes).refused f).0 e).0

pub bad_dictionary : (m : MemoryMap) (address : ℕ) (bad : Bool) (xs : List ℕ) → HasBytes m
    → address ≡ (header_of m.file).dictionary → address ≢ 0 → bad ≡ is_err (dictionary_at m address)
    → xs ≡ (if bad then address ∷ [] else []) → IsListOf (Finds m DictionaryExtent) xs
unfolding Finds
bad_dictionary m address bad xs bytes named some e is =
    subst (IsListOf (Finds m DictionaryExtent)) (sym is) (list_if (Finds m DictionaryExtent) address bad
    (λ h. record {
      named = some;
      address = named;
      bad = bad_by m address (dictionary_at m address) bytes
          refl (sym e ∙ h);
    })
    (λ b p. (let same : b ≡ address = p.address ∙ sym named in
    (same, e ∙ ap is_err (ap (dictionary_at m) (sym same) ∙ p.bad)))))

pub unnamed_dictionary : (m : MemoryMap) (address : ℕ) (bad : Bool) (xs : List ℕ)
    → address ≡ (header_of m.file).dictionary → address ≡ 0 → bad ≡ false → xs ≡ (if bad then address ∷ [] else [])
    → IsListOf (Finds m DictionaryExtent) xs
unfolding Finds
unnamed_dictionary m address bad xs named none e is =
    subst (IsListOf (Finds m DictionaryExtent)) (sym is) (list_if (Finds m DictionaryExtent) address bad
    (λ h. absurd cc)
    (λ b p. absurd (p.named (p.address ∙ sym named ∙ none))))
