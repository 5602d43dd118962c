-- Looking a key up.
use Rattle.std.proofs.Common.{◌≡◌, ◌≤◌, ◌<◌, ℕ, zero, suc, ◌+◌, ◌*◌, ◌-◌, true, false, List, [], ◌∷◌, drop, get_or}
use Rattle.std.proofs.Common.{Some, Result, Ok, Err, nat_lt, refl, sym, ◌∙◌, ap, subst, arith, inl, inr}
use Rattle.std.specs.Prelude.{slice_get, IfOk}
use Rattle.std.proofs.Math.Nat.{mul-le-mul_left, mul-suc}
use Rattle.std.proofs.lemmas.Bool.{cases_Bool}
use Rattle.std.proofs.lemmas.Bool.Decides.{nat_tests}
use Rattle.zk_mem.specs.declared.fault.Fault.{Fault}
use Rattle.zk_mem.specs.Map.{MemoryMap, readable_end}
use Rattle.zk_tables.specs.declared.dictionary.Dictionary.{Dictionary}
use Rattle.zk_tables.specs.Dictionaries.{key_length, dictionary_byte, dictionary_word, dictionary_by}
use Rattle.zk_tables.specs.Dictionaries.{dictionary_at, IsDictionaryOf, parts_at, bytes_from, keys_from, has_key}
use Rattle.zk_tables.specs.Dictionaries.{found_from, entry_start}
use Rattle.zk_tables.proofs.Steps.{bind_ok}
use Rattle.zk_tables.specs.Signed.{magnitude}

-- what stands after a byte that is there
pub drop_some : (xs : List ℕ) (i x : ℕ) → slice_get xs i ≡ Some x → drop i xs ≡ x ∷ drop (suc i) xs
drop_some [] i x h = absurd cc
drop_some (y ∷ ys) zero x h = let same : y ≡ x = cc in rw same refl
drop_some (y ∷ ys) (suc i) x h = drop_some ys i x h

-- ---- the entries lie in data

-- what a dictionary of the memory keeps to
pub record IsInside (m : MemoryMap) (d : Dictionary) : Type 0 where
  pub end : d.address + d.separators + 4 + d.entry_length * d.entries ≤ readable_end m
  pub room : key_length m.version ≤ d.entry_length
  pub some : 1 ≤ d.address + d.separators + 4

by_inside : (m : MemoryMap) (a s l n : ℕ) (d : Dictionary) → dictionary_by m a s l n ≡ Ok d
    → IsInside m d × (d.address ≡ a) × (d.separators ≡ s)
unfolding dictionary_by
by_inside m a s l n d h = elim (cases_Bool (nat_lt l (key_length m.version))) [
  | inl t ↦ (let g = rw t at h in absurd cc)
  | inr t ↦ elim (cases_Bool (nat_lt (readable_end m) (a + s + 4 + l * magnitude n))) [
    | inl u ↦ (let g = rw (t, u) at h in absurd cc)
    | inr u ↦ (let g = rw (t, u) at h in
        let same : parts_at m a s l n ≡ d = cc in
        rw (sym same) (
          record {
            end = grind (arith, nat_tests);
            room = grind (arith, nat_tests);
            some = omega arith;
          },
          refl,
          refl,
        ))
  ]
]

pub dictionary_address : (m : MemoryMap) (a : ℕ) (d : Dictionary) → dictionary_at m a ≡ Ok d → d.address ≡ a
unfolding dictionary_at
dictionary_address m a d h =
    let s = bind_ok (dictionary_byte m a) _ d h in
    let l = bind_ok (dictionary_byte m (a + s.0 + 1)) _ d s.2 in
    let n = bind_ok (dictionary_word m (a + s.0 + 2)) _ d l.2 in
    (by_inside m a s.0 l.0 n.0 d n.2).1

-- a memory with another static base
abbrev pub based : MemoryMap → ℕ → MemoryMap
based m base = record m { static_base = base }

-- what was read at an address is the dictionary that stands there
pub read_stands : (m : MemoryMap) (a : ℕ) (d : Dictionary) → dictionary_at m a ≡ Ok d → IsDictionaryOf m d
unfolding IsDictionaryOf
read_stands m a d h = (m.static_base, subst (λ x. dictionary_at m x ≡ Ok d) (sym (dictionary_address m a d h)) h)

pub dictionary_stands : (m : MemoryMap) (a : ℕ) (r : Result Dictionary Fault) → r ≡ dictionary_at m a
    → IfOk r (λ d. IsDictionaryOf m d)
dictionary_stands m a (Ok d) h = read_stands m a d (sym h)
dictionary_stands m a (Err e) h = tt

-- keys are their bytes alone
bytes_by_bytes : (m : MemoryMap) (base a n : ℕ) → bytes_from (based m base) a n ≡ bytes_from m a n
unfolding bytes_from
bytes_by_bytes m base a zero = refl
bytes_by_bytes m base a (suc n) = ap (λ (xs : List ℕ). get_or m.bytes a 0 ∷ xs) (bytes_by_bytes m base (a + 1) n)

pub keys_by_bytes : (m : MemoryMap) (base a l n : ℕ) → keys_from (based m base) a l n ≡ keys_from m a l n
unfolding keys_from
keys_by_bytes m base a l zero = refl
keys_by_bytes m base a l (suc n) =
    ap (λ (k : List ℕ). k ∷ keys_from (based m base) (a + l) l n) (bytes_by_bytes m base a (key_length m.version))
    ∙ ap (λ (ks : List (List ℕ)). bytes_from m a (key_length m.version) ∷ ks) (keys_by_bytes m base (a + l) l n)

pub dictionary_inside : (m : MemoryMap) (d : Dictionary) → IsDictionaryOf m d → IsInside m d
unfolding dictionary_at IsDictionaryOf
dictionary_inside m d h =
    let b = based m h.0 in
    let s = bind_ok (dictionary_byte b d.address) _ d h.1 in
    let l = bind_ok (dictionary_byte b (d.address + s.0 + 1)) _ d s.2 in
    let n = bind_ok (dictionary_word b (d.address + s.0 + 2)) _ d l.2 in
    let inside = (by_inside b d.address s.0 l.0 n.0 d n.2).0 in
    record { end = inside.end; room = inside.room; some = inside.some }

rows_below : (l i n : ℕ) → i < n → l * i + l ≤ l * n
rows_below l i n below =
    let all : l * suc i ≤ l * n = mul-le-mul_left l (omega arith) in omega (arith, all, mul-suc l i)

pub entry_inside : (m : MemoryMap) (d : Dictionary) (i : ℕ) → IsDictionaryOf m d → i < d.entries
    → entry_start d i + key_length m.version ≤ readable_end m
entry_inside m d i h below =
    let inside = dictionary_inside m d h in
    let front : d.entry_length * i + d.entry_length ≤ d.entry_length * d.entries = rows_below d.entry_length i
    d.entries below in
    omega (arith, inside.end, inside.room)

-- ---- one entry after the other

pub found_on : (m : MemoryMap) (d : Dictionary) (key : List ℕ) (i : ℕ) → i < d.entries → has_key m d key i ≡ false
    → found_from m d key (d.entries - i) i ≡ found_from m d key (d.entries - (i + 1)) (i + 1)
unfolding found_from
found_on m d key i h test = let e : d.entries - i ≡ suc (d.entries - (i + 1)) = omega arith in rw (e, test) refl

pub found_here : (m : MemoryMap) (d : Dictionary) (key : List ℕ) (i : ℕ) → i < d.entries
    → has_key m d key i ≡ true → found_from m d key (d.entries - i) i ≡ entry_start d i
unfolding found_from
found_here m d key i h test = let e : d.entries - i ≡ suc (d.entries - (i + 1)) = omega arith in rw (e, test) refl

pub found_none : (m : MemoryMap) (d : Dictionary) (key : List ℕ) (i : ℕ) → d.entries ≤ i
    → found_from m d key (d.entries - i) i ≡ 0
unfolding found_from
found_none m d key i h = let e : d.entries - i ≡ zero = omega arith in rw e refl

pub ruleset of_walk = (found_on, found_here, found_none)
