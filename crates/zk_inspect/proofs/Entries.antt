-- The entries of objects, one after another, and how many are listed.
use Rattle.std.proofs.Common.{◌≡◌, ◌≢◌, ◌∙◌, ℕ, zero, suc, ◌+◌, ◌*◌, ◌-◌, ◌<◌, ◌≤◌, inl, inr, Bool, true, false, Result}
use Rattle.std.proofs.Common.{Ok, Err, refl, sym, ap, subst, arith, nat_lt, if◌then◌else◌}
use Rattle.std.specs.Prelude.{◌↔◌, IsOk}
use Rattle.std.proofs.lemmas.Bool.{cases_lt, cases_eq}
use Rattle.std.proofs.Math.Nat.{mul-le-mul_left}
use Rattle.zk_mem.specs.declared.fault.Fault.{Fault}
use Rattle.zk_mem.specs.declared.fault.Fault.TheVariants.{BadObject}
use Rattle.zk_mem.specs.Results.{◌>>=◌}
use Rattle.zk_mem.specs.Header.{header_of}
use Rattle.zk_mem.specs.Map.{MemoryMap, readable_end}
use Rattle.zk_tables.specs.declared.layout.Layout.{Layout}
use Rattle.zk_tables.specs.Layout.{layout_of, default_words_start, entry_of, is_entry, is_entry_in}
use Rattle.zk_tables.specs.Properties.{table_of}
use Rattle.zk_inspect.specs.Objects.{IsListed, lower_of}

-- an entry lies in data
pub record IsEntry (l : Layout) (table end o e : ℕ) : Type 0 where
  pub some : 0 < o
  pub few : o ≤ l.most_objects
  pub inside : table + 2 * l.default_words + l.entry_bytes * o ≤ end
  pub stands : e ≡ table + 2 * l.default_words + l.entry_bytes * (o - 1)

entry_by : (l : Layout) (table end o e : ℕ) (b : Bool) → is_entry_in l table end o ≡ b
    → (if b then Ok (table + 2 * l.default_words + l.entry_bytes * (o - 1)) else Err BadObject) ≡ Ok e
    → IsEntry l table end o e
unfolding is_entry_in
entry_by l table end o e false d h = absurd cc
entry_by l table end o e true d h = record {
  some = grind arith;
  few = grind arith;
  inside = grind arith;
  stands = cc;
}

pub probe : (m : MemoryMap) (o e : ℕ) → entry_of m o ≡ Ok e → IsEntry (layout_of m.version)
    (default_words_start m) (readable_end m) o e
unfolding entry_of is_entry
probe m o e h = entry_by (layout_of m.version) (default_words_start m) (readable_end m) o e (is_entry m o) refl h

again_by : (l : Layout) (table end o e : ℕ) (b : Bool) → is_entry_in l table end o ≡ b → IsEntry l table end o e
    → (if b then Ok (table + 2 * l.default_words + l.entry_bytes * (o - 1)) else Err BadObject) ≡ Ok e
unfolding is_entry_in
again_by l table end o e true d h = ap (λ (x : ℕ). Ok x) (sym h.stands)
again_by l table end o e false d h = let a = h.some in let b = h.few in let c = h.inside in absurd (grind arith)

pub again : (m : MemoryMap) (o e : ℕ) → IsEntry (layout_of m.version) (default_words_start m) (readable_end m) o e
    → entry_of m o ≡ Ok e
unfolding entry_of is_entry
again m o e h = again_by (layout_of m.version) (default_words_start m) (readable_end m) o e (is_entry m o) refl h

sizes_by : (v : ℕ) (b : Bool) → nat_lt v 4 ≡ b → (9 ≤ (layout_of v).entry_bytes) × ((layout_of v).most_objects ≤ 65535)
unfolding layout_of
sizes_by v true e = rw e (omega arith, omega arith)
sizes_by v false e = rw e (omega arith, omega arith)

pub sizes : (v : ℕ) → (9 ≤ (layout_of v).entry_bytes) × ((layout_of v).most_objects ≤ 65535)
sizes v = sizes_by v (nat_lt v 4) refl

-- the entry of an object before another
lower_by : (l : Layout) (table end q p e : ℕ) → IsEntry l table end (q + 1) e → p ≤ q
    → IsEntry l table end (p + 1) (table + 2 * l.default_words + l.entry_bytes * p)
lower_by l table end q p e h le =
    let more = mul-le-mul_left l.entry_bytes le in
    let c = h.inside in let f = h.few in
    record {
      some = omega arith;
      few = omega arith;
      inside = omega arith;
      stands = ap (λ (n : ℕ). table + 2 * l.default_words + l.entry_bytes * n) (omega arith);
    }

pub lower_entry : (m : MemoryMap) (o p e : ℕ) → entry_of m o ≡ Ok e → 0 < p → p ≤ o
    → (f : ℕ) × (entry_of m p ≡ Ok f) × (f ≤ e)
lower_entry m zero p e h some le = absurd (omega arith)
lower_entry m (suc q) zero e h some le = absurd (omega arith)
lower_entry m (suc q) (suc r) e h some le =
    let l = layout_of m.version in
    let t = default_words_start m in
    let at = lower_by l t (readable_end m) q r e (subst (λ (n : ℕ). IsEntry l t (readable_end m) n e)
    (omega arith) (probe m (suc q) e h)) (omega arith) in
    let stands = (probe m (suc q) e h).stands in
    let below : r ≤ q = omega arith in
    let more = mul-le-mul_left l.entry_bytes below in
    let same : l.entry_bytes * (suc q - 1) ≡ l.entry_bytes * q = ap (λ (n : ℕ). l.entry_bytes * n) (omega arith) in (
      t + 2 * l.default_words + l.entry_bytes * r,
      again m (suc r) _
          (subst (λ (n : ℕ). IsEntry l t (readable_end m) n (t + 2 * l.default_words + l.entry_bytes * r))
          (omega arith) at),
      omega arith,
    )

pub rising : (m : MemoryMap) (o p e f : ℕ) → entry_of m o ≡ Ok e → entry_of m p ≡ Ok f → p < o → f < e
rising m zero p e f h k lt = absurd (omega arith)
rising m (suc q) zero e f h k lt = absurd (let s = (probe m zero f k).some in omega arith)
rising m (suc q) (suc r) e f h k lt =
    let l = layout_of m.version in
    let upper = (probe m (suc q) e h).stands in
    let lower = (probe m (suc r) f k).stands in
    let below : r + 1 ≤ q = omega arith in
    let more = mul-le-mul_left l.entry_bytes below in
    let a : l.entry_bytes * (suc q - 1) ≡ l.entry_bytes * q = ap (λ (n : ℕ). l.entry_bytes * n) (omega arith) in
    let b : l.entry_bytes * (suc r - 1) ≡ l.entry_bytes * r = ap (λ (n : ℕ). l.entry_bytes * n) (omega arith) in
    let size = (sizes m.version).0 in
    omega arith

bound_ok : (r : Result ℕ Fault) (f : ℕ → Result ℕ Fault) (t : ℕ) → (r >>= f) ≡ Ok t → (e : ℕ) × (r ≡ Ok e)
bound_ok (Ok e) f t h = (e, refl)
bound_ok (Err g) f t h = absurd cc

-- a property table is one of an entry
pub table_has_entry : (m : MemoryMap) (o t : ℕ) → table_of m o ≡ Ok t → (e : ℕ) × (entry_of m o ≡ Ok e)
unfolding table_of
table_has_entry m o t h = bound_ok (entry_of m o) _ t h

-- so many objects are counted, and the lowest property table stands there
pub record Counting (m : MemoryMap) (before lowest : ℕ) : Type 0 where
  pub tabled : (header_of m.file).objects ≢ 0
  pub whole : (o : ℕ) → 0 < o → o ≤ before → (e : ℕ) × (entry_of m o ≡ Ok e)
  pub listed : (o e : ℕ) → o ≤ before → entry_of m o ≡ Ok e → IsListed m o e
  pub low : (e : ℕ) → e < lowest → (p t : ℕ) → p ≤ before → table_of m p ≡ Ok t → e < t
  pub lowest_is : (e : ℕ) → e < 65536 → ((p t : ℕ) → p ≤ before → table_of m p ≡ Ok t → e < t) → e < lowest

pub same_ok : (r : Result ℕ Fault) (a b : ℕ) → r ≡ Ok a → r ≡ Ok b → a ≡ b
same_ok r a b h k = cc

lower_table : (r : Result ℕ Fault) (lowest t f : ℕ) → r ≡ Ok t → f < lower_of r lowest → f < t
lower_table (Ok u) lowest t f e lt = let same : u ≡ t = cc in omega arith
lower_table (Err g) lowest t f e lt = absurd cc

lower_first : (r : Result ℕ Fault) (lowest f : ℕ) → f < lower_of r lowest → f < lowest
lower_first (Ok u) lowest f lt = omega arith
lower_first (Err g) lowest f lt = lt

lower_both : (r : Result ℕ Fault) (lowest f : ℕ) → f < lowest → ((t : ℕ) → r ≡ Ok t → f < t) → f < lower_of r lowest
lower_both (Ok u) lowest f lt h = let less = h u refl in omega arith
lower_both (Err g) lowest f lt h = lt

-- an entry lies below 65,536
pub entry_small : (m : MemoryMap) (o e : ℕ) → entry_of m o ≡ Ok e → e < 65536
entry_small m zero e h = absurd (let k = (probe m zero e h).some in omega arith)
entry_small m (suc q) e h =
    let at = probe m (suc q) e h in
    let stands = at.stands in
    let inside = at.inside in
    let size = (sizes m.version).0 in
    let b = (layout_of m.version).entry_bytes in
    let same : b * (suc q - 1) ≡ b * q = ap (λ (n : ℕ). b * n) (omega arith) in
    let more : b * suc q ≡ b * q + b = omega arith in
    omega arith

-- no object has the number 0
pub zero_none : (m : MemoryMap) (o e : ℕ) → o ≤ 0 → entry_of m o ≡ Ok e → ⊥
zero_none m o e le h = let s = (probe m o e h).some in absurd (omega arith)

-- nothing was counted yet
pub count_begins : (m : MemoryMap) → (header_of m.file).objects ≢ 0 → Counting m 0 65536
count_begins m tabled = record {
  tabled = tabled;
  whole = λ o some le. absurd (omega arith);
  listed = λ o e le h. absurd (zero_none m o e le h);
  low = λ e lt p t le h. let at = table_has_entry m p t h in absurd (zero_none m p at.0 le at.1);
  lowest_is = λ e lt h. lt;
}

-- there is no table of objects
pub none_listed : (m : MemoryMap) → (header_of m.file).objects ≡ 0 → (o e : ℕ)
    → IsListed m o e ↔ ((o ≤ 0) × (entry_of m o ≡ Ok e))
none_listed m none o e = (λ h. absurd (h.tabled none), λ h. absurd (zero_none m o e h.0 h.1))

-- one object more
pub one_more : (m : MemoryMap) (before lowest e : ℕ) → Counting m before lowest → entry_of m (before + 1) ≡ Ok e
    → e < lowest → Counting m (before + 1) (lower_of (table_of m (before + 1)) lowest)
one_more m before lowest e c h lt = record {
  tabled = c.tabled;
  whole =
      λ o some le. elim (cases_eq o (before + 1)) [
        | inl s ↦ (e, subst (λ (n : ℕ). entry_of m n ≡ Ok e) (sym s) h)
        | inr n ↦ c.whole o some (omega arith)
      ];
  listed = λ o f le k. elim (cases_eq o (before + 1)) [
    | inl s ↦ record {
      tabled = c.tabled;
      stands = k;
      below = λ p t lo at. c.low f
          (let same = same_ok (entry_of m (before + 1)) e f h (ap (entry_of m) (sym s) ∙ k) in omega arith) p t
          (omega arith) at;
    }
    | inr n ↦ c.listed o f (omega arith) k
  ];
  low = λ f less p t le at. elim (cases_eq p (before + 1)) [
    | inl s ↦ lower_table (table_of m (before + 1)) lowest t f (ap (table_of m) (sym s) ∙ at) less
    | inr n ↦ c.low f (lower_first (table_of m (before + 1)) lowest f less) p t (omega arith) at
  ];
  lowest_is = λ f small above. lower_both (table_of m (before + 1)) lowest f
      (c.lowest_is f small (λ p t le at. above p t (omega arith) at)) (λ t at. above (before + 1) t (omega arith) at);
}

-- the next has no entry
pub count_ends : (m : MemoryMap) (before lowest : ℕ) (f : Fault) → Counting m before lowest
    → entry_of m (before + 1) ≡ Err f → (o e : ℕ) → IsListed m o e ↔ ((o ≤ before) × (entry_of m o ≡ Ok e))
count_ends m before lowest f c none o e = (
  λ h. elim (cases_lt before o) [
    | inl lt ↦ absurd (let at = lower_entry m o (before + 1) e h.stands (omega arith) (omega arith) in
        let b = at.1 in cc)
    | inr le ↦ (le, h.stands)
  ],
  λ h. c.listed o e h.0 h.1,
)

-- the next begins at a property table or after one
pub count_meets : (m : MemoryMap) (before lowest f : ℕ) → Counting m before lowest
    → entry_of m (before + 1) ≡ Ok f → lowest ≤ f → (o e : ℕ) → IsListed m o e ↔ ((o ≤ before) × (entry_of m o ≡ Ok e))
count_meets m before lowest f c at high o e = (
  λ h. elim (cases_lt before o) [
    | inl lt ↦ absurd (
        let low = lower_entry m o (before + 1) e h.stands (omega arith) (omega arith) in
        let same = same_ok (entry_of m (before + 1)) f low.0 at low.1 in
        let le = low.2 in
        let small = entry_small m o e h.stands in
        let less = c.lowest_is e small (λ p t le at. h.below p t (omega arith) at) in
        omega arith
        )
    | inr le ↦ (le, h.stands)
  ],
  λ h. c.listed o e h.0 h.1,
)

-- all are listed
pub count_full : (m : MemoryMap) (lowest : ℕ) → Counting m 65535 lowest → (o e : ℕ)
    → IsListed m o e ↔ ((o ≤ 65535) × (entry_of m o ≡ Ok e))
count_full m lowest c o e = (
  λ h. (let few = (probe m o e h.stands).few in let most = (sizes m.version).1 in omega arith, h.stands),
  λ h. c.listed o e h.0 h.1,
)

-- all that are counted have an entry
pub count_whole : (m : MemoryMap) (before lowest : ℕ) → Counting m before lowest → (o : ℕ) → 0 < o → o ≤ before
    → IsOk (entry_of m o)
count_whole m before lowest c o some le =
    let at = c.whole o some le in subst (λ (r : Result ℕ Fault). IsOk r) (sym at.1) refl
