-- Where siblings lead that go on and on.
use Rattle.std.proofs.Common.{◌≡◌, ◌≢◌, ◌∙◌, ℕ, zero, suc, ◌+◌, ◌-◌, ◌^◌, ◌<◌, ◌≤◌, ◌⊎◌, inl, inr, Bool, true, false}
use Rattle.std.proofs.Common.{List, [], ◌∷◌, ◌++◌, length, length-append, get_or, map, Result, Ok, Err, refl, sym, ap}
use Rattle.std.proofs.Common.{subst, arith, eqb}
use Rattle.std.specs.Prelude.{not}
use Rattle.std.proofs.lemmas.Bool.{cases_lt, cases_eq, ne_eqb, eq-eqb}
use Rattle.std.proofs.lemmas.List.{get_or-map, get_or_append_left, get_or_past, length-map}
use Rattle.std.proofs.Math.Nat.{pow-suc}
use Rattle.std.proofs.Math.Seq.{get_or-append_seam}
use Rattle.zk_mem.specs.declared.fault.Fault.{Fault}
use Rattle.zk_mem.specs.declared.fault.Fault.TheVariants.{BadTree}
use Rattle.zk_mem.specs.Results.{◌>>=◌}
use Rattle.zk_mem.specs.Map.{MemoryMap}
use Rattle.zk_tables.specs.declared.layout.Layout.{Layout}
use Rattle.zk_tables.specs.Chain.{Repeats, chain_from, children_of}
use Rattle.zk_tables.specs.Layout.{early_layout, late_layout, entries, entries_in, entry_of, layout_of}
use Rattle.zk_tables.specs.Links.{link_at, sibling_of, child_of}
use Rattle.zk_tables.proofs.ChainLaw.{Again, children_are_chains, linked_counted, onward}
use Rattle.zk_tables.proofs.Writes.{layouts, link_bad, link_entry}
use Rattle.zk_inspect.specs.ObjectTests.{is_bad_tree}
use Rattle.zk_inspect.proofs.Answered.{bad_tree}
use Rattle.zk_inspect.specs.Siblings.{HasSiblings, IsAhead, named_or_zero, next_sibling, sibling_after}

-- object 0 has no sibling
pub next_zero : (m : MemoryMap) → next_sibling m 0 ≡ 0
unfolding next_sibling link_at
next_zero m = refl

pub after_zero : (m : MemoryMap) (n : ℕ) → sibling_after m n 0 ≡ 0
unfolding sibling_after
after_zero m zero = refl
after_zero m (suc n) = rw (next_zero m) (after_zero m n)

pub next_is : (m : MemoryMap) (o next : ℕ) → link_at m (sibling_of o) ≡ Ok next → next_sibling m o ≡ next
unfolding next_sibling
next_is m o next h = ap named_or_zero h

pub next_none : (m : MemoryMap) (o : ℕ) (f : Fault) → link_at m (sibling_of o) ≡ Err f → next_sibling m o ≡ 0
unfolding next_sibling
next_none m o f h = ap named_or_zero h

-- so many siblings on, and more
after_more : (m : MemoryMap) (a b o : ℕ) → sibling_after m (a + b) o ≡ sibling_after m b (sibling_after m a o)
unfolding sibling_after
after_more m zero b o = let e : zero + b ≡ b = omega arith in rw e refl
after_more m (suc a) b o =
    let e : suc a + b ≡ suc (a + b) = omega arith in
    rw e (after_more m a b (next_sibling m o))

-- what has come to an end stays there
after_end : (m : MemoryMap) (a b o : ℕ) → sibling_after m a o ≡ 0 → a ≤ b → sibling_after m b o ≡ 0
after_end m a b o h le =
    let e : a + (b - a) ≡ b = omega arith in
    subst (λ (n : ℕ). sibling_after m n o ≡ 0) e (after_more m a (b - a) o ∙ ap (sibling_after m (b - a)) h
    ∙ after_zero m (b - a))

not_bad : (r : Result (List ℕ) Fault) (x : ℕ) → is_bad_tree (r >>= λ xs. Ok (x ∷ xs)) ≡ false → is_bad_tree r ≡ false
not_bad (Ok xs) x h = refl
not_bad (Err f) x h = h

-- an object without an entry has no sibling
next_by : (m : MemoryMap) (x : ℕ) (f : Fault) (r : Result ℕ Fault) → x ≢ 0 → link_at m (sibling_of x) ≡ r
    → entry_of m x ≡ Err f → next_sibling m x ≡ 0
next_by m x f (Ok next) some l e = absurd (let has = (link_entry m (sibling_of x) next some l).1 in cc)
next_by m x f (Err g) some l e = next_none m x g l

-- the last object of a chain that does not repeat one
last_by : (m : MemoryMap) (x : ℕ) (r : Result ℕ Fault) → x ≢ 0 → entry_of m x ≡ r
    → is_bad_tree {A = List ℕ} (r >>= λ a. Err BadTree) ≡ false → next_sibling m x ≡ 0
last_by m x (Ok a) some e h = absurd cc
last_by m x (Err f) some e h = next_by m x f (link_at m (sibling_of x)) some refl e

-- from an object whose sibling is known
on_by : (m : MemoryMap) (n x : ℕ) (r : Result ℕ Fault) → link_at m (sibling_of x) ≡ r
    → ((next : ℕ) → is_bad_tree (chain_from m n next) ≡ false → sibling_after m (suc n) next ≡ 0)
    → is_bad_tree (r >>= λ next. chain_from m n next >>= λ xs. Ok (x ∷ xs)) ≡ false
    → sibling_after m (suc n) (next_sibling m x) ≡ 0
on_by m n x (Ok next) l rest h = rw (next_is m x next l) (rest next (not_bad (chain_from m n next) x h))
on_by m n x (Err f) l rest h = rw (next_none m x f l) (after_zero m (suc n))

-- a chain that does not repeat an object comes to its end
ends : (m : MemoryMap) (n x : ℕ) → is_bad_tree (chain_from m n x) ≡ false → sibling_after m (suc n) x ≡ 0
unfolding chain_from sibling_after
ends m zero x h = elim (cases_eq x 0) [
  | inl e ↦ rw e (next_zero m)
  | inr ne ↦ last_by m x (entry_of m x) ne refl (rw (ne_eqb x 0 ne) at h)
]
ends m (suc n) x h = elim (cases_eq x 0) [
  | inl e ↦ rw (e, next_zero m) (after_zero m (suc n))
  | inr ne ↦ on_by m n x (link_at m (sibling_of x)) refl (ends m n) (rw (ne_eqb x 0 ne) at h)
]

-- one that does goes on and on
goes_on : (m : MemoryMap) (n x : ℕ) → Again m x → sibling_after m n x ≢ 0
unfolding sibling_after
goes_on m zero x a = (onward m x a).some
goes_on m (suc n) x a =
    let s = onward m x a in
    let e = next_is m x s.next s.link in
    λ z. goes_on m n s.next s.again (sym (ap (sibling_after m n) e) ∙ z)

few_in : (l : Layout) (table end : ℕ) → (l ≡ early_layout) ⊎ (l ≡ late_layout) → entries_in l table end ≤ 65535
unfolding entries_in
few_in l table end (inl e) = rw e (omega arith)
few_in l table end (inr e) = rw e (omega arith)

few : (m : MemoryMap) → entries m ≤ 65535
unfolding entries
few m = few_in (layout_of m.version) _ _ (layouts m.version)

repeats_again : (m : MemoryMap) (o first : ℕ) → link_at m (child_of o) ≡ Ok first → Repeats m o → Again m first
repeats_again m o first l r =
    let same : r.path.first ≡ first = (let e : Ok r.path.first ≡ Ok first = sym r.path.child ∙ l in cc) in
    record { xs = r.xs; again = r.again; path = rw same at r.path.path; among = r.among }

children_by : (m : MemoryMap) (o first : ℕ) → link_at m (child_of o) ≡ Ok first
    → children_of m o ≡ chain_from m (entries m) first
unfolding children_of
children_by m o first l = rw l refl

children_none : (m : MemoryMap) (o : ℕ) (f : Fault) → link_at m (child_of o) ≡ Err f → children_of m o ≡ Err f
unfolding children_of
children_none m o f l = rw l refl

-- a chain repeats an object where it has not come to its end after so many
repeats_by : (m : MemoryMap) (o first far : ℕ) (b : Bool) → link_at m (child_of o) ≡ Ok first
    → far ≡ sibling_after m 65536 first → is_bad_tree (children_of m o) ≡ b → (far ≢ 0 → b ≡ true)
    × (far ≡ 0 → b ≡ false)
repeats_by m o first far true l e h =
    let r = (children_are_chains m o).repeats.0 (bad_tree (children_of m o) h) in
    (λ ne. refl, λ z. absurd (goes_on m 65536 first (repeats_again m o first l r) (sym e ∙ z)))
repeats_by m o first far false l e h =
    let done = ends m (entries m) first (sym (ap is_bad_tree (children_by m o first l)) ∙ h) in
    let le : suc (entries m) ≤ 65536 = (let k = few m in omega arith) in
    (λ ne. absurd (ne (e ∙ after_end m (suc (entries m)) 65536 first done le)), λ z. refl)

repeats_far : (m : MemoryMap) (o first far : ℕ) → link_at m (child_of o) ≡ Ok first
    → far ≡ sibling_after m 65536 first → far ≢ 0 → is_bad_tree (children_of m o) ≡ true
repeats_far m o first far l e ne = (repeats_by m o first far (is_bad_tree (children_of m o)) l e refl).0 ne

ends_far : (m : MemoryMap) (o first far : ℕ) → link_at m (child_of o) ≡ Ok first
    → far ≡ sibling_after m 65536 first → far ≡ 0 → is_bad_tree (children_of m o) ≡ false
ends_far m o first far l e z = (repeats_by m o first far (is_bad_tree (children_of m o)) l e refl).1 z

-- an object without an entry has no chain
pub no_child : (m : MemoryMap) (o : ℕ) (f : Fault) → link_at m (child_of o) ≡ Err f
    → is_bad_tree (children_of m o) ≡ false
unfolding link_at
no_child m o f l = elim (cases_eq o 0) [
  | inl e ↦ absurd (let none = rw e at l in cc)
  | inr ne ↦ (let bad = (link_bad m (child_of o) f ne l).1 in ap is_bad_tree (children_none m o f l)
      ∙ ap (λ (g : Fault). is_bad_tree {A = List ℕ} (Err g)) bad)
]

-- ---- lists of siblings

pub siblings_begin : (m : MemoryMap) → HasSiblings m 0 (0 ∷ [])
siblings_begin m = record { size = refl; each = λ o le. (let e : o ≡ 0 = omega arith in rw e (sym (next_zero m))) }

pub siblings_more : (m : MemoryMap) (last : ℕ) (xs : List ℕ) → HasSiblings m last xs
    → HasSiblings m (last + 1) (xs ++ next_sibling m (last + 1) ∷ [])
siblings_more m last xs h = record {
  size = (let e = length-append xs (next_sibling m (last + 1) ∷ []) in let s = h.size in omega arith);
  each = λ o le. elim (cases_eq o (last + 1)) [
    | inl e ↦ (let s : length xs ≡ last + 1 = h.size in
        rw (e, ← s) (get_or-append_seam xs (next_sibling m (length xs)) [] 0))
    | inr ne ↦ (let s = h.size in get_or_append_left xs (next_sibling m (last + 1) ∷ []) 0 o (omega arith)
        ∙ h.each o (omega arith))
  ];
}

past_by : (m : MemoryMap) (o : ℕ) (r : Result ℕ Fault) → link_at m (sibling_of o) ≡ r → entries m < o
    → next_sibling m o ≡ 0
past_by m o (Ok next) l lt = absurd (let le = linked_counted m o next (λ e. omega arith) l in omega arith)
past_by m o (Err f) l lt = next_none m o f l

-- no others have an entry
pub siblings_end : (m : MemoryMap) (last : ℕ) (xs : List ℕ) → last ≡ entries m → HasSiblings m last xs → IsAhead m 1 xs
unfolding sibling_after
siblings_end m last xs is h = record {
  each = λ o. elim (cases_lt last o) [
    | inl lt ↦ (let s = h.size in get_or_past xs o 0 (omega arith)
        ∙ sym (past_by m o (link_at m (sibling_of o)) refl (omega arith)))
    | inr le ↦ h.each o le
  ];
}

-- twice as far
pub ahead_twice : (m : MemoryMap) (n : ℕ) (xs : List ℕ) → IsAhead m n xs
    → IsAhead m (n + n) (map (λ o. get_or xs o 0) xs)
ahead_twice m n xs h = record {
  each = λ o. elim (cases_lt o (length xs)) [
    | inl lt ↦ get_or-map (λ (x : ℕ). get_or xs x 0) xs o 0 0 lt ∙ h.each (get_or xs o 0)
        ∙ ap (sibling_after m n) (h.each o) ∙ sym (after_more m n n o)
    | inr ge ↦
        get_or_past (map (λ (x : ℕ). get_or xs x 0) xs) o 0 (let l = length-map xs (λ (x : ℕ). get_or xs x 0) in
        omega arith)
        ∙ sym (after_end m n (n + n) o (sym (h.each o) ∙ get_or_past xs o 0 ge) (omega arith))
  ];
}

pub ahead_power : (m : MemoryMap) (n : ℕ) (xs ys : List ℕ) → IsAhead m (2 ^ n) xs
    → ys ≡ map (λ o. get_or xs o 0) xs → IsAhead m (2 ^ (n + 1)) ys
ahead_power m n xs ys h is =
    let e : n + 1 ≡ suc n = omega arith in
    let twice : 2 ^ n + 2 ^ n ≡ 2 ^ (n + 1) = rw e (let p = pow-suc 2 n in omega arith) in
    subst (λ (zs : List ℕ). IsAhead m (2 ^ (n + 1)) zs) (sym is)
    (subst (λ (k : ℕ). IsAhead m k (map (λ o. get_or xs o 0) xs)) twice (ahead_twice m (2 ^ n) xs h))

-- what is known of an object's first child decides
pub far_decides : (m : MemoryMap) (o first far : ℕ) → link_at m (child_of o) ≡ Ok first
    → far ≡ sibling_after m 65536 first → not (eqb far 0) ≡ is_bad_tree (children_of m o)
far_decides m o first far l e = elim (cases_eq far 0) [
  | inl z ↦ rw (eq-eqb far 0 z) (sym (ends_far m o first far l e z))
  | inr ne ↦ rw (ne_eqb far 0 ne) (sym (repeats_far m o first far l e ne))
]
