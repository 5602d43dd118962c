-- Paths along siblings: what a walk of so many links finds.
use Rattle.std.proofs.Common.{◌≡◌, ◌≢◌, ℕ, zero, suc, ◌+◌, ◌≤◌, Bool, true, false, List, [], ◌∷◌, ◌++◌, length, Result}
use Rattle.std.proofs.Common.{Ok, Err, refl, sym, ◌∙◌, arith, eqb, inl, inr, ⊎_elim, ◌⊎◌, ◌||◌}
use Rattle.std.specs.List.{IsDistinct, list_any, AllByRecursion}
use Rattle.std.proofs.lemmas.Map.Keys.{IsDistinct-cons}
use Rattle.std.proofs.lemmas.Map.Steps.{length-le_from_distinct_below}
use Rattle.std.proofs.lemmas.Bool.{eqb-true, eq-eqb, ne_eqb, or_cases, or_parts, cases_Bool}
use Rattle.zk_mem.specs.declared.fault.Fault.{Fault}
use Rattle.zk_mem.specs.declared.fault.Fault.TheVariants.{BadObject, BadTree}
use Rattle.zk_mem.specs.Map.{MemoryMap, readable_end}
use Rattle.zk_tables.specs.declared.layout.Layout.{Layout}
use Rattle.zk_tables.specs.declared.links.LinkPlace.{LinkPlace}
use Rattle.zk_tables.specs.Layout.{early_layout, late_layout, layout_of, default_words_start, is_entry, entry_of}
use Rattle.zk_tables.specs.Layout.{entries, entries_in}
use Rattle.zk_tables.specs.Links.{link_at, sibling_of, child_of, address_of}
use Rattle.zk_tables.specs.Chain.{IsPath, IsChain, Repeats, IsBad, MeetsBad, chain_from, children_of, ChildrenAreChains}
use Rattle.zk_tables.proofs.Steps.{bind_ok, bind_err, chosen, same_value}
use Rattle.zk_tables.proofs.ChainSteps.{zero_test, chain_end}
use Rattle.zk_tables.proofs.Writes.{layouts, HasEntry, entry_there, entry_takes, entry_cases, has_link, link_entry}
use Rattle.zk_tables.proofs.Writes.{link_bad}

-- ---- objects with an entry

entry_counted : (l : Layout) → ((l ≡ early_layout) ⊎ (l ≡ late_layout)) → (table end o : ℕ)
    → HasEntry l table end o → o ≤ entries_in l table end
unfolding entries_in
entry_counted l (inl e) table end o h = let few = rw e at h.few in let room = rw e at h.within in rw e (omega arith)
entry_counted l (inr e) table end o h = let few = rw e at h.few in let room = rw e at h.within in rw e (omega arith)

-- an object with a sibling link is one of those that fit
pub linked_counted : (m : MemoryMap) (o v : ℕ) → o ≢ 0 → link_at m (sibling_of o) ≡ Ok v → o ≤ entries m
unfolding entries
linked_counted m o v ne h =
    let e = link_entry m (sibling_of o) v ne h in
    let t = entry_takes m o e.0 e.1 in
    entry_counted (layout_of m.version) (layouts m.version) (default_words_start m) (readable_end m) o
    (entry_there m o t.0)

linked_entry : (m : MemoryMap) (o v : ℕ) → o ≢ 0 → link_at m (sibling_of o) ≡ Ok v → is_entry m o ≡ true
linked_entry m o v ne h = let e = link_entry m (sibling_of o) v ne h in (entry_takes m o e.0 e.1).0

-- ---- a walk that comes to 0

path_reads : (m : MemoryMap) (n x : ℕ) (xs : List ℕ) → IsPath m x xs 0 → length xs ≤ n → chain_from m n x ≡ Ok xs
unfolding IsPath chain_from
path_reads m n x [] p h = chain_end m n x p
path_reads m zero x (o ∷ os) p h = absurd (omega arith)
path_reads m (suc n) x (o ∷ os) p h =
    let rest = path_reads m n p.2.0 os p.2.2 (omega arith) in
    rw (p.0, zero_test o p.1, p.2.1, rest) refl

reads_path : (m : MemoryMap) (n x : ℕ) (xs : List ℕ) → chain_from m n x ≡ Ok xs → IsPath m x xs 0
unfolding IsPath chain_from
reads_path m zero x xs h = elim (chosen (eqb x 0) _ _ _ h) [
  | inl t ↦ (let none : [] ≡ xs = cc in rw (← none) (eqb-true x 0 t.0))
  | inr t ↦ (let e = bind_ok (entry_of m x) _ xs t.1 in absurd cc)
]
reads_path m (suc n) x xs h = elim (chosen (eqb x 0) _ _ _ h) [
  | inl t ↦ (let none : [] ≡ xs = cc in rw (← none) (eqb-true x 0 t.0))
  | inr t ↦ (let e = bind_ok (link_at m (sibling_of x)) _ xs t.1 in
      let r = bind_ok (chain_from m n e.0) _ xs e.2 in
      let all : x ∷ r.0 ≡ xs = cc in
      let some : x ≢ 0 = λ z. (let yes = eq-eqb x 0 z in absurd cc) in
      rw (← all) (refl, some, (e.0, e.1, reads_path m n e.0 r.0 r.1)))
]

-- ---- a walk that fails

-- more objects follow one another than were allowed for
record LongPath (m : MemoryMap) (x n : ℕ) : Type 0 where
  xs : List ℕ
  end : ℕ
  path : IsPath m x xs end
  long : length xs ≡ n + 1

-- the path comes to a bad object
record BadPath (m : MemoryMap) (x : ℕ) : Type 0 where
  xs : List ℕ
  bad : ℕ
  path : IsPath m x xs bad
  is_bad : IsBad m bad

Fails : MemoryMap → ℕ → ℕ → Fault → Type 0
Fails m x n e = ((e ≡ BadTree) × LongPath m x n) ⊎ ((e ≡ BadObject) × BadPath m x)

here_bad : (m : MemoryMap) (n x : ℕ) (e : Fault) → x ≢ 0 → is_entry m x ≡ false → e ≡ BadObject → Fails m x n e
unfolding IsPath Fails
here_bad m n x e some none is = inr (is, record { xs = []; bad = x; path = refl; is_bad = (some, none) })

one_more : (m : MemoryMap) (n x next : ℕ) (e : Fault) → x ≢ 0 → link_at m (sibling_of x) ≡ Ok next
    → Fails m next n e → Fails m x (suc n) e
unfolding IsPath Fails
one_more m n x next e some h (inl f) =
    let l = f.1 in inl (
      f.0,
      record {
        xs = x ∷ l.xs;
        end = l.end;
        path = (refl, some, (next, h, l.path));
        long = omega (arith, l.long);
      },
    )
one_more m n x next e some h (inr f) =
    let b = f.1 in inr (
      f.0,
      record {
        xs = x ∷ b.xs;
        bad = b.bad;
        path = (refl, some, (next, h, b.path));
        is_bad = b.is_bad;
      },
    )

full : (m : MemoryMap) (x next : ℕ) (e : Fault) → x ≢ 0 → link_at m (sibling_of x) ≡ Ok next → e ≡ BadTree
    → Fails m x 0 e
unfolding IsPath Fails
full m x next e some h is =
    inl (is, record { xs = x ∷ []; end = next; path = (refl, some, (next, h, refl)); long = omega arith })

not_zero : (x : ℕ) → eqb x 0 ≡ false → x ≢ 0
not_zero x h z = let yes = eq-eqb x 0 z in absurd cc

fails : (m : MemoryMap) (n x : ℕ) (e : Fault) → chain_from m n x ≡ Err e → Fails m x n e
unfolding chain_from
fails m zero x e h = elim (chosen (eqb x 0) _ _ _ h) [
  | inl t ↦ absurd cc
  | inr t ↦ elim (entry_cases m x) [
    | inl there ↦ (let f = bind_err (entry_of m x) _ e t.1 in
        let next = has_link m (sibling_of x) there.1.0 there.1.1 in
        let is : e ≡ BadTree = ⊎_elim (λ bad. absurd cc) (λ good. cc) f in
        full m x next.0 e (not_zero x t.0) next.1 is)
    | inr none ↦ (let f = rw none.1 at t.1 in let is : e ≡ BadObject = cc in
        here_bad m zero x e (not_zero x t.0) none.0 is)
  ]
]
fails m (suc n) x e h = elim (chosen (eqb x 0) _ _ _ h) [
  | inl t ↦ absurd cc
  | inr t ↦ elim (bind_err (link_at m (sibling_of x)) _ e t.1) [
    | inl bad ↦ (let b = link_bad m (sibling_of x) e (not_zero x t.0) bad in
        here_bad m (suc n) x e (not_zero x t.0) b.0 b.1)
    | inr next ↦ elim (bind_err (chain_from m n next.0) _ e next.2) [
      | inl rest ↦ one_more m n x next.0 e (not_zero x t.0) next.1 (fails m n next.0 e rest)
      | inr done ↦ absurd cc
    ]
  ]
]

-- ---- a path that comes back

pub record Again (m : MemoryMap) (x : ℕ) : Type 0 where
  pub xs : List ℕ
  pub again : ℕ
  pub path : IsPath m x xs again
  pub among : list_any (eqb again) xs ≡ true

pub record Onward (m : MemoryMap) (x : ℕ) : Type 0 where
  pub some : x ≢ 0
  pub next : ℕ
  pub link : link_at m (sibling_of x) ≡ Ok next
  pub again : Again m next

path_push : (m : MemoryMap) (x : ℕ) (xs : List ℕ) (y z : ℕ) → IsPath m x xs y → y ≢ 0
    → link_at m (sibling_of y) ≡ Ok z → IsPath m x (xs ++ y ∷ []) z
unfolding IsPath
path_push m x [] y z e ne h = (e, ne, (z, h, refl))
path_push m x (o ∷ os) y z p ne h = (p.0, p.1, (p.2.0, p.2.1, path_push m p.2.0 os y z p.2.2 ne h))

among_first : (m : MemoryMap) (x y o : ℕ) (os : List ℕ) → IsPath m x os y → y ≡ o
    → list_any (eqb x) (os ++ o ∷ []) ≡ true
unfolding IsPath
among_first m x y o [] p e = let same : x ≡ o = p ∙ e in rw (eq-eqb x o same) refl
among_first m x y o (q ∷ os) p e = rw (eq-eqb x q p.0) refl

-- round the loop from the next object
turned : (m : MemoryMap) (o next again : ℕ) (os : List ℕ) → o ≢ 0 → link_at m (sibling_of o) ≡ Ok next
    → IsPath m next os again → again ≡ o → Again m next
turned m o next again os some h p e =
    let back : IsPath m next os o = rw e at p in
    record {
      xs = os ++ o ∷ [];
      again = next;
      path = path_push m next os o next back some h;
      among = among_first m next again o os p e;
    }

loop_step : (m : MemoryMap) (x : ℕ) (xs : List ℕ) (again : ℕ) → IsPath m x xs again
    → list_any (eqb again) xs ≡ true → Onward m x
unfolding IsPath
loop_step m x [] again p h = absurd cc
loop_step m x (o ∷ os) again p h =
    let link : link_at m (sibling_of x) ≡ Ok p.2.0 = rw p.0 p.2.1 in
    let some : x ≢ 0 = rw p.0 p.1 in
    record {
      some = some;
      next = p.2.0;
      link = link;
      again = ⊎_elim
          (λ e. turned m o p.2.0 again os p.1 p.2.1 p.2.2 (eqb-true again o e))
          (λ more. record { xs = os; again = again; path = p.2.2; among = more })
          (or_cases (eqb again o) (list_any (eqb again) os) h);
    }

pub onward : (m : MemoryMap) (x : ℕ) → Again m x → Onward m x
onward m x a = loop_step m x a.xs a.again a.path a.among

-- a walk round a loop ends at its bound
loop_reads : (m : MemoryMap) (n x : ℕ) → Again m x → chain_from m n x ≡ Err BadTree
unfolding chain_from
loop_reads m zero x a =
    let s = onward m x a in
    let e = link_entry m (sibling_of x) s.next s.some s.link in
    rw (zero_test x s.some, e.1) refl
loop_reads m (suc n) x a =
    let s = onward m x a in
    rw (zero_test x s.some, s.link, loop_reads m n s.next s.again) refl

-- a path from an object on a loop stays on it
loop_along : (m : MemoryMap) (x : ℕ) (xs : List ℕ) (y : ℕ) → Again m x → IsPath m x xs y → Again m y
unfolding IsPath
loop_along m x [] y a p = rw p at a
loop_along m x (o ∷ os) y a p =
    let s = onward m x a in
    let link : link_at m (sibling_of x) ≡ Ok p.2.0 = rw p.0 p.2.1 in
    let next : s.next ≡ p.2.0 = same_value s.next p.2.0 (sym s.link ∙ link) in
    loop_along m p.2.0 os y (rw next at s.again) p.2.2

loop_good : (m : MemoryMap) (x : ℕ) → Again m x → IsBad m x → ⊥
loop_good m x a b = let s = onward m x a in let e = linked_entry m x s.next s.some s.link in let none = b.1 in cc

-- ---- none twice, or a loop

record Front (m : MemoryMap) (x q : ℕ) : Type 0 where
  zs : List ℕ
  path : IsPath m x zs q

front_of : (m : MemoryMap) (x : ℕ) (xs : List ℕ) (y q : ℕ) → IsPath m x xs y → list_any (eqb q) xs ≡ true → Front m x q
unfolding IsPath
front_of m x [] y q p h = absurd cc
front_of m x (o ∷ os) y q p h =
    ⊎_elim (λ e. record { zs = []; path = p.0 ∙ sym (eqb-true q o e) })
    (λ more. let f : Front m p.2.0 q = front_of m p.2.0 os y q p.2.2 more in
    record { zs = o ∷ f.zs; path = (p.0, p.1, (p.2.0, p.2.1, f.path)) })
    (or_cases (eqb q o) (list_any (eqb q) os) h)

pub apart_each : (o : ℕ) (os : List ℕ) → list_any (eqb o) os ≡ false → AllByRecursion (λ y. eqb o y ≡ false) os
apart_each o [] h = tt
apart_each o (y ∷ ys) h = let p = or_parts (eqb o y) (list_any (eqb o) ys) h in (p.0, apart_each o ys p.1)

or_later : (a b : Bool) → b ≡ true → (a || b) ≡ true
or_later true b h = refl
or_later false b h = h

again_before : (m : MemoryMap) (x o next : ℕ) → x ≡ o → o ≢ 0 → link_at m (sibling_of o) ≡ Ok next
    → Again m next → Again m x
unfolding IsPath
again_before m x o next e some h a = record {
  xs = o ∷ a.xs;
  again = a.again;
  path = (e, some, (next, h, a.path));
  among = or_later (eqb a.again o) (list_any (eqb a.again) a.xs) a.among;
}

seen : (m : MemoryMap) (x : ℕ) (xs : List ℕ) (y : ℕ) → IsPath m x xs y → IsDistinct eqb xs ⊎ Again m x
unfolding IsPath IsDistinct
seen m x [] y p = inl tt
seen m x (o ∷ os) y p =
    ⊎_elim
    (λ d. ⊎_elim
    (λ twice. let f = front_of m p.2.0 os y o p.2.2 twice in
    inr (record {
      xs = o ∷ f.zs;
      again = o;
      path = (p.0, p.1, (p.2.0, p.2.1, f.path));
      among = rw (eq-eqb o o refl) refl;
    }))
    (λ once. inl (IsDistinct-cons eqb o os (apart_each o os once) d))
    (cases_Bool (list_any (eqb o) os)))
    (λ a. inr (again_before m x o p.2.0 p.0 p.1 p.2.1 a))
    (seen m p.2.0 os y p.2.2)

-- each object on a path is one of those that fit
path_counted : (m : MemoryMap) (x : ℕ) (xs : List ℕ) (y q : ℕ) → IsPath m x xs y → list_any (eqb q) xs ≡ true
    → q ≤ entries m
unfolding IsPath
path_counted m x [] y q p h = absurd cc
path_counted m x (o ∷ os) y q p h =
    ⊎_elim (λ e. let same : q ≡ o = eqb-true q o e in rw same (linked_counted m o p.2.0 p.1 p.2.1))
    (λ more. path_counted m p.2.0 os y q p.2.2 more)
    (or_cases (eqb q o) (list_any (eqb q) os) h)

no_zero : (m : MemoryMap) (x : ℕ) (xs : List ℕ) (y : ℕ) → IsPath m x xs y → AllByRecursion (λ z. eqb 0 z ≡ false) xs
unfolding IsPath
no_zero m x [] y p = tt
no_zero m x (o ∷ os) y p = (ne_eqb 0 o (λ e. p.1 (sym e)), no_zero m p.2.0 os y p.2.2)

-- objects on a path, none twice, are no more than fit: with 0 in front they are numbers up to that
few : (m : MemoryMap) (x : ℕ) (xs : List ℕ) (y : ℕ) → IsPath m x xs y → IsDistinct eqb xs → length xs ≤ entries m
few m x xs y p apart =
    let with_zero : IsDistinct eqb (0 ∷ xs) = IsDistinct-cons eqb 0 xs (no_zero m x xs y p) apart in
    let bound : length (0 ∷ xs) ≤ entries m + 1 = length-le_from_distinct_below (0 ∷ xs) (entries m + 1)
    with_zero (λ q h.
    ⊎_elim (λ e. let same : q ≡ 0 = eqb-true q 0 e in omega arith)
    (λ more. let le : q ≤ entries m = path_counted m x xs y q p more in omega arith)
    (or_cases (eqb q 0) (list_any (eqb q) xs) h)) in
    omega (arith, bound)

-- ---- a walk that comes to a bad object

bad_entry : (m : MemoryMap) (o : ℕ) → IsBad m o → entry_of m o ≡ Err BadObject
unfolding entry_of
bad_entry m o b = rw b.1 refl

bad_link : (m : MemoryMap) (place : LinkPlace) → IsBad m place.object → link_at m place ≡ Err BadObject
unfolding link_at address_of
bad_link m place b = rw (zero_test place.object b.0, bad_entry m place.object b) refl

bad_reads : (m : MemoryMap) (n x : ℕ) (xs : List ℕ) (bad : ℕ) → IsPath m x xs bad → IsBad m bad → length xs ≤ n
    → chain_from m n x ≡ Err BadObject
unfolding IsPath chain_from
bad_reads m zero x [] bad p b h = rw p (rw (zero_test bad b.0, bad_entry m bad b) refl)
bad_reads m (suc n) x [] bad p b h = rw p (rw (zero_test bad b.0, bad_link m (sibling_of bad) b) refl)
bad_reads m zero x (o ∷ os) bad p b h = absurd (omega arith)
bad_reads m (suc n) x (o ∷ os) bad p b h =
    let rest = bad_reads m n p.2.0 os bad p.2.2 b (omega arith) in
    rw (p.0, zero_test o p.1, p.2.1, rest) refl

-- ---- the children of an object

no_child : (m : MemoryMap) → link_at m (child_of 0) ≡ Ok 0
unfolding link_at
no_child m = refl

-- object 0 has no bad link
real : (m : MemoryMap) (o : ℕ) (e : Fault) → link_at m (child_of o) ≡ Err e → o ≢ 0
real m o e h z = let none : link_at m (child_of o) ≡ Ok 0 = rw z (no_child m) in cc

chain_found : (m : MemoryMap) (o : ℕ) (xs : List ℕ) → children_of m o ≡ Ok xs → IsChain m o xs
unfolding children_of
chain_found m o xs h =
    let e = bind_ok (link_at m (child_of o)) (chain_from m (entries m)) xs h in
    let path = reads_path m (entries m) e.0 xs e.2 in
    let apart : IsDistinct eqb xs = ⊎_elim (λ d. d) (λ a. let loop = loop_reads m (entries m) e.0 a in absurd cc)
    (seen m e.0 xs 0 path) in
    record { whole = record { first = e.0; child = e.1; path = path }; apart = apart }

chain_only : (m : MemoryMap) (o : ℕ) (xs : List ℕ) → IsChain m o xs → children_of m o ≡ Ok xs
unfolding children_of
chain_only m o xs c =
    let w = c.whole in
    rw w.child (path_reads m (entries m) w.first xs w.path (few m w.first xs 0 w.path c.apart))

repeats_found : (m : MemoryMap) (o : ℕ) → children_of m o ≡ Err BadTree → Repeats m o
unfolding children_of Fails
repeats_found m o h = elim (bind_err (link_at m (child_of o)) (chain_from m (entries m)) BadTree h) [
  | inl bad ↦ (let b = link_bad m (child_of o) BadTree (real m o BadTree bad) bad in let no = b.1 in absurd cc)
  | inr e ↦ elim (fails m (entries m) e.0 BadTree e.2) [
    | inl f ↦ (let l = f.1 in
        let a : Again m e.0 = ⊎_elim (λ d. absurd (omega (arith, few m e.0 l.xs l.end l.path d, l.long)))
        (λ a. a) (seen m e.0 l.xs l.end l.path) in
        record {
          xs = a.xs;
          again = a.again;
          path = record { first = e.0; child = e.1; path = a.path };
          among = a.among;
        })
    | inr f ↦ (let no = f.0 in absurd cc)
  ]
]

repeats_only : (m : MemoryMap) (o : ℕ) → Repeats m o → children_of m o ≡ Err BadTree
unfolding children_of
repeats_only m o r =
    let w = r.path in
    rw w.child (loop_reads m (entries m) w.first
    (record { xs = r.xs; again = r.again; path = w.path; among = r.among }))

bad_found : (m : MemoryMap) (o : ℕ) → children_of m o ≡ Err BadObject → MeetsBad m o
unfolding children_of Fails
bad_found m o h = elim (bind_err (link_at m (child_of o)) (chain_from m (entries m)) BadObject h) [
  | inl bad ↦ (let b = link_bad m (child_of o) BadObject (real m o BadObject bad) bad in
      inl (real m o BadObject bad, b.0))
  | inr e ↦ elim (fails m (entries m) e.0 BadObject e.2) [
    | inl f ↦ (let no = f.0 in absurd cc)
    | inr f ↦ (let b = f.1 in inr (b.xs, b.bad, record { first = e.0; child = e.1; path = b.path }, b.is_bad))
  ]
]

bad_only : (m : MemoryMap) (o : ℕ) → MeetsBad m o → children_of m o ≡ Err BadObject
unfolding children_of
bad_only m o (inl b) = rw (bad_link m (child_of o) b) refl
bad_only m o (inr (xs, bad, w, b)) =
    ⊎_elim
    (λ d. rw w.child (bad_reads m (entries m) w.first xs bad w.path b (few m w.first xs bad w.path d)))
    (λ a. absurd (loop_good m bad (loop_along m w.first xs bad a w.path) b))
    (seen m w.first xs bad w.path)

fault_known : (m : MemoryMap) (o : ℕ) (e : Fault) → children_of m o ≡ Err e → Repeats m o ⊎ MeetsBad m o
unfolding children_of Fails
fault_known m o e h = elim (bind_err (link_at m (child_of o)) (chain_from m (entries m)) e h) [
  | inl bad ↦ (let b = link_bad m (child_of o) e (real m o e bad) bad in inr (inl (real m o e bad, b.0)))
  | inr f ↦ elim (fails m (entries m) f.0 e f.2) [
    | inl t ↦ inl (repeats_found m o (rw t.0 at h))
    | inr t ↦ inr (bad_found m o (rw t.0 at h))
  ]
]

one_of : (m : MemoryMap) (o : ℕ) (r : Result (List ℕ) Fault) → children_of m o ≡ r
    → ((xs : List ℕ) × IsChain m o xs) ⊎ (Repeats m o ⊎ MeetsBad m o)
one_of m o (Ok xs) h = inl (xs, chain_found m o xs h)
one_of m o (Err e) h = inr (fault_known m o e h)

pub children_are_chains : ChildrenAreChains
children_are_chains m o = record {
  chain = λ xs. (chain_found m o xs, chain_only m o xs);
  repeats = (repeats_found m o, repeats_only m o);
  meets_bad = (bad_found m o, bad_only m o);
  bounded = λ xs c. few m c.whole.first xs 0 c.whole.path c.apart;
  one = one_of m o (children_of m o) refl;
  no_repeat = λ xs c r. (let a = chain_only m o xs c in let b = repeats_only m o r in cc);
  no_bad = λ xs c b. (let a = chain_only m o xs c in let d = bad_only m o b in cc);
  not_both = λ r b. (let a = repeats_only m o r in let d = bad_only m o b in cc);
}
