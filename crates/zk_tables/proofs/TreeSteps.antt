-- What a removal and an insertion come to.
use Rattle.std.proofs.Common.{◌≡◌, ◌≢◌, ◌≤◌, ℕ, Bool, true, false, [], ◌∷◌, Option, Some, None, Result, Ok, Err, refl}
use Rattle.std.proofs.Common.{◌∙◌, eqb, inl, inr, ◌||◌, nat_lt, arith}
use Rattle.std.specs.Prelude.{IsOk, MatchResult}
use Rattle.std.proofs.lemmas.Bool.{ne_eqb, eq-eqb, eqb-true, cases_Bool}
use Rattle.zk_mem.specs.declared.fault.Fault.{Fault}
use Rattle.zk_mem.specs.Results.{◌>>=◌}
use Rattle.zk_mem.specs.Map.{MemoryMap}
use Rattle.zk_tables.specs.declared.links.LinkPlace.{LinkPlace}
use Rattle.zk_tables.specs.Layout.{layout_of, entry_of, entries_in, entries}
use Rattle.zk_tables.specs.Links.{parent_of, sibling_of, child_of, link_at, link_put, write_tests}
use Rattle.zk_tables.specs.Tree.{naming_of, unlinked, unlinked_where, removed, linked, inserted}
use Rattle.zk_tables.proofs.Steps.{bind_ok, value_of, is_ok_of, not_err}
use Rattle.zk_tables.proofs.Writes.{IsSameShape, same_shape, shape_join, has_link, link_entry, put_all, all_written}
use Rattle.zk_tables.proofs.Writes.{all_refused, entry_same, put_shape}

-- there are no more entries than objects have numbers
pub entries_bounded : (m : MemoryMap) → entries m ≤ 65535
unfolding entries entries_in layout_of
entries_bounded m = elim (cases_Bool (nat_lt m.version 4)) [ inl t ↦ rw t (omega arith) | inr t ↦ rw t (omega arith) ]

pub no_removal : (m : MemoryMap) (o : ℕ) → naming_of m o ≡ Ok None → removed m o ≡ Ok m
unfolding removed unlinked_where
no_removal m o h = rw h refl

pub bad_removal : (m : MemoryMap) (o : ℕ) (d : Fault) → naming_of m o ≡ Err d → removed m o ≡ Err d
unfolding removed
bad_removal m o d h = rw h refl

removal_of : (m : MemoryMap) (o : ℕ) (place : LinkPlace) → naming_of m o ≡ Ok (Some place)
    → removed m o ≡ unlinked m place o
unfolding removed unlinked_where
removal_of m o place h = rw h refl

no_parent : (m : MemoryMap) → link_at m (parent_of 0) ≡ Ok 0
unfolding link_at
no_parent m = refl

-- an object that a link names has an entry
named_entry : (m : MemoryMap) (o : ℕ) (place : LinkPlace) → naming_of m o ≡ Ok (Some place)
    → (a : ℕ) × (entry_of m o ≡ Ok a)
unfolding naming_of
named_entry m o place h =
    let e = bind_ok (link_at m (parent_of o)) _ (Some place) h in
    elim (cases_Bool (eqb o 0)) [
      | inl z ↦ (let zero : o ≡ 0 = eqb-true o 0 z in
          let none : link_at m (parent_of o) ≡ Ok 0 = rw zero (no_parent m) in
          let lone = rw none at h in absurd cc)
      | inr z ↦ link_entry m (parent_of o) e.0 (λ zero. let t = eq-eqb o 0 zero in absurd cc) e.1
    ]

named_sibling : (m : MemoryMap) (o : ℕ) (place : LinkPlace) → naming_of m o ≡ Ok (Some place)
    → (v : ℕ) × (link_at m (sibling_of o) ≡ Ok v)
named_sibling m o place h = let e = named_entry m o place h in has_link m (sibling_of o) e.0 e.1

-- ---- the three links that a removal writes

removal_writes : (m : MemoryMap) (o : ℕ) (place : LinkPlace) → naming_of m o ≡ Ok (Some place)
    → (next : ℕ) × (removed m o ≡ put_all m (place, next) ((parent_of o, 0) ∷ (sibling_of o, 0) ∷ []))
unfolding unlinked
removal_writes m o place h = let next = named_sibling m o place h in (next.0, rw (removal_of m o place h, next.1) refl)

pub removal_refused : (m : MemoryMap) (o : ℕ) (place : LinkPlace) (d : Fault) → naming_of m o ≡ Ok (Some place)
    → write_tests m place (parent_of o ∷ sibling_of o ∷ []) ≡ Err d → removed m o ≡ Err d
removal_refused m o place d h w =
    let r = removal_writes m o place h in
    r.1 ∙ all_refused m m (place, r.0) ((parent_of o, 0) ∷ (sibling_of o, 0) ∷ []) d (same_shape m) w

pub removal_done : (m : MemoryMap) (o : ℕ) (place : LinkPlace) → naming_of m o ≡ Ok (Some place)
    → write_tests m place (parent_of o ∷ sibling_of o ∷ []) ≡ Ok tt → IsOk (removed m o)
removal_done m o place h w =
    let r = removal_writes m o place h in
    let n = all_written m m (place, r.0) ((parent_of o, 0) ∷ (sibling_of o, 0) ∷ []) (same_shape m) w in
    is_ok_of (removed m o) n.0 (r.1 ∙ n.1)

unlinked_shape : (m n : MemoryMap) (o : ℕ) (place : LinkPlace) → unlinked m place o ≡ Ok n → IsSameShape m n
unfolding unlinked
unlinked_shape m n o place h =
    let next = bind_ok (link_at m (sibling_of o)) _ n h in
    let one = bind_ok (link_put m place next.0) _ n next.2 in
    let two = bind_ok (link_put one.0 (parent_of o) 0) _ n one.2 in
    let first = put_shape m one.0 place next.0 one.1 in
    let second = put_shape one.0 two.0 (parent_of o) 0 two.1 in
    let third = put_shape two.0 n (sibling_of o) 0 two.2 in
    shape_join m one.0 n first (shape_join one.0 two.0 n second third)

where_shape : (m n : MemoryMap) (o : ℕ) (place : Option LinkPlace) → unlinked_where m o place ≡ Ok n → IsSameShape m n
unfolding unlinked_where
where_shape m n o None h = let same : m ≡ n = cc in rw (← same) (same_shape m)
where_shape m n o (Some place) h = unlinked_shape m n o place h

-- ---- the whole removal

pub remove_ends : (m n : MemoryMap) (o : ℕ) (place : Option LinkPlace) (r : Result (Unit {0}) Fault)
    → naming_of m o ≡ Ok place → IsOk (removed m o)
    → MatchResult r (λ _. unlinked_where m o place ≡ Ok n) (λ e. unlinked_where m o place ≡ Err e)
    → MatchResult r (λ _. removed m o ≡ Ok n) (λ e. (removed m o ≡ Err e) × (n ≡ m))
unfolding removed
remove_ends m n o place (Ok u) h ok done = rw h done
remove_ends m n o place (Err d) h ok bad = absurd (not_err (removed m o) d ok (rw h bad))

-- ---- the whole insertion

pub nothing_of : (m : MemoryMap) (o d : ℕ) → o ≡ 0 → inserted m o d ≡ Ok m
unfolding inserted
nothing_of m o d h = rw h refl

or_zero : (b : Bool) → (b || true) ≡ true
or_zero true = refl
or_zero false = refl

pub nothing_into : (m : MemoryMap) (o d : ℕ) → d ≡ 0 → inserted m o d ≡ Ok m
unfolding inserted
nothing_into m o d h = rw (h, or_zero (eqb o 0)) refl

pub insertion_bad : (m : MemoryMap) (o d : ℕ) (e : Fault) → o ≢ 0 → d ≢ 0 → entry_of m o ≡ Err e
    → inserted m o d ≡ Err e
unfolding inserted
insertion_bad m o d e x y h = rw (ne_eqb o 0 x, ne_eqb d 0 y, h) refl

pub insertion_into_bad : (m : MemoryMap) (o d a : ℕ) (e : Fault) → o ≢ 0 → d ≢ 0 → entry_of m o ≡ Ok a
    → entry_of m d ≡ Err e → inserted m o d ≡ Err e
unfolding inserted
insertion_into_bad m o d a e x y h k = rw (ne_eqb o 0 x, ne_eqb d 0 y, h, k) refl

-- both objects are there
pub record AreThere (m : MemoryMap) (o d : ℕ) : Type 0 where
  pub real : o ≢ 0
  pub real_into : d ≢ 0
  pub at : ℕ
  pub into_at : ℕ
  pub entry : entry_of m o ≡ Ok at
  pub into_entry : entry_of m d ≡ Ok into_at

pub insertion_of : (m : MemoryMap) (o d : ℕ) → AreThere m o d
    → inserted m o d ≡ (removed m o >>= λ without. linked without o d)
unfolding inserted
insertion_of m o d t =
    let e = t.entry in let f = t.into_entry in rw (ne_eqb o 0 t.real, ne_eqb d 0 t.real_into, e, f) refl

pub insertion_fails : (m : MemoryMap) (o d : ℕ) (e : Fault) → AreThere m o d → removed m o ≡ Err e
    → inserted m o d ≡ Err e
insertion_fails m o d e t h = insertion_of m o d t ∙ (rw h refl)

pub removed_shape : (m n : MemoryMap) (o : ℕ) → removed m o ≡ Ok n → IsSameShape m n
unfolding removed
removed_shape m n o h = let e = bind_ok (naming_of m o) (unlinked_where m o) n h in where_shape m n o e.0 e.2

child_there : (m n : MemoryMap) (o d : ℕ) → AreThere m o d → IsSameShape m n → (v : ℕ) × (link_at n (child_of d) ≡ Ok v)
child_there m n o d t s = has_link n (child_of d) t.into_at (entry_same m n d s ∙ t.into_entry)

-- ---- the three links that it writes

linked_writes : (m n : MemoryMap) (o d : ℕ) → AreThere m o d → IsSameShape m n
    → (next : ℕ) × (linked n o d ≡ put_all n (sibling_of o, next) ((parent_of o, d) ∷ (child_of d, o) ∷ []))
unfolding linked
linked_writes m n o d t s = let next = child_there m n o d t s in (next.0, rw next.1 refl)

pub insertion_refused : (m : MemoryMap) (o d : ℕ) (e : Fault) → AreThere m o d → IsOk (removed m o)
    → write_tests m (sibling_of o) (parent_of o ∷ child_of d ∷ []) ≡ Err e → inserted m o d ≡ Err e
insertion_refused m o d e t ok w =
    let n = value_of (removed m o) ok in
    let shape = removed_shape m n.0 o n.1 in
    let l = linked_writes m n.0 o d t shape in
    let bad = all_refused m n.0 (sibling_of o, l.0) ((parent_of o, d) ∷ (child_of d, o) ∷ []) e shape w in
    insertion_of m o d t ∙ (rw n.1 (l.1 ∙ bad))

pub linked_done : (m n : MemoryMap) (o d : ℕ) → AreThere m o d → IsSameShape m n
    → write_tests m (sibling_of o) (parent_of o ∷ child_of d ∷ []) ≡ Ok tt → IsOk (linked n o d)
linked_done m n o d t shape w =
    let l = linked_writes m n o d t shape in
    let done = all_written m n (sibling_of o, l.0) ((parent_of o, d) ∷ (child_of d, o) ∷ []) shape w in
    is_ok_of (linked n o d) done.0 (l.1 ∙ done.1)

pub removed_by : (m n : MemoryMap) (o : ℕ) (place : Option LinkPlace) → naming_of m o ≡ Ok place
    → unlinked_where m o place ≡ Ok n → removed m o ≡ Ok n
unfolding removed
removed_by m n o place h k = rw h k

pub removal_stands : (m : MemoryMap) (o : ℕ) (place : Option LinkPlace) (d : Fault) → naming_of m o ≡ Ok place
    → IsOk (removed m o) → unlinked_where m o place ≡ Err d → ⊥
unfolding removed
removal_stands m o place d h ok bad = not_err (removed m o) d ok (rw h bad)

pub insert_ends : (m without n : MemoryMap) (o d : ℕ) (r : Result (Unit {0}) Fault) → AreThere m o d
    → removed m o ≡ Ok without
    → write_tests m (sibling_of o) (parent_of o ∷ child_of d ∷ []) ≡ Ok tt
    → MatchResult r (λ _. linked without o d ≡ Ok n) (λ f. linked without o d ≡ Err f)
    → MatchResult r (λ _. inserted m o d ≡ Ok n) (λ f. (inserted m o d ≡ Err f) × (n ≡ m))
insert_ends m without n o d (Ok u) t h w done = insertion_of m o d t ∙ (rw h done)
insert_ends m without n o d (Err f) t h w bad =
    absurd (not_err (linked without o d) f (linked_done m without o d t (removed_shape m without o h) w) bad)
