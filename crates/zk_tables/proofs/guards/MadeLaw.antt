-- When a removal and an insertion are made.
use Rattle.std.proofs.Common.{◌≡◌, ◌≢◌, ℕ, ◌+◌, true, false, List, [], ◌∷◌, Some, None, nat_le, Result, Ok, Err, refl}
use Rattle.std.proofs.Common.{sym, ◌∙◌, arith, eqb, inl, inr, ⊎_elim, ◌⊎◌}
use Rattle.std.specs.Prelude.{IsOk}
use Rattle.std.specs.List.{Contains, list_any}
use Rattle.std.proofs.lemmas.Map.Views.{list_any-from_Contains}
use Rattle.std.proofs.lemmas.Bool.{eqb-false, ne_eqb, or_parts, cases_Bool, le-leb}
use Rattle.std.proofs.lemmas.Cmp.{nat_eq_equiv}
use Rattle.zk_mem.specs.declared.fault.Fault.{Fault}
use Rattle.zk_mem.specs.declared.fault.Fault.TheVariants.{ReadOnly, BadObject, BadTree}
use Rattle.zk_mem.specs.Map.{MemoryMap}
use Rattle.zk_tables.specs.declared.links.LinkPlace.{LinkPlace}
use Rattle.zk_tables.specs.Layout.{layout_of, is_entry, entry_of}
use Rattle.zk_tables.specs.Links.{parent_of, sibling_of, child_of, address_of, object_number_at, link_at, write_test}
use Rattle.zk_tables.specs.Links.{write_tests}
use Rattle.zk_tables.specs.Chain.{IsChain}
use Rattle.zk_tables.specs.Tree.{naming_in, naming_among, naming_of, removed, inserted}
use Rattle.zk_tables.specs.guards.TreeLaws.{IsNaming, IsWritable, AllowsRemoval, RemovalsAreMade, AllowsInsertion}
use Rattle.zk_tables.specs.guards.TreeLaws.{InsertionsAreMade}
use Rattle.zk_tables.proofs.Steps.{bind_ok, bind_err, chosen, value_of, not_err, same_value}
use Rattle.zk_tables.proofs.Writes.{link_entry, entry_there, entry_cases}
use Rattle.zk_tables.proofs.ChainSteps.{zero_test}
use Rattle.zk_tables.proofs.ChainLaw.{children_are_chains}
use Rattle.zk_tables.proofs.TreeSteps.{no_removal, removal_refused, removal_done, insertion_refused, AreThere}
use Rattle.zk_tables.proofs.TreeSteps.{nothing_of, nothing_into, insertion_of, insertion_fails, insertion_bad}
use Rattle.zk_tables.proofs.TreeSteps.{insertion_into_bad, linked_done, removed_shape}
use Rattle.zk_tables.proofs.guards.RemovalLaw.{by_parent, with_children}
use Rattle.zk_tables.proofs.guards.Paths.{found, differs, lacks}

-- ---- links that may be written

passes : (m : MemoryMap) (place : LinkPlace) → IsWritable m place → write_test m place ≡ Ok tt
unfolding write_test
passes m place w = rw (w.address, le-leb (w.start + (layout_of m.version).link_bytes) m.static_base w.dynamic) refl

pass_all : (m : MemoryMap) (a b c : LinkPlace) → IsWritable m a → IsWritable m b → IsWritable m c
    → write_tests m a (b ∷ c ∷ []) ≡ Ok tt
pass_all m a b c x y z = rw (passes m a x, passes m b y, passes m c z) refl

-- a link with an address is refused as read-only alone
locked : (m : MemoryMap) (place : LinkPlace) (a : ℕ) (d : Fault) → address_of m place ≡ Ok a
    → write_test m place ≡ Err d → d ≡ ReadOnly
unfolding write_test
locked m place a d h w = elim (chosen (nat_le (a + (layout_of m.version).link_bytes) m.static_base) _ _ _ (rw h at w)) [
  | inl t ↦ absurd cc
  | inr t ↦ (let same : d ≡ ReadOnly = cc in same)
]

HasAddress : MemoryMap → LinkPlace → Type 0
HasAddress m place = (a : ℕ) × (address_of m place ≡ Ok a)

locked_all : (m : MemoryMap) (a b c : LinkPlace) (d : Fault) → HasAddress m a → HasAddress m b → HasAddress m c
    → write_tests m a (b ∷ c ∷ []) ≡ Err d → d ≡ ReadOnly
unfolding HasAddress
locked_all m a b c d x y z h = elim (bind_err (write_test m a) (λ _. write_tests m b (c ∷ [])) d h) [
  | inl e ↦ locked m a x.0 d x.1 e
  | inr e ↦ elim (bind_err (write_test m b) (λ _. write_test m c) d e.2) [
    | inl f ↦ locked m b y.0 d y.1 f
    | inr f ↦ locked m c z.0 d z.1 f.2
  ]
]

-- a link that names an object has an address
naming_address : (m : MemoryMap) (place : LinkPlace) (v : ℕ) → v ≢ 0 → link_at m place ≡ Ok v → HasAddress m place
unfolding link_at HasAddress
naming_address m place v some h = elim (chosen (eqb place.object 0) _ _ _ h) [
  | inl t ↦ absurd (some (same_value v 0 (sym t.1)))
  | inr t ↦ (let e = bind_ok (address_of m place) (object_number_at m) v t.1 in (e.0, e.1))
]

entry_address : (m : MemoryMap) (place : LinkPlace) (a : ℕ) → entry_of m place.object ≡ Ok a → HasAddress m place
unfolding address_of HasAddress
entry_address m place a h = rw h (_, refl)

-- ---- the link that names an object

named_there : (q : LinkPlace) (xs : List ℕ) (o : ℕ) → list_any (eqb o) xs ≡ true
    → (place : LinkPlace) × (naming_in q xs o ≡ Ok place)
named_there q [] o h = absurd cc
named_there q (z ∷ zs) o h =
    ⊎_elim
    (λ same. rw same (q, refl))
    (λ other. let ne : eqb o z ≡ false = ne_eqb o z (λ e. eqb-false z o other (sym e)) in
    let rest : list_any (eqb o) zs ≡ true = rw ne at h in
    rw other (named_there (sibling_of z) zs o rest))
    (cases_Bool (eqb z o))

none_named : (q : LinkPlace) (xs : List ℕ) (o : ℕ) → list_any (eqb o) xs ≡ false → naming_in q xs o ≡ Err BadTree
none_named q [] o h = refl
none_named q (z ∷ zs) o h =
    rw (ne_eqb z o (differs o z zs h)) (none_named (sibling_of z) zs o (or_parts (eqb o z) (list_any (eqb o) zs) h).1)

naming_found : (m : MemoryMap) (o p : ℕ) (xs : List ℕ) (place : LinkPlace) → IsChain m p xs
    → naming_in (child_of p) xs o ≡ Ok place → IsNaming m o p place
naming_found m o p xs place c h =
    let f = found m o c.whole.first (child_of p) xs place c.whole.child c.whole.path h in
    record { names = f.names; children = xs; chain = c; among = ⊎_elim (λ e. inl e) (λ s. inr (s.0, s.1, s.3)) f.among }

named_by : (m : MemoryMap) (o p : ℕ) (place : LinkPlace) → p ≢ 0 → link_at m (parent_of o) ≡ Ok p
    → naming_among m p o ≡ Ok place → naming_of m o ≡ Ok (Some place)
unfolding naming_of
named_by m o p place some at h = rw (at, zero_test p some, h) refl

-- ---- removals

lone_removed : (m : MemoryMap) (o p : ℕ) → link_at m (parent_of o) ≡ Ok p → p ≡ 0 → removed m o ≡ Ok m
unfolding naming_of
lone_removed m o p at zero = let none : naming_of m o ≡ Ok None = rw (at, zero) refl in no_removal m o none

removed_from : (m : MemoryMap) (o p : ℕ) (xs : List ℕ) → p ≢ 0 → link_at m (parent_of o) ≡ Ok p → IsChain m p xs
    → Contains xs o → AllowsRemoval m o p → IsOk (removed m o)
removed_from m o p xs some at c has free =
    let t = named_there (child_of p) xs o (list_any-from_Contains nat_eq_equiv o xs has) in
    let among : naming_among m p o ≡ Ok t.0 = with_children m o p xs (((children_are_chains m p).chain xs).1 c) ∙ t.1 in
    removal_done m o t.0 (named_by m o p t.0 some at among)
    (pass_all m t.0 (parent_of o) (sibling_of o) (free.naming t.0 (naming_found m o p xs t.0 c t.1))
    free.its_parent free.its_sibling)

by_tests : (m : MemoryMap) (o : ℕ) (place : LinkPlace) (e : Fault) → naming_of m o ≡ Ok (Some place)
    → HasAddress m place → (a : ℕ) → entry_of m o ≡ Ok a → (r : Result (Unit {0}) Fault)
    → write_tests m place (parent_of o ∷ sibling_of o ∷ []) ≡ r → removed m o ≡ Err e → e ≡ ReadOnly
by_tests m o place e named there a h (Ok u) w bad =
    absurd (not_err (removed m o) e (removal_done m o place named w) bad)
by_tests m o place e named there a h (Err d) w bad =
    let refused = removal_refused m o place d named w in
    let same : e ≡ d = cc in
    same ∙ locked_all m place (parent_of o) (sibling_of o) d there (entry_address m (parent_of o) a h)
    (entry_address m (sibling_of o) a h) w

fixed_from : (m : MemoryMap) (o p : ℕ) (xs : List ℕ) (e : Fault) → p ≢ 0 → link_at m (parent_of o) ≡ Ok p
    → IsChain m p xs → Contains xs o → removed m o ≡ Err e → e ≡ ReadOnly
fixed_from m o p xs e some at c has bad =
    let t = named_there (child_of p) xs o (list_any-from_Contains nat_eq_equiv o xs has) in
    let among : naming_among m p o ≡ Ok t.0 = with_children m o p xs (((children_are_chains m p).chain xs).1 c) ∙ t.1 in
    let named = named_by m o p t.0 some at among in
    let f = found m o c.whole.first (child_of p) xs t.0 c.whole.child c.whole.path t.1 in
    let own = link_entry m (parent_of o) p f.some at in
    by_tests m o t.0 e named (naming_address m t.0 o f.some f.names) own.0 own.1
    (write_tests m t.0 (parent_of o ∷ sibling_of o ∷ [])) refl bad

refused_to : (m : MemoryMap) (o p : ℕ) (xs : List ℕ) → p ≢ 0 → link_at m (parent_of o) ≡ Ok p → IsChain m p xs
    → (Contains xs o → ⊥) → removed m o ≡ Err BadTree
refused_to m o p xs some at c none =
    let among : naming_among m p o ≡ Err BadTree = with_children m o p xs
    (((children_are_chains m p).chain xs).1 c) ∙ none_named (child_of p) xs o (lacks o xs none) in
    by_parent m o p some at ∙ (rw among refl)

pub removals_are_made : RemovalsAreMade
removals_are_made m o p at = record {
  lone = lone_removed m o p at;
  fixed = λ xs e some c has bad. fixed_from m o p xs e some at c has bad;
  among = λ xs some c has free. removed_from m o p xs some at c has free;
  strange = λ xs some c none. refused_to m o p xs some at c none;
}

-- ---- insertions

there : (m : MemoryMap) (o : ℕ) → is_entry m o ≡ true → (o ≢ 0) × ((a : ℕ) × (entry_of m o ≡ Ok a))
there m o h = elim (entry_cases m o) [
  | inl e ↦ (let counted = (entry_there m o h).counted in (λ z. omega arith, e.1))
  | inr e ↦ (let no = e.0 in absurd cc)
]

bad_there : (m : MemoryMap) (o : ℕ) → is_entry m o ≡ false → entry_of m o ≡ Err BadObject
unfolding entry_of
bad_there m o h = rw h refl

both_there : (m : MemoryMap) (o d : ℕ) → is_entry m o ≡ true → is_entry m d ≡ true → AreThere m o d
both_there m o d x y =
    let e = there m o x in
    let f = there m d y in
    record { real = e.0; real_into = f.0; at = e.1.0; into_at = f.1.0; entry = e.1.1; into_entry = f.1.1 }

bad_inserted : (m : MemoryMap) (o d : ℕ) → o ≢ 0 → d ≢ 0 → (is_entry m o ≡ false) ⊎ (is_entry m d ≡ false)
    → inserted m o d ≡ Err BadObject
bad_inserted m o d x y (inl h) = insertion_bad m o d BadObject x y (bad_there m o h)
bad_inserted m o d x y (inr h) = elim (entry_cases m o) [
  | inl e ↦ insertion_into_bad m o d e.1.0 BadObject x y e.1.1 (bad_there m d h)
  | inr e ↦ insertion_bad m o d BadObject x y e.1
]

none_inserted : (m : MemoryMap) (o d : ℕ) → (o ≡ 0) ⊎ (d ≡ 0) → inserted m o d ≡ Ok m
none_inserted m o d (inl e) = nothing_of m o d e
none_inserted m o d (inr e) = nothing_into m o d e

comes : (m : MemoryMap) (o d : ℕ) → AreThere m o d → IsOk (removed m o) → AllowsInsertion m o d → IsOk (inserted m o d)
comes m o d t ok free =
    let n = value_of (removed m o) ok in
    let done = linked_done m n.0 o d t (removed_shape m n.0 o n.1)
    (pass_all m (sibling_of o) (parent_of o) (child_of d) free.its_sibling free.its_parent free.first) in
    rw (insertion_of m o d t, n.1) done

fixed_into : (m : MemoryMap) (o d : ℕ) (e : Fault) → AreThere m o d → IsOk (removed m o)
    → (r : Result (Unit {0}) Fault) → write_tests m (sibling_of o) (parent_of o ∷ child_of d ∷ []) ≡ r
    → inserted m o d ≡ Err e → e ≡ ReadOnly
fixed_into m o d e t ok (Ok u) w bad =
    let n = value_of (removed m o) ok in
    let done = linked_done m n.0 o d t (removed_shape m n.0 o n.1) w in
    absurd (not_err (inserted m o d) e (rw (insertion_of m o d t, n.1) done) bad)
fixed_into m o d e t ok (Err f) w bad =
    let refused = insertion_refused m o d f t ok w in
    let same : e ≡ f = cc in
    same ∙ locked_all m (sibling_of o) (parent_of o) (child_of d) f (entry_address m (sibling_of o) t.at t.entry)
    (entry_address m (parent_of o) t.at t.entry) (entry_address m (child_of d) t.into_at t.into_entry) w

pub insertions_are_made : InsertionsAreMade
insertions_are_made m o d = record {
  none = none_inserted m o d;
  bad = bad_inserted m o d;
  stays = λ e x y h. insertion_fails m o d e (both_there m o d x y) h;
  fixed = λ e x y ok bad. fixed_into m o d e (both_there m o d x y) ok
      (write_tests m (sibling_of o) (parent_of o ∷ child_of d ∷ [])) refl bad;
  comes = λ x y ok free. comes m o d (both_there m o d x y) ok free;
}
