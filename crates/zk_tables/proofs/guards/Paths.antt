-- Paths along siblings, in memory before an object was taken out of them and after.
use Rattle.std.proofs.Common.{◌≡◌, ◌≢◌, ℕ, ◌≤◌, false, List, [], ◌∷◌, Ok, refl, sym, ap, ◌∙◌, arith, eqb, inl, inr}
use Rattle.std.proofs.Common.{⊎_elim, ◌⊎◌}
use Rattle.std.specs.List.{IsDistinct, list_any, AllByRecursion, Contains}
use Rattle.std.proofs.lemmas.Map.Keys.{IsDistinct-head, IsDistinct-tail}
use Rattle.std.proofs.lemmas.Map.Views.{Contains-from_any}
use Rattle.std.proofs.lemmas.Bool.{eqb-true, eqb-false, ne_eqb, or_parts, or_from, cases_Bool}
use Rattle.zk_mem.specs.Map.{MemoryMap}
use Rattle.zk_tables.specs.declared.links.Link.TheVariants.{Parent, Sibling, Child}
use Rattle.zk_tables.specs.declared.links.LinkPlace.{LinkPlace}
use Rattle.zk_tables.specs.Layout.{entries}
use Rattle.zk_tables.specs.Links.{link_at, parent_of, sibling_of, child_of}
use Rattle.zk_tables.specs.Chain.{IsPath}
use Rattle.zk_tables.specs.Tree.{naming_in}
use Rattle.zk_tables.specs.guards.TreeLaws.{without}
use Rattle.zk_tables.proofs.Steps.{chosen, same_value}
use Rattle.zk_tables.proofs.ChainLaw.{linked_counted}
use Rattle.zk_tables.proofs.guards.Changes.{first_of, later_of}

-- ---- lists without an object

apart_none : (o : ℕ) (os : List ℕ) → AllByRecursion (λ y. eqb o y ≡ false) os → list_any (eqb o) os ≡ false
apart_none o [] h = refl
apart_none o (y ∷ ys) h = or_from (eqb o y) (list_any (eqb o) ys) h.0 (apart_none o ys h.1)

-- an object that is not among the others is none of them
pub differs : (o z : ℕ) (os : List ℕ) → list_any (eqb o) (z ∷ os) ≡ false → z ≢ o
differs o z os h e = eqb-false o z (or_parts (eqb o z) (list_any (eqb o) os) h).0 (sym e)

pub lacks : (o : ℕ) (xs : List ℕ) → (Contains xs o → ⊥) → list_any (eqb o) xs ≡ false
lacks o xs h =
    ⊎_elim (λ yes. absurd (h (Contains-from_any eqb-true o xs yes))) (λ no. no) (cases_Bool (list_any (eqb o) xs))

pub without_none : (o : ℕ) (xs : List ℕ) → list_any (eqb o) xs ≡ false → without o xs ≡ xs
without_none o [] h = refl
without_none o (z ∷ zs) h =
    let other = ne_eqb z o (differs o z zs h) in
    rw other (ap (λ (ys : List ℕ). z ∷ ys) (without_none o zs (or_parts (eqb o z) (list_any (eqb o) zs) h).1))

pub without_lacks : (o : ℕ) (xs : List ℕ) → list_any (eqb o) (without o xs) ≡ false
without_lacks o [] = refl
without_lacks o (z ∷ zs) =
    ⊎_elim
    (λ same. rw same (without_lacks o zs))
    (λ other. rw other (or_from (eqb o z) (list_any (eqb o) (without o zs))
    (ne_eqb o z (λ e. eqb-false z o other (sym e))) (without_lacks o zs)))
    (cases_Bool (eqb z o))

all_without : (o x : ℕ) (xs : List ℕ) → AllByRecursion (λ y. eqb x y ≡ false) xs
    → AllByRecursion (λ y. eqb x y ≡ false) (without o xs)
all_without o x [] h = tt
all_without o x (z ∷ zs) h =
    ⊎_elim
    (λ same. rw same (all_without o x zs h.1))
    (λ other. rw other (h.0, all_without o x zs h.1))
    (cases_Bool (eqb z o))

pub distinct_without : (o : ℕ) (xs : List ℕ) → IsDistinct eqb xs → IsDistinct eqb (without o xs)
unfolding IsDistinct
distinct_without o [] h = tt
distinct_without o (z ∷ zs) h =
    ⊎_elim
    (λ same. rw same (distinct_without o zs h.1))
    (λ other. rw other (all_without o z zs h.0, distinct_without o zs h.1))
    (cases_Bool (eqb z o))

-- ---- places

pub other_sibling : (x y : ℕ) → x ≢ y → sibling_of x ≢ sibling_of y
other_sibling x y ne e = ne (ap (λ (p : LinkPlace). p.object) e)

pub other_child : (x y : ℕ) → x ≢ y → child_of x ≢ child_of y
other_child x y ne e = ne (ap (λ (p : LinkPlace). p.object) e)

pub sibling_parent : (x y : ℕ) → sibling_of x ≢ parent_of y
sibling_parent x y e = let k : Sibling ≡ Parent = ap (λ (p : LinkPlace). p.link) e in cc

pub child_parent : (x y : ℕ) → child_of x ≢ parent_of y
child_parent x y e = let k : Child ≡ Parent = ap (λ (p : LinkPlace). p.link) e in cc

pub child_sibling : (x y : ℕ) → child_of x ≢ sibling_of y
child_sibling x y e = let k : Child ≡ Sibling = ap (λ (p : LinkPlace). p.link) e in cc

-- ---- the link that names an object on a path

-- what is known of the link that a walk along the siblings finds
pub record IsFound (m : MemoryMap) (o : ℕ) (q : LinkPlace) (xs : List ℕ) (place : LinkPlace) : Type 0 where
  pub some : o ≢ 0
  pub names : link_at m place ≡ Ok o
  pub among : (place ≡ q) ⊎ ((x : ℕ) × Contains xs x × (x ≢ o) × (place ≡ sibling_of x))
  pub next : ℕ
  pub sibling : link_at m (sibling_of o) ≡ Ok next
  pub few : next ≤ entries m

path_few : (m : MemoryMap) (x : ℕ) (xs : List ℕ) → IsPath m x xs 0 → x ≤ entries m
unfolding IsPath
path_few m x [] p = let none : x ≡ 0 = p in omega arith
path_few m x (z ∷ zs) p = rw p.0 (linked_counted m z p.2.0 p.1 p.2.1)

pub found : (m : MemoryMap) (o x : ℕ) (q : LinkPlace) (xs : List ℕ) (place : LinkPlace) → link_at m q ≡ Ok x
    → IsPath m x xs 0 → naming_in q xs o ≡ Ok place → IsFound m o q xs place
unfolding IsPath
found m o x q [] place l p h = absurd cc
found m o x q (z ∷ zs) place l p h = elim (chosen (eqb z o) _ _ _ h) [
  | inl t ↦ (let same : z ≡ o = eqb-true z o t.0 in
      let here : q ≡ place = cc in
      record {
        some = λ e. p.1 (same ∙ e);
        names = rw (← here) (l ∙ ap Ok (p.0 ∙ same));
        among = inl (sym here);
        next = p.2.0;
        sibling = rw (← same) p.2.1;
        few = path_few m p.2.0 zs p.2.2;
      })
  | inr t ↦ (let r : IsFound m o (sibling_of z) zs place = found m o p.2.0 (sibling_of z) zs place p.2.1 p.2.2 t.1 in
      record {
        some = r.some;
        names = r.names;
        among = ⊎_elim
            (λ e. inr (z, first_of z zs, eqb-false z o t.0, e))
            (λ w. inr (w.0, later_of z w.0 zs w.1, w.2, w.3))
            r.among;
        next = r.next;
        sibling = r.sibling;
        few = r.few;
      })
]

-- ---- paths, before and after

-- siblings of other objects that do not name the object are kept
abbrev pub KeepsSiblings : MemoryMap → MemoryMap → ℕ → Type 0
KeepsSiblings m n o = (z w : ℕ) → z ≢ o → w ≢ o → link_at m (sibling_of z) ≡ Ok w → link_at n (sibling_of z) ≡ Ok w

pub next_other : (m : MemoryMap) (o x : ℕ) (xs : List ℕ) → o ≢ 0 → IsPath m x xs 0 → list_any (eqb o) xs ≡ false → x ≢ o
unfolding IsPath
next_other m o x [] some p h e = some (sym e ∙ p)
next_other m o x (z ∷ zs) some p h e = differs o z zs h (sym p.0 ∙ e)

-- a path that does not meet the object is kept
pub path_kept : (m n : MemoryMap) (o x : ℕ) (xs : List ℕ) → o ≢ 0 → KeepsSiblings m n o → IsPath m x xs 0
    → list_any (eqb o) xs ≡ false → IsPath n x xs 0
unfolding IsPath
path_kept m n o x [] some keeps p h = p
path_kept m n o x (z ∷ zs) some keeps p h =
    let rest = (or_parts (eqb o z) (list_any (eqb o) zs) h).1 in (
      p.0,
      p.1,
      (
        p.2.0,
        keeps z p.2.0 (differs o z zs h) (next_other m o p.2.0 zs some p.2.2 rest) p.2.1,
        path_kept m n o p.2.0 zs some keeps p.2.2 rest,
      ),
    )

-- the first object that a link names, and the path from there
pub record IsPathBy (m : MemoryMap) (q : LinkPlace) (xs : List ℕ) : Type 0 where
  pub first : ℕ
  pub link : link_at m q ≡ Ok first
  pub path : IsPath m first xs 0

-- where the link that named the object names its sibling, the path goes on after the object
pub path_without : (m n : MemoryMap) (o x next : ℕ) (q : LinkPlace) (xs : List ℕ) (place : LinkPlace) → o ≢ 0
    → KeepsSiblings m n o
    → link_at m (sibling_of o) ≡ Ok next → link_at n place ≡ Ok next
    → ((w : ℕ) → w ≢ o → link_at m q ≡ Ok w → link_at n q ≡ Ok w)
    → link_at m q ≡ Ok x → IsPath m x xs 0 → IsDistinct eqb xs → naming_in q xs o ≡ Ok place
    → IsPathBy n q (without o xs)
unfolding IsPath
path_without m n o x next q [] place some keeps s c kept l p d h = absurd cc
path_without m n o x next q (z ∷ zs) place some keeps s c kept l p d h = elim (chosen (eqb z o) _ _ _ h) [
  | inl t ↦ (let same : z ≡ o = eqb-true z o t.0 in
      let here : q ≡ place = cc in
      let onward : p.2.0 ≡ next = same_value p.2.0 next (sym p.2.1 ∙ (rw same s)) in
      let none : list_any (eqb o) zs ≡ false = rw (← same) (apart_none z zs (IsDistinct-head eqb z zs d)) in
      let path : IsPath n p.2.0 zs 0 = path_kept m n o p.2.0 zs some keeps p.2.2 none in
      rw (t.0, without_none o zs none) (record { first = next; link = rw here c; path = rw (← onward) path }))
  | inr t ↦ (let other : z ≢ o = eqb-false z o t.0 in
      let r : IsPathBy n (sibling_of z) (without o zs) = path_without m n o p.2.0 next (sibling_of z) zs place
      some keeps s c (λ w ne h. keeps z w other ne h) p.2.1 p.2.2 (IsDistinct-tail eqb z zs d) t.1 in
      rw t.0 (record {
        first = x;
        link = kept x (λ e. other (sym p.0 ∙ e)) l;
        path = (p.0, p.1, (r.first, r.link, r.path));
      }))
]
