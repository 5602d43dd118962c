-- Lines of the tree, one after another.
use Rattle.std.proofs.Common.{◌≡◌, ◌∙◌, ℕ, List, [], ◌∷◌, ◌++◌, refl, sym, ap₂, subst, ⊎_elim, arith, ◌≤◌}
use Rattle.std.specs.Prelude.{◌⊎◌, ◌↔◌, ◌<◌, Contains, zero, suc, Result, Ok, Err, IsOk, OnErr, OnOk, is_err}
use Rattle.std.proofs.lemmas.List.{map-append}
use Rattle.std.proofs.lemmas.List.Elements.{All-nil, All-cons, All-append, All-weaker, Contains-append_left}
use Rattle.std.proofs.lemmas.List.Elements.{Contains-append_right}
use Rattle.zk_mem.specs.Map.{MemoryMap}
use Rattle.zk_inspect.specs.declared.fact.Fact.{Fact}
use Rattle.zk_inspect.specs.declared.fact.Fact.TheVariants as fact
use Rattle.zk_inspect.specs.declared.fact.Node.{Node}
use Rattle.zk_inspect.specs.Facts.{GaveBy, GaveSome}
use Rattle.zk_mem.specs.declared.fault.Fault.{Fault}
use Rattle.zk_tables.specs.Layout.{entry_of, is_entry, is_entry_in}
use Rattle.zk_inspect.specs.Objects.{IsListed, IsObject}
use Rattle.zk_inspect.specs.TreeLines.{AreRows, AreSomeRows, AreTreeRows, IsUpTo, StandsAtTop}

pub up_to : (count o : ℕ) → (o ≡ 0 → ⊥) → o ≤ count → IsUpTo count o
up_to count o some few = (omega (arith, some), few)

module _ {S : Type 0} (wrote : S → S → List Fact → Type 0) (Has : ℕ → Type 0) where
  pub no_rows : (Wants : ℕ → Type 0) (a : S) → wrote a a [] → ((o : ℕ) → Wants o → ⊥)
      → GaveSome (AreRows Has Wants) wrote a a
  no_rows Wants a h none =
      record {
        facts = [];
        is = record {
          rows = [];
          are = refl;
          objects = All-nil (λ row. Has row.object);
          top = λ o w. absurd (none o w);
        };
        given = h;
      }

  pub one_row : (a b : S) (row : Node) → Has row.object → wrote a b (fact.Node row ∷ [])
      → GaveSome (AreRows Has (λ o. ⊥)) wrote a b
  one_row a b row has h = record {
    facts = fact.Node row ∷ [];
    is =
        record {
          rows = row ∷ [];
          are = refl;
          objects = All-cons (λ row. Has row.object) row [] has
              (All-nil (λ row. Has row.object));
          top = λ o w. absurd w;
        };
    given = h;
  }

  -- a row at the top
  pub top_row : (a b : S) (row : Node) → Has row.object → row.level ≡ 0 → wrote a b (fact.Node row ∷ [])
      → GaveSome (AreRows Has (λ o. o ≡ row.object)) wrote a b
  top_row a b row has level h = record {
    facts = fact.Node row ∷ [];
    is =
        record {
          rows = row ∷ [];
          are = refl;
          objects = All-cons (λ row. Has row.object) row [] has
              (All-nil (λ row. Has row.object));
          top =
              λ o w. subst (StandsAtTop (row ∷ [])) (sym w) (
                row.again,
                subst (λ (n : ℕ). Contains (row ∷ [])
                    (record { level = n; object = row.object; again = row.again })) level (0, omega arith, refl),
              );
        };
    given = h;
  }

  -- of two texts each object that is wanted stands in one
  pub rows_then : (twice : (x y z : S) (s t : List Fact) → wrote x y s → wrote y z t → wrote x z (s ++ t))
      (First Second Wants : ℕ → Type 0) (a b c : S) → GaveSome (AreRows Has First) wrote a b
      → GaveSome (AreRows Has Second) wrote b c
      → ((o : ℕ) → Wants o → First o ⊎ Second o) → GaveSome (AreRows Has Wants) wrote a c
  rows_then twice First Second Wants a b c h k either = record {
    facts = h.facts ++ k.facts;
    is = record {
      rows = h.is.rows ++ k.is.rows;
      are = ap₂ (λ (s t : List Fact). s ++ t) h.is.are k.is.are ∙ sym (map-append fact.Node h.is.rows k.is.rows);
      objects = All-append (λ row. Has row.object) h.is.rows k.is.rows h.is.objects k.is.objects;
      top = λ o w. ⊎_elim
          (λ f. let at = h.is.top o f in (at.0, Contains-append_left h.is.rows k.is.rows _ at.1))
          (λ s. let at = k.is.top o s in (at.0, Contains-append_right h.is.rows k.is.rows _ at.1))
          (either o w);
    };
    given = twice a b c h.facts k.facts h.given k.given;
  }

-- rows of the first objects are rows of a story's objects, where these are the first
pub rows_of_story : {S : Type 0} (wrote : S → S → List Fact → Type 0) (m : MemoryMap) (count : ℕ)
    (Wants Wanted : ℕ → Type 0) (a b : S) → GaveSome (AreRows (IsUpTo count) Wants) wrote a b
    → ((o : ℕ) → IsUpTo count o → IsObject m o) → ((o : ℕ) → Wanted o → Wants o)
    → GaveSome (AreRows (IsObject m) Wanted) wrote a b
rows_of_story {S} wrote m count Wants Wanted a b h object wants = record {
  facts = h.facts;
  is = record {
    rows = h.is.rows;
    are = h.is.are;
    objects = All-weaker (λ row. IsUpTo count row.object) (λ row. IsObject m row.object)
        (λ row up. object row.object up) h.is.rows h.is.objects;
    top = λ o w. h.is.top o (wants o w);
  };
  given = h.given;
}

-- the objects of a story are the first ones
pub first_objects : (m : MemoryMap) (count : ℕ)
    → ((o entry : ℕ) → IsListed m o entry ↔ ((o ≤ count) × (entry_of m o ≡ Ok entry)))
    → ((o : ℕ) → 0 < o → o ≤ count → IsOk (entry_of m o)) → (o : ℕ) → IsUpTo count o → IsObject m o
first_objects m count listed whole o up = go (entry_of m o) refl (whole o up.0 up.1)
  where
    go : (r : Result ℕ Fault) → entry_of m o ≡ r → IsOk r → IsObject m o
    go (Ok entry) e h = (entry, (listed o entry).1 (up.1, e))
    go (Err f) e h = absurd cc

-- and object 0 is none
pub object_up_to : (m : MemoryMap) (count : ℕ)
    → ((o entry : ℕ) → IsListed m o entry ↔ ((o ≤ count) × (entry_of m o ≡ Ok entry))) → (o : ℕ) → IsObject m o
    → IsUpTo count o
unfolding entry_of is_entry is_entry_in
object_up_to m count listed zero object = absurd (let k = ((listed zero object.0).0 object.1).1 in cc)
object_up_to m count listed (suc o) object = (omega arith, ((listed (suc o) object.0).0 object.1).0)

pub on_ok : {A E : Type 0} (P Q : Type 0) (r : Result A E) → (P → Q) → OnOk r P → OnOk r Q
on_ok P Q (Ok x) f h = f h
on_ok P Q (Err e) f h = tt

-- all rows of the tree were given, or some where there was no memory for more
pub tree_or_rows : {S A E : Type 0} (wrote : S → S → List Fact → Type 0) (m : MemoryMap) (a b : S)
    (r : Result A E) → GaveSome (AreSomeRows m) wrote a b → OnOk r (GaveSome (AreTreeRows m) wrote a b)
    → GaveBy (is_err r) (AreTreeRows m) (AreSomeRows m) wrote a b
tree_or_rows {S} {A} {E} wrote m a b (Ok x) some all = all
tree_or_rows {S} {A} {E} wrote m a b (Err e) some all = some

pub on_err : {A E : Type 0} (P Q : Type 0) (r : Result A E) → (P → Q) → OnErr r P → OnErr r Q
on_err P Q (Ok x) f h = tt
on_err P Q (Err e) f h = f h
