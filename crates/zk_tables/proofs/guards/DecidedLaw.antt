-- Property lists decide what is asked of properties.
use Rattle.std.specs.Prelude.{⊤}
use Rattle.std.proofs.Common.{◌≡◌, ◌≢◌, ℕ, List, Ok, Err, refl, eqb, inl, inr}
use Rattle.std.proofs.lemmas.Bool.{ne_eqb, cases_Bool}
use Rattle.zk_mem.specs.declared.fault.Fault.TheVariants.{BadProperty}
use Rattle.zk_mem.specs.Map.{MemoryMap}
use Rattle.zk_tables.specs.declared.lists.Property.{Property}
use Rattle.zk_tables.specs.PropertyList.{properties_at, found_at, first_number_from, first_number_at, number_after_at}
use Rattle.zk_tables.specs.Properties.{list_of, property_of, property_value, property_address_of, next_property_of}
use Rattle.zk_tables.specs.Properties.{property_put, AnswersByList, RefusesAll, ListsDecide}
use Rattle.zk_tables.proofs.ListLaw.{lists_are_read}

-- the definitions that are opened here
unfoldable opened : ⊤
unfolding property_value property_address_of next_property_of property_put property_of found_at first_number_at
    first_number_from number_after_at properties_at
opened = tt

answers : (m : MemoryMap) (o a : ℕ) (ps : List Property) → o ≢ 0 → list_of m o ≡ Ok a → properties_at m a ≡ Ok ps
    → AnswersByList m o ps
unfolding opened
answers m o a ps some at list =
    let test = ne_eqb o 0 some in
    record {
      value = λ n. rw (test, at, list) refl;
      address = λ n. rw (test, at, list) refl;
      first = rw (test, at, list) refl;
      next = λ n other. rw (test, at, ne_eqb n 0 other, list) refl;
      put = λ n v. rw (test, at, list) refl;
    }

refuses : (m : MemoryMap) (o a : ℕ) → o ≢ 0 → list_of m o ≡ Ok a → properties_at m a ≡ Err BadProperty → RefusesAll m o
unfolding opened
refuses m o a some at list =
    let test = ne_eqb o 0 some in
    record {
      value = λ n. rw (test, at, list) refl;
      address = λ n. rw (test, at, list) refl;
      next =
          λ n. elim (cases_Bool (eqb n 0)) [
            | inl t ↦ rw (test, at, t, list) refl
            | inr t ↦ rw (test, at, t, list) refl
          ];
      put = λ n v. rw (test, at, list) refl;
    }

pub lists_decide : ListsDecide
lists_decide m o a fits some at =
    let r = lists_are_read m a fits in
    record {
      listed = λ ps l. answers m o a ps some at ((r.list ps).1 l);
      cut = λ l. refuses m o a some at (r.leaves.1 l);
    }
