-- The chain of the parent's children decides what is removed.
use Rattle.std.proofs.Common.{◌≡◌, ◌≢◌, ℕ, List, Some, Result, Ok, Err, refl}
use Rattle.zk_mem.specs.declared.fault.Fault.{Fault}
use Rattle.zk_mem.specs.declared.fault.Fault.TheVariants.{BadObject, BadTree}
use Rattle.zk_mem.specs.Results.{◌>>=◌}
use Rattle.zk_mem.specs.Map.{MemoryMap}
use Rattle.zk_tables.specs.declared.links.LinkPlace.{LinkPlace}
use Rattle.zk_tables.specs.Links.{parent_of, child_of, link_at}
use Rattle.zk_tables.specs.Chain.{children_of}
use Rattle.zk_tables.specs.Tree.{naming_in, naming_among, naming_of, unlinked, unlinked_where, removed, ChainsDecide}
use Rattle.zk_tables.proofs.ChainSteps.{zero_test}
use Rattle.zk_tables.proofs.ChainLaw.{children_are_chains}

where_named : (m : MemoryMap) (o : ℕ) (r : Result LinkPlace Fault)
    → (r >>= (λ place. Ok (Some place)) >>= unlinked_where m o) ≡ (r >>= λ place. unlinked m place o)
unfolding unlinked_where
where_named m o (Ok place) = refl
where_named m o (Err e) = refl

pub by_parent : (m : MemoryMap) (o parent : ℕ) → parent ≢ 0 → link_at m (parent_of o) ≡ Ok parent
    → removed m o ≡ (naming_among m parent o >>= λ place. unlinked m place o)
unfolding removed naming_of
by_parent m o parent some at = rw (at, zero_test parent some) (where_named m o (naming_among m parent o))

pub with_children : (m : MemoryMap) (o parent : ℕ) (xs : List ℕ) → children_of m parent ≡ Ok xs
    → naming_among m parent o ≡ naming_in (child_of parent) xs o
unfolding naming_among
with_children m o parent xs h = rw h refl

without_children : (m : MemoryMap) (o parent : ℕ) (e : Fault) → children_of m parent ≡ Err e
    → naming_among m parent o ≡ Err e
unfolding naming_among
without_children m o parent e h = rw h refl

pub chains_decide : ChainsDecide
chains_decide m o parent some at =
    let r = children_are_chains m parent in
    record {
      chain = λ xs c. rw (by_parent m o parent some at, with_children m o parent xs ((r.chain xs).1 c)) refl;
      repeats = λ h. rw (by_parent m o parent some at, without_children m o parent BadTree (r.repeats.1 h)) refl;
      meets_bad = λ h. rw (by_parent m o parent some at, without_children m o parent BadObject (r.meets_bad.1 h)) refl;
    }
