-- What a removal leaves of the links, and of chains.
use Rattle.std.proofs.Common.{◌≡◌, ◌≢◌, ℕ, ◌≤◌, ◌<◌, false, List, [], ◌∷◌, None, Ok, refl, sym, ap, ◌∙◌, arith, eqb}
use Rattle.std.proofs.Common.{inl, inr, ⊎_elim, ◌⊎◌}
use Rattle.std.specs.List.{list_any}
use Rattle.zk_mem.specs.Map.{MemoryMap}
use Rattle.zk_tables.specs.declared.layout.Layout.{Layout}
use Rattle.zk_tables.specs.declared.links.LinkPlace.{LinkPlace}
use Rattle.zk_tables.specs.Layout.{early_layout, late_layout, layout_of, entries, entries_in}
use Rattle.zk_tables.specs.Links.{parent_of, sibling_of, child_of, link_at, link_put}
use Rattle.zk_tables.specs.Chain.{IsChain, children_of}
use Rattle.zk_tables.specs.Tree.{naming_in, naming_among, naming_of, unlinked, removed}
use Rattle.zk_tables.specs.guards.TreeLaws.{ChangesOnly, IsTakenOut, RemovalsTakeOut, without}
use Rattle.zk_tables.proofs.Steps.{bind_ok, same_value, same_map}
use Rattle.zk_tables.proofs.Writes.{layouts}
use Rattle.zk_tables.proofs.guards.LinkLaw.{link_read, link_other}
use Rattle.zk_tables.proofs.ChainLaw.{children_are_chains}
use Rattle.zk_tables.proofs.TreeSteps.{no_removal}
use Rattle.zk_tables.proofs.guards.RemovalLaw.{by_parent}
use Rattle.zk_tables.proofs.guards.Changes.{put_changes, changes_join, changes_shape, one_of, none_of}
use Rattle.zk_tables.proofs.guards.Paths.{found, path_kept, path_without, KeepsSiblings, next_other, distinct_without}
use Rattle.zk_tables.proofs.guards.Paths.{lacks, other_sibling, sibling_parent, child_parent, child_sibling}

-- ---- numbers that a link has room for

-- a link of a byte has room for the number
pub record IsSmall (m : MemoryMap) (v : ℕ) : Type 0 where
  pub fits : (layout_of m.version).link_bytes ≡ 1 → v < 256

small_by : (l : Layout) → ((l ≡ early_layout) ⊎ (l ≡ late_layout)) → (v : ℕ) → v ≤ l.most_objects
    → l.link_bytes ≡ 1 → v < 256
small_by l (inl e) v h one = let few : v ≤ 255 = rw e at h in omega arith
small_by l (inr e) v h one = let no : late_layout.link_bytes ≡ 1 = rw e at one in absurd (omega arith)

-- the number of an object that may have an entry
pub object_small : (m : MemoryMap) (v : ℕ) → v ≤ (layout_of m.version).most_objects → IsSmall m v
object_small m v h = record { fits = small_by (layout_of m.version) (layouts m.version) v h }

entries_few : (m : MemoryMap) (v : ℕ) → v ≤ entries m → v ≤ (layout_of m.version).most_objects
unfolding entries entries_in
entries_few m v h = omega arith

counted_small : (m : MemoryMap) (v : ℕ) → v ≤ entries m → IsSmall m v
counted_small m v h = object_small m v (entries_few m v h)

pub same_small : (m n : MemoryMap) (v : ℕ) → n.version ≡ m.version → IsSmall m v → IsSmall n v
same_small m n v e s = record { fits = λ one. s.fits (ap (λ (x : ℕ). (layout_of x).link_bytes) (sym e) ∙ one) }

-- a link that is written names the object
pub names_it : (m n : MemoryMap) (place : LinkPlace) (v : ℕ) → IsSmall m v → link_put m place v ≡ Ok n
    → link_at n place ≡ Ok v
names_it m n place v s h = link_read m n place v s.fits h

-- ---- the three links

record IsUnlinked (m n : MemoryMap) (o : ℕ) (place : LinkPlace) (next : ℕ) : Type 0 where
  no_parent : link_at n (parent_of o) ≡ Ok 0
  no_sibling : link_at n (sibling_of o) ≡ Ok 0
  closed : link_at n place ≡ Ok next
  only : ChangesOnly m n (place ∷ parent_of o ∷ sibling_of o ∷ [])

three_links : (m n : MemoryMap) (o : ℕ) (place : LinkPlace) (next : ℕ) → link_at m (sibling_of o) ≡ Ok next
    → next ≤ entries m → place ≢ parent_of o → place ≢ sibling_of o
    → unlinked m place o ≡ Ok n → IsUnlinked m n o place next
unfolding unlinked
three_links m n o place next s few np ns h =
    let one = bind_ok (link_put m place next) _ n (rw s at h) in
    let two = bind_ok (link_put one.0 (parent_of o) 0) _ n one.2 in
    let first = put_changes m one.0 place next one.1 in
    let second = put_changes one.0 two.0 (parent_of o) 0 two.1 in
    let third = put_changes two.0 n (sibling_of o) 0 two.2 in
    let both = changes_join m one.0 two.0 (place ∷ []) (parent_of o ∷ []) first second in
    let at_one = changes_shape m one.0 (place ∷ []) first in
    let at_two = changes_shape m two.0 (place ∷ parent_of o ∷ []) both in
    let zero : IsSmall m 0 = counted_small m 0 (omega arith) in
    record {
      no_parent = link_other two.0 n (sibling_of o) (parent_of o) 0 (λ e. sibling_parent o o (sym e)) two.2
          ∙ names_it one.0 two.0 (parent_of o) 0 (same_small m one.0 0 at_one.version zero) two.1;
      no_sibling = names_it two.0 n (sibling_of o) 0 (same_small m two.0 0 at_two.version zero) two.2;
      closed = link_other two.0 n (sibling_of o) place 0 ns two.2 ∙ link_other one.0 two.0 (parent_of o) place 0
          np two.1 ∙ names_it m one.0 place next (counted_small m next few) one.1;
      only = changes_join m two.0 n (place ∷ parent_of o ∷ []) (sibling_of o ∷ []) both third;
    }

-- ---- what becomes of chains

-- a link that is none of three is kept
pub kept_by_three : (m n : MemoryMap) (a b c q : LinkPlace) → ChangesOnly m n (a ∷ b ∷ c ∷ []) → q ≢ a → q ≢ b
    → q ≢ c → link_at n q ≡ link_at m q
kept_by_three m n a b c q only na nb nc =
    only.links q (λ h. ⊎_elim (λ e. na (sym e))
    (λ h. ⊎_elim (λ e. nb (sym e)) (λ h. ⊎_elim (λ e. nc (sym e)) (λ h. none_of q h) (one_of c q [] h))
    (one_of b q (c ∷ []) h)) (one_of a q (b ∷ c ∷ []) h))

-- a link that names another object is not the one that named this one
other_name : (m : MemoryMap) (o w : ℕ) (place q : LinkPlace) → link_at m place ≡ Ok o → w ≢ o
    → link_at m q ≡ Ok w → q ≢ place
other_name m o w place q names ne h e =
    let at : link_at m place ≡ Ok w = rw e at h in ne (same_value w o (sym at ∙ names))

keeps_siblings : (m n : MemoryMap) (o next : ℕ) (place : LinkPlace) → link_at m place ≡ Ok o
    → IsUnlinked m n o place next → KeepsSiblings m n o
keeps_siblings m n o next place names u z w other ne h =
    kept_by_three m n place (parent_of o) (sibling_of o) (sibling_of z) u.only
    (other_name m o w place (sibling_of z) names ne h) (sibling_parent z o) (other_sibling z o other) ∙ h

keeps_child : (m n : MemoryMap) (o next p w : ℕ) (place : LinkPlace) → link_at m place ≡ Ok o
    → IsUnlinked m n o place next → w ≢ o → link_at m (child_of p) ≡ Ok w → link_at n (child_of p) ≡ Ok w
keeps_child m n o next p w place names u ne h =
    kept_by_three m n place (parent_of o) (sibling_of o) (child_of p) u.only
    (other_name m o w place (child_of p) names ne h) (child_parent p o) (child_sibling p o) ∙ h

chain_without : (m n : MemoryMap) (o p next : ℕ) (place : LinkPlace) (xs : List ℕ) → o ≢ 0
    → link_at m place ≡ Ok o → link_at m (sibling_of o) ≡ Ok next → IsUnlinked m n o place next
    → IsChain m p xs → naming_in (child_of p) xs o ≡ Ok place → IsChain n p (without o xs)
chain_without m n o p next place xs some names s u c h =
    let w = c.whole in
    let r = path_without m n o w.first next (child_of p) xs place some (keeps_siblings m n o next place names u) s
    u.closed (λ v ne at. keeps_child m n o next p v place names u ne at) w.child w.path c.apart h in
    record { whole = record { first = r.first; child = r.link; path = r.path }; apart = distinct_without o xs c.apart }

chain_elsewhere : (m n : MemoryMap) (o q next : ℕ) (place : LinkPlace) (xs : List ℕ) → o ≢ 0
    → link_at m place ≡ Ok o → IsUnlinked m n o place next → IsChain m q xs → list_any (eqb o) xs ≡ false
    → IsChain n q xs
chain_elsewhere m n o q next place xs some names u c none =
    let w = c.whole in
    record {
      whole = record {
        first = w.first;
        child = keeps_child m n o next q w.first place names u (next_other m o w.first xs some w.path none) w.child;
        path = path_kept m n o w.first xs some (keeps_siblings m n o next place names u) w.path none;
      };
      apart = c.apart;
    }

-- ---- the law

not_parent : (o p : ℕ) (place : LinkPlace) → ((place ≡ child_of p) ⊎ ((x : ℕ) × (place ≡ sibling_of x)))
    → place ≢ parent_of o
not_parent o p place (inl e) h = child_parent p o (sym e ∙ h)
not_parent o p place (inr e) h = sibling_parent e.0 o (sym e.1 ∙ h)

same_children : (m : MemoryMap) (p o : ℕ) (xs ys : List ℕ) (place : LinkPlace) → IsChain m p xs → IsChain m p ys
    → naming_in (child_of p) xs o ≡ Ok place → naming_in (child_of p) ys o ≡ Ok place
same_children m p o xs ys place c d h =
    let r = children_are_chains m p in
    let same = (r.chain ys).1 d in
    let all = (r.chain xs).1 c in
    let one : xs ≡ ys = cc in
    rw one at h

taken_out : (m n : MemoryMap) (o p : ℕ) (xs : List ℕ) (place : LinkPlace) → IsChain m p xs
    → naming_in (child_of p) xs o ≡ Ok place → unlinked m place o ≡ Ok n → IsTakenOut m n o p
taken_out m n o p xs place c h k =
    let w = c.whole in
    let f = found m o w.first (child_of p) xs place w.child w.path h in
    let kind : (place ≡ child_of p) ⊎ ((x : ℕ) × (place ≡ sibling_of x)) = ⊎_elim (λ e. inl e)
    (λ s. inr (s.0, s.3)) f.among in
    let not_sibling : place ≢ sibling_of o = λ e. ⊎_elim (λ z. child_sibling p o (sym z ∙ e))
    (λ s. other_sibling s.0 o s.2 (sym s.3 ∙ e)) f.among in
    let u = three_links m n o place f.next f.sibling f.few (not_parent o p place kind) not_sibling k in
    record {
      no_parent = u.no_parent;
      no_sibling = u.no_sibling;
      place = place;
      naming =
          record {
            names = f.names;
            children = xs;
            chain = c;
            among = ⊎_elim (λ e. inl e)
                (λ s. inr (s.0, s.1, s.3)) f.among;
          };
      closed = u.closed ∙ sym f.sibling;
      only = u.only;
      children = λ ys d. chain_without m n o p f.next place ys f.some f.names f.sibling u d
          (same_children m p o xs ys place c d h);
      elsewhere = λ q ys d out. chain_elsewhere m n o q f.next place ys f.some f.names u d (lacks o ys out);
    }

lone : (m n : MemoryMap) (o p : ℕ) → link_at m (parent_of o) ≡ Ok p → removed m o ≡ Ok n → p ≡ 0 → n ≡ m
unfolding naming_of
lone m n o p at h zero =
    let none : naming_of m o ≡ Ok None = rw (at, zero) refl in
    same_map n m (sym h ∙ no_removal m o none)

listed : (m : MemoryMap) (p o : ℕ) (place : LinkPlace) → naming_among m p o ≡ Ok place
    → (xs : List ℕ) × (children_of m p ≡ Ok xs) × (naming_in (child_of p) xs o ≡ Ok place)
unfolding naming_among
listed m p o place h = bind_ok (children_of m p) (λ xs. naming_in (child_of p) xs o) place h

taken : (m n : MemoryMap) (o p : ℕ) → link_at m (parent_of o) ≡ Ok p → removed m o ≡ Ok n → p ≢ 0 → IsTakenOut m n o p
taken m n o p at h some =
    let named = bind_ok (naming_among m p o) (λ place. unlinked m place o) n (sym (by_parent m o p some at) ∙ h) in
    let l = listed m p o named.0 named.1 in
    taken_out m n o p l.0 named.0 (((children_are_chains m p).chain l.0).0 l.1) l.2 named.2

pub removals_take_out : RemovalsTakeOut
removals_take_out m n o p at h = record { lone = lone m n o p at h; taken = taken m n o p at h }
