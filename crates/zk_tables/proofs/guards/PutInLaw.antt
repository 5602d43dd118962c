-- What an insertion leaves of the links, and of chains.
use Rattle.std.proofs.Common.{◌≡◌, ◌≢◌, ℕ, ◌<◌, false, List, [], ◌∷◌, Ok, refl, sym, ap, ◌∙◌, arith, eqb, inl, inr}
use Rattle.std.proofs.Common.{⊎_elim, ◌⊎◌, ◌||◌}
use Rattle.std.specs.List.{Contains, list_any}
use Rattle.std.proofs.lemmas.Map.Keys.{IsDistinct-cons}
use Rattle.std.proofs.lemmas.Map.Views.{Contains-from_any, list_any-from_Contains}
use Rattle.std.proofs.lemmas.Bool.{eqb-true, both_ways, ne_eqb, cases_Bool, cases_eq}
use Rattle.std.proofs.lemmas.Cmp.{nat_eq_equiv}
use Rattle.zk_mem.specs.Map.{MemoryMap, HasBytes}
use Rattle.zk_tables.specs.declared.links.LinkPlace.{LinkPlace}
use Rattle.zk_tables.specs.Layout.{late_layout, entry_of}
use Rattle.zk_tables.specs.Links.{parent_of, sibling_of, child_of, address_of, object_number_at, link_at, link_put}
use Rattle.zk_tables.specs.Chain.{IsPath, IsChain}
use Rattle.zk_tables.specs.Tree.{removed, linked, inserted}
use Rattle.zk_tables.specs.guards.TreeLaws.{ChangesOnly, IsNaming, IsTakenOut, IsMoved, IsPutIn, InsertionsPutFirst}
use Rattle.zk_tables.specs.guards.TreeLaws.{without}
use Rattle.zk_tables.proofs.Steps.{bind_ok, chosen, same_value, same_map}
use Rattle.zk_tables.proofs.Writes.{layouts, entry_there, entry_takes, has_link}
use Rattle.zk_tables.proofs.guards.LinkLaw.{link_other}
use Rattle.zk_tables.proofs.ListLaw.{byte_small}
use Rattle.zk_tables.proofs.ChainLaw.{apart_each}
use Rattle.zk_tables.proofs.TreeSteps.{nothing_of, nothing_into, removed_shape}
use Rattle.zk_tables.proofs.guards.Changes.{put_changes, changes_join, changes_more, changes_shape, first_of, later_of}
use Rattle.zk_tables.proofs.guards.Changes.{one_of, none_of}
use Rattle.zk_tables.proofs.guards.Paths.{path_kept, KeepsSiblings, lacks, without_none, without_lacks, other_sibling}
use Rattle.zk_tables.proofs.guards.Paths.{other_child, sibling_parent, child_parent, child_sibling}
use Rattle.zk_tables.proofs.guards.TakenLaw.{IsSmall, object_small, same_small, names_it, kept_by_three}
use Rattle.zk_tables.proofs.guards.TakenLaw.{removals_take_out}

-- ---- numbers that a link has

number_small : (m : MemoryMap) (a v : ℕ) → HasBytes m → object_number_at m a ≡ Ok v → IsSmall m v
unfolding object_number_at
number_small m a v fits h = elim (layouts m.version) [
  | inl e ↦ (let low : v < 256 = byte_small m a v fits (rw e at h) in record { fits = λ one. low })
  | inr e ↦ record { fits = λ one. let no : late_layout.link_bytes ≡ 1 = rw e at one in absurd (omega arith) }
]

link_small : (m : MemoryMap) (q : LinkPlace) (v : ℕ) → HasBytes m → link_at m q ≡ Ok v → IsSmall m v
unfolding link_at
link_small m q v fits h = elim (chosen (eqb q.object 0) _ _ _ h) [
  | inl t ↦ (let zero : 0 ≡ v = same_value 0 v t.1 in object_small m v (omega arith))
  | inr t ↦ (let e = bind_ok (address_of m q) (object_number_at m) v t.1 in number_small m e.0 v fits e.2)
]

-- ---- the three links

record IsLinked (m n : MemoryMap) (o d next : ℕ) : Type 0 where
  parent : link_at n (parent_of o) ≡ Ok d
  sibling : link_at n (sibling_of o) ≡ Ok next
  child : link_at n (child_of d) ≡ Ok o
  only : ChangesOnly m n (sibling_of o ∷ parent_of o ∷ child_of d ∷ [])

first_links : (m n : MemoryMap) (o d next : ℕ) → link_at m (child_of d) ≡ Ok next → IsSmall m next → IsSmall m o
    → IsSmall m d → linked m o d ≡ Ok n → IsLinked m n o d next
unfolding linked
first_links m n o d next c small small_o small_d h =
    let one = bind_ok (link_put m (sibling_of o) next) _ n (rw c at h) in
    let two = bind_ok (link_put one.0 (parent_of o) d) _ n one.2 in
    let first = put_changes m one.0 (sibling_of o) next one.1 in
    let second = put_changes one.0 two.0 (parent_of o) d two.1 in
    let third = put_changes two.0 n (child_of d) o two.2 in
    let both = changes_join m one.0 two.0 (sibling_of o ∷ []) (parent_of o ∷ []) first second in
    let at_one = changes_shape m one.0 (sibling_of o ∷ []) first in
    let at_two = changes_shape m two.0 (sibling_of o ∷ parent_of o ∷ []) both in
    record {
      parent = link_other two.0 n (child_of d) (parent_of o) o (λ e. child_parent d o (sym e)) two.2
          ∙ names_it one.0 two.0 (parent_of o) d (same_small m one.0 d at_one.version small_d) two.1;
      sibling = link_other two.0 n (child_of d) (sibling_of o) o (λ e. child_sibling d o (sym e)) two.2
          ∙ link_other one.0 two.0 (parent_of o) (sibling_of o) d (sibling_parent o o) two.1
          ∙ names_it m one.0 (sibling_of o) next small one.1;
      child = names_it two.0 n (child_of d) o (same_small m two.0 o at_two.version small_o) two.2;
      only = changes_join m two.0 n (sibling_of o ∷ parent_of o ∷ []) (child_of d ∷ []) both third;
    }

-- ---- what becomes of chains

keeps : (m n : MemoryMap) (o d next : ℕ) → IsLinked m n o d next → KeepsSiblings m n o
keeps m n o d next l z w other ne h = kept_by_three m n (sibling_of o) (parent_of o) (child_of d) (sibling_of z)
    l.only (other_sibling z o other) (sibling_parent z o) (λ e. child_sibling d z (sym e)) ∙ h

-- the object comes first
chain_first : (m n : MemoryMap) (o d next : ℕ) (xs : List ℕ) → o ≢ 0 → link_at m (child_of d) ≡ Ok next
    → IsLinked m n o d next → IsChain m d xs → list_any (eqb o) xs ≡ false → IsChain n d (o ∷ xs)
unfolding IsPath
chain_first m n o d next xs some at l c none =
    let w = c.whole in
    let same : w.first ≡ next = same_value w.first next (sym w.child ∙ at) in
    let path = path_kept m n o w.first xs some (keeps m n o d next l) w.path none in
    record {
      whole = record {
        first = o;
        child = l.child;
        path = (refl, some, (w.first, l.sibling ∙ ap Ok (sym same), path));
      };
      apart = IsDistinct-cons eqb o xs (apart_each o xs none) c.apart;
    }

chain_besides : (m n : MemoryMap) (o d next q : ℕ) (xs : List ℕ) → o ≢ 0 → IsLinked m n o d next → q ≢ d
    → IsChain m q xs → list_any (eqb o) xs ≡ false → IsChain n q xs
chain_besides m n o d next q xs some l other c none =
    let w = c.whole in
    record {
      whole = record {
        first = w.first;
        child = kept_by_three m n (sibling_of o) (parent_of o) (child_of d) (child_of q) l.only
            (child_sibling q o) (child_parent q o) (other_child q d other) ∙ w.child;
        path = path_kept m n o w.first xs some (keeps m n o d next l) w.path none;
      };
      apart = c.apart;
    }

-- ---- the law

-- an insertion, taken apart
record IsPut (m n : MemoryMap) (o d : ℕ) : Type 0 where
  some : o ≢ 0
  parent : ℕ
  at : link_at m (parent_of o) ≡ Ok parent
  between : MemoryMap
  out : removed m o ≡ Ok between
  next : ℕ
  child : link_at between (child_of d) ≡ Ok next
  put : IsLinked between n o d next

kept_number : (m between : MemoryMap) (o d p next : ℕ) → HasBytes m → (t : IsTakenOut m between o p)
    → child_of d ≢ t.place → link_at between (child_of d) ≡ Ok next → IsSmall m next
kept_number m between o d p next fits t ne child =
    link_small m (child_of d) next fits
    (sym (kept_by_three m between t.place (parent_of o) (sibling_of o) (child_of d) t.only ne (child_parent d o)
    (child_sibling d o)) ∙ child)

taken_number : (m between : MemoryMap) (o d p next : ℕ) → HasBytes m → IsTakenOut m between o p
    → link_at between (child_of d) ≡ Ok next → IsSmall m next
taken_number m between o d p next fits t child =
    ⊎_elim
    (λ e. ⊎_elim
    (λ same. let here : t.place ≡ child_of d = e ∙ ap (λ (x : ℕ). child_of x) same in
    link_small m (sibling_of o) next fits (sym t.closed ∙ (rw here child)))
    (λ other. kept_number m between o d p next fits t (λ z. other_child d p (λ i. other (sym i)) (z ∙ e)) child)
    (cases_eq p d))
    (λ s. kept_number m between o d p next fits t (λ z. child_sibling d s.0 (z ∙ s.2)) child)
    t.naming.among

-- the destination's child, once the object was taken out, was a link's number before
number_between : (m between : MemoryMap) (o d p next : ℕ) → HasBytes m → link_at m (parent_of o) ≡ Ok p
    → removed m o ≡ Ok between → link_at between (child_of d) ≡ Ok next → IsSmall m next
number_between m between o d p next fits at out child =
    let r = removals_take_out m between o p at out in
    ⊎_elim
    (λ zero. let same = r.lone zero in link_small m (child_of d) next fits (rw same at child))
    (λ some. taken_number m between o d p next fits (r.taken some) child)
    (cases_eq p 0)

entry_small : (m : MemoryMap) (o a : ℕ) → entry_of m o ≡ Ok a → IsSmall m o
entry_small m o a h = let f = entry_there m o (entry_takes m o a h).0 in object_small m o f.few

zero_or : (o d : ℕ) → o ≢ 0 → d ≢ 0 → (eqb o 0 || eqb d 0) ≡ false
zero_or o d x y = rw (ne_eqb o 0 x, ne_eqb d 0 y) refl

put : (m n : MemoryMap) (o d : ℕ) → HasBytes m → o ≢ 0 → d ≢ 0 → inserted m o d ≡ Ok n → IsPut m n o d
unfolding inserted linked
put m n o d fits x y h =
    let e = bind_ok (entry_of m o) _ n (rw (zero_or o d x y) at h) in
    let f = bind_ok (entry_of m d) _ n e.2 in
    let g = bind_ok (removed m o) (λ between. linked between o d) n f.2 in
    let p = has_link m (parent_of o) e.0 e.1 in
    let c = bind_ok (link_at g.0 (child_of d)) _ n g.2 in
    let shape = removed_shape m g.0 o g.1 in
    let small = same_small m g.0 c.0 shape.version (number_between m g.0 o d p.0 c.0 fits p.1 g.1 c.1) in
    record {
      some = x;
      parent = p.0;
      at = p.1;
      between = g.0;
      out = g.1;
      next = c.0;
      child = c.1;
      put = first_links g.0 n o d c.0 c.1 small (same_small m g.0 o shape.version (entry_small m o e.0 e.1))
          (same_small m g.0 d shape.version (entry_small m d f.0 f.1)) g.2;
    }

-- the children, once the object was taken out
chain_between : (m between : MemoryMap) (o d p : ℕ) (xs : List ℕ) → d ≢ 0 → link_at m (parent_of o) ≡ Ok p
    → removed m o ≡ Ok between → IsChain m d xs → (Contains xs o → link_at m (parent_of o) ≡ Ok d)
    → IsChain between d (without o xs)
chain_between m between o d p xs some at out c own =
    let r = removals_take_out m between o p at out in
    ⊎_elim
    (λ yes. let has = own (Contains-from_any eqb-true o xs yes) in
    let q = removals_take_out m between o d has out in (q.taken some).children xs c)
    (λ no. rw (without_none o xs no) (⊎_elim
    (λ zero. let same = r.lone zero in rw same c)
    (λ one. (r.taken one).elsewhere d xs c (λ h. both_ways (list_any (eqb o) xs) no
    (list_any-from_Contains nat_eq_equiv o xs h)))
    (cases_eq p 0)))
    (cases_Bool (list_any (eqb o) xs))

elsewhere_between : (m between : MemoryMap) (o q p : ℕ) (xs : List ℕ) → link_at m (parent_of o) ≡ Ok p
    → removed m o ≡ Ok between → IsChain m q xs → (Contains xs o → ⊥) → IsChain between q xs
elsewhere_between m between o q p xs at out c none =
    let r = removals_take_out m between o p at out in
    ⊎_elim (λ zero. let same = r.lone zero in rw same c) (λ one. (r.taken one).elsewhere q xs c none) (cases_eq p 0)

-- what both write is one of four links
among_four : (a b c e q : LinkPlace) → Contains (a ∷ b ∷ c ∷ c ∷ b ∷ e ∷ []) q → Contains (a ∷ b ∷ c ∷ e ∷ []) q
among_four a b c e q h =
    let third : Contains (a ∷ b ∷ c ∷ e ∷ []) c = later_of a c (b ∷ c ∷ e ∷ [])
    (later_of b c (c ∷ e ∷ []) (first_of c (e ∷ []))) in
    let second : Contains (a ∷ b ∷ c ∷ e ∷ []) b = later_of a b (b ∷ c ∷ e ∷ []) (first_of b (c ∷ e ∷ [])) in
    let fourth : Contains (a ∷ b ∷ c ∷ e ∷ []) e = later_of a e (b ∷ c ∷ e ∷ [])
    (later_of b e (c ∷ e ∷ []) (later_of c e (e ∷ []) (first_of e []))) in
    ⊎_elim (λ z. rw (← z) (first_of a (b ∷ c ∷ e ∷ [])))
    (λ h. ⊎_elim (λ z. rw (← z) second)
    (λ h. ⊎_elim (λ z. rw (← z) third)
    (λ h. ⊎_elim (λ z. rw (← z) third)
    (λ h. ⊎_elim (λ z. rw (← z) second)
    (λ h. ⊎_elim (λ z. rw (← z) fourth) (λ h. absurd (none_of q h)) (one_of e q [] h))
    (one_of b q (e ∷ []) h))
    (one_of c q (b ∷ e ∷ []) h))
    (one_of c q (c ∷ b ∷ e ∷ []) h))
    (one_of b q (c ∷ c ∷ b ∷ e ∷ []) h))
    (one_of a q (b ∷ c ∷ c ∷ b ∷ e ∷ []) h)

among_three : (b c e q : LinkPlace) → Contains (c ∷ b ∷ e ∷ []) q → Contains (b ∷ c ∷ e ∷ []) q
among_three b c e q h =
    ⊎_elim (λ z. rw (← z) (later_of b c (c ∷ e ∷ []) (first_of c (e ∷ []))))
    (λ h. ⊎_elim (λ z. rw (← z) (first_of b (c ∷ e ∷ [])))
    (λ h. later_of b q (c ∷ e ∷ []) (later_of c q (e ∷ []) h))
    (one_of b q (e ∷ []) h))
    (one_of c q (b ∷ e ∷ []) h)

-- the link that named the object is none of the object's own
named_parent : (m : MemoryMap) (o p : ℕ) (place : LinkPlace) → IsNaming m o p place → place ≢ parent_of o
named_parent m o p place n e =
    ⊎_elim (λ z. child_parent p o (sym z ∙ e)) (λ s. sibling_parent s.0 o (sym s.2 ∙ e)) n.among

named_sibling : (m between : MemoryMap) (o p : ℕ) → o ≢ 0 → (t : IsTakenOut m between o p) → t.place ≢ sibling_of o
named_sibling m between o p some t e =
    let zero : link_at between t.place ≡ Ok 0 = rw e t.no_sibling in
    let itself : link_at m (sibling_of o) ≡ Ok o = rw e at t.naming.names in
    some (same_value o 0 (sym itself ∙ sym t.closed ∙ zero))

moved : (m n : MemoryMap) (o d p : ℕ) → IsPut m n o d → p ≢ 0 → link_at m (parent_of o) ≡ Ok p → IsMoved m n o d p
moved m n o d p i some at =
    let t = (removals_take_out m i.between o p at i.out).taken some in
    record {
      place = t.place;
      naming = t.naming;
      closed = λ ne. kept_by_three i.between n (sibling_of o) (parent_of o) (child_of d) t.place i.put.only
          (named_sibling m i.between o p i.some t) (named_parent m o p t.place t.naming) ne ∙ t.closed;
      only = changes_more m n _ _ (among_four t.place (parent_of o) (sibling_of o) (child_of d))
          (changes_join m i.between n (t.place ∷ parent_of o ∷ sibling_of o ∷ [])
          (sibling_of o ∷ parent_of o ∷ child_of d ∷ []) t.only i.put.only);
      children = λ xs other c. chain_besides i.between n o d i.next p (without o xs) i.some i.put other
          (t.children xs c) (without_lacks o xs);
    }

put_in : (m n : MemoryMap) (o d : ℕ) → d ≢ 0 → IsPut m n o d → IsPutIn m n o d
put_in m n o d some i = record {
  parent = i.put.parent;
  child = i.put.child;
  between = i.between;
  taken_out = i.out;
  sibling = i.put.sibling ∙ sym i.child;
  lone = λ at. (let same = (removals_take_out m i.between o 0 at i.out).lone refl in
      changes_more m n _ _ (among_three (parent_of o) (sibling_of o) (child_of d)) (rw same at i.put.only));
  moved = λ p one at. moved m n o d p i one at;
  children = λ xs c own. chain_first i.between n o d i.next (without o xs) i.some i.child i.put
      (chain_between m i.between o d i.parent xs some i.at i.out c own) (without_lacks o xs);
  elsewhere = λ q xs other c none. chain_besides i.between n o d i.next q xs i.some i.put other
      (elsewhere_between m i.between o q i.parent xs i.at i.out c none) (lacks o xs none);
}

none_put : (m n : MemoryMap) (o d : ℕ) → inserted m o d ≡ Ok n → (o ≡ 0) ⊎ (d ≡ 0) → n ≡ m
none_put m n o d h (inl e) = same_map n m (sym h ∙ nothing_of m o d e)
none_put m n o d h (inr e) = same_map n m (sym h ∙ nothing_into m o d e)

pub insertions_put_first : InsertionsPutFirst
insertions_put_first m n o d fits h = record {
  none = none_put m n o d h;
  put_in = λ x y. put_in m n o d y (put m n o d fits x y h);
}
