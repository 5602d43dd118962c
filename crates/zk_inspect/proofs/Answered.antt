-- The objects of which a question is answered with yes.
use Rattle.std.proofs.Common.{◌≡◌, ◌≢◌, ◌∙◌, ℕ, ◌+◌, ◌<◌, ◌⊎◌, inl, inr, true, false, List, [], ◌∷◌, ◌++◌, Result, Ok}
use Rattle.std.proofs.Common.{Err, refl, sym, ap, arith}
use Rattle.std.specs.Prelude.{◌↔◌, IsOk}
use Rattle.std.proofs.lemmas.Bool.{cases_lt, cases_eq}
use Rattle.std.proofs.lemmas.Bool.Decides.{Decides-like, Decides-ltb}
use Rattle.zk_mem.specs.declared.fault.Fault.{Fault}
use Rattle.zk_mem.specs.declared.fault.Fault.TheVariants.{BadProperty, BadTree}
use Rattle.zk_mem.specs.Results.{◌>>=◌}
use Rattle.zk_mem.specs.Map.{MemoryMap, HasBytes}
use Rattle.zk_tables.specs.declared.lists.Property.{Property}
use Rattle.zk_tables.specs.Chain.{children_of}
use Rattle.zk_tables.specs.Layout.{entry_of}
use Rattle.zk_tables.specs.Links.{link_at, parent_of, sibling_of, child_of}
use Rattle.zk_tables.specs.Properties.{list_of, properties_of}
use Rattle.zk_tables.specs.PropertyList.{properties_at}
use Rattle.zk_tables.proofs.ChainLaw.{children_are_chains}
use Rattle.zk_tables.proofs.ListLaw.{lists_are_read}
use Rattle.zk_inspect.specs.declared.check.finding.Number.TheVariants.{ObjectLinks, ChainWithARepeat, PropertyList}
use Rattle.zk_inspect.specs.declared.objects.Question.{Question}
use Rattle.zk_inspect.specs.declared.objects.Question.TheVariants.{Links, Chain, Properties}
use Rattle.zk_inspect.specs.Findings.{Finds}
use Rattle.zk_inspect.specs.Lists.{IsListOf}
use Rattle.zk_inspect.specs.Objects.{IsListed, LeadsPast, LacksList}
use Rattle.zk_inspect.specs.ObjectTests.{IsAnswered, IsCounted, answer, is_bad_property, is_bad_tree, is_past}
use Rattle.zk_inspect.specs.ObjectTests.{leads_past, object_number}
use Rattle.zk_inspect.proofs.Deciding.{three_decide}
use Rattle.zk_inspect.proofs.Entries.{rising, same_ok, zero_none}
use Rattle.zk_inspect.proofs.Listed.{list_more, list_same, list_none}

up : (m : MemoryMap) (n : ℕ) (q : Question) (before b : ℕ) → IsAnswered m n q before b → IsAnswered m n q (before + 1) b
up m n q before b h = let few = h.few in record { object = h.object; few = omega arith; stands = h.stands; yes = h.yes }

pub answered_none : (m : MemoryMap) (n : ℕ) (q : Question) → IsListOf (IsAnswered m n q 0) []
answered_none m n q = list_none (IsAnswered m n q 0) (λ a h. zero_none m h.object a h.few h.stands)

pub answered_more : (m : MemoryMap) (n : ℕ) (q : Question) (before e : ℕ) (xs : List ℕ)
    → IsListOf (IsAnswered m n q before) xs → entry_of m (before + 1) ≡ Ok e → answer m n q (before + 1) ≡ true
    → IsListOf (IsAnswered m n q (before + 1)) (xs ++ e ∷ [])
answered_more m n q before e xs h at holds = list_more (IsAnswered m n q before) (IsAnswered m n q (before + 1)) xs e h
    (λ b p. let few = p.few in rising m (before + 1) p.object e b at p.stands (omega arith))
    (up m n q before)
    (λ b r. elim (cases_eq r.object (before + 1)) [
      | inl s ↦ inr (same_ok (entry_of m (before + 1)) e b at (ap (entry_of m) (sym s) ∙ r.stands))
      | inr ne ↦ inl (let few = r.few in record {
        object = r.object;
        few = omega arith;
        stands = r.stands;
        yes = r.yes;
      })
    ])
    (record { object = before + 1; few = omega arith; stands = at; yes = holds })

pub answered_still : (m : MemoryMap) (n : ℕ) (q : Question) (before : ℕ) (xs : List ℕ)
    → IsListOf (IsAnswered m n q before) xs → answer m n q (before + 1) ≡ false
    → IsListOf (IsAnswered m n q (before + 1)) xs
answered_still m n q before xs h fails =
    list_same (IsAnswered m n q before) (IsAnswered m n q (before + 1)) xs h (up m n q before)
    (λ b r. elim (cases_eq r.object (before + 1)) [
      | inl s ↦ absurd (let y : answer m n q (before + 1) ≡ true = ap (answer m n q) (sym s) ∙ r.yes in cc)
      | inr ne ↦ let few = r.few in record { object = r.object; few = omega arith; stands = r.stands; yes = r.yes }
    ])

pub answered_gone : (m : MemoryMap) (n : ℕ) (q : Question) (before : ℕ) (f : Fault) (xs : List ℕ)
    → IsListOf (IsAnswered m n q before) xs → entry_of m (before + 1) ≡ Err f
    → IsListOf (IsAnswered m n q (before + 1)) xs
answered_gone m n q before f xs h none =
    list_same (IsAnswered m n q before) (IsAnswered m n q (before + 1)) xs h (up m n q before)
    (λ b r. elim (cases_eq r.object (before + 1)) [
      | inl s ↦ absurd (let y : entry_of m (before + 1) ≡ Ok b = ap (entry_of m) (sym s) ∙ r.stands in cc)
      | inr ne ↦ let few = r.few in record { object = r.object; few = omega arith; stands = r.stands; yes = r.yes }
    ])

-- ---- what the answers say

past_decides : (n : ℕ) (r : Result ℕ Fault) → is_past n r ≡ true ↔ ((o : ℕ) × (r ≡ Ok o) × (n < o))
past_decides n (Ok o) = (λ e. (o, refl, (Decides-ltb n o).0 e), λ h. ap (is_past n) h.1 ∙ (Decides-ltb n h.0).1 h.2)
past_decides n (Err f) = (λ e. absurd cc, λ h. absurd (let q = h.1 in cc))

pub ok_is : (r : Result ℕ Fault) → IsOk r → (e : ℕ) × (r ≡ Ok e)
ok_is (Ok e) h = (e, refl)
ok_is (Err f) h = absurd cc

-- an object past the last is not listed, and the other way round
past_last : (m : MemoryMap) (n o : ℕ) → IsCounted m n → n < o → (e : ℕ) → IsListed m o e → ⊥
past_last m n o c lt e h = let le = ((c.listed o e).0 h).0 in absurd (omega arith)

last_past : (m : MemoryMap) (n o : ℕ) → IsCounted m n → o ≢ 0 → ((e : ℕ) → IsListed m o e → ⊥) → n < o
last_past m n o c some none = elim (cases_lt n o) [
  | inl lt ↦ lt
  | inr le ↦ absurd (let at = ok_is (entry_of m o) (c.whole o (omega arith) le) in
      none at.0 ((c.listed o at.0).1 (le, at.1)))
]

abbrev Named : MemoryMap → ℕ → ℕ → Type 0
Named m o p = (link_at m (parent_of o) ≡ Ok p) ⊎ ((link_at m (sibling_of o) ≡ Ok p) ⊎ (link_at m (child_of o) ≡ Ok p))

-- a link past the last
abbrev PastBy : ℕ → Result ℕ Fault → Type 0
PastBy n r = (p : ℕ) × (r ≡ Ok p) × (n < p)

module _ (m : MemoryMap) (n o : ℕ) (c : IsCounted m n) where
  named : (p : ℕ) → n < p → Named m o p → LeadsPast m o
  named p lt names = record { named = p; some = omega arith; past = past_last m n p c lt; names = names }

  to_past : PastBy n (link_at m (parent_of o)) ⊎ (PastBy n (link_at m (sibling_of o))
      ⊎ PastBy n (link_at m (child_of o))) → LeadsPast m o
  to_past (inl h) = named h.0 h.2 (inl h.1)
  to_past (inr (inl h)) = named h.0 h.2 (inr (inl h.1))
  to_past (inr (inr h)) = named h.0 h.2 (inr (inr h.1))

  by_name : (p : ℕ) → n < p → Named m o p → PastBy n (link_at m (parent_of o))
      ⊎ (PastBy n (link_at m (sibling_of o)) ⊎ PastBy n (link_at m (child_of o)))
  by_name p lt (inl e) = inl (p, e, lt)
  by_name p lt (inr (inl e)) = inr (inl (p, e, lt))
  by_name p lt (inr (inr e)) = inr (inr (p, e, lt))

  leads_decides : leads_past m n o ≡ true ↔ LeadsPast m o
  leads_decides = Decides-like _ to_past (λ h. by_name h.named (last_past m n h.named c h.some h.past) h.names)
      (three_decide _ _ _ (past_decides n (link_at m (parent_of o))) (past_decides n (link_at m (sibling_of o)))
      (past_decides n (link_at m (child_of o))))

object_links : (m : MemoryMap) (n : ℕ) (xs : List ℕ) → IsCounted m n → IsListOf (IsAnswered m n Links n) xs
    → IsListOf (Finds m ObjectLinks) xs
unfolding Finds
object_links m n xs c h = list_same (IsAnswered m n Links n) (Finds m ObjectLinks) xs h
    (λ a p. (p.object, (c.listed p.object a).1 (p.few, p.stands), (leads_decides m n p.object c).0 p.yes))
    (λ a p. let l = (c.listed p.0 a).0 p.1 in record {
      object = p.0;
      few = l.0;
      stands = l.1;
      yes = (leads_decides m n p.0 c).1 p.2;
    })

tree_fault : (f : Fault) → is_bad_tree {A = List ℕ} (Err f) ≡ true → f ≡ BadTree
tree_fault BadTree h = refl
tree_fault f h = absurd cc

pub bad_tree : (r : Result (List ℕ) Fault) → is_bad_tree r ≡ true → r ≡ Err BadTree
bad_tree (Ok xs) h = absurd cc
bad_tree (Err f) h = ap (λ (g : Fault). Err g) (tree_fault f h)

chains_repeat : (m : MemoryMap) (n : ℕ) (xs : List ℕ) → IsCounted m n → IsListOf (IsAnswered m n Chain n) xs
    → IsListOf (Finds m ChainWithARepeat) xs
unfolding Finds
chains_repeat m n xs c h = list_same (IsAnswered m n Chain n) (Finds m ChainWithARepeat) xs h
    (λ a p. (
      p.object,
      (c.listed p.object a).1 (p.few, p.stands),
      (children_are_chains m p.object).repeats.0
          (bad_tree (children_of m p.object) p.yes),
    ))
    (λ a p. let l = (c.listed p.0 a).0 p.1 in record {
      object = p.0;
      few = l.0;
      stands = l.1;
      yes = ap is_bad_tree ((children_are_chains m p.0).repeats.1 p.2);
    })

property_fault : (f : Fault) → is_bad_property {A = List Property} (Err f) ≡ true → f ≡ BadProperty
property_fault BadProperty h = refl
property_fault f h = absurd cc

same_err : (f g : Fault) (r s : Result (List Property) Fault) → r ≡ Err f → s ≡ Err g → r ≡ s → f ≡ g
same_err f g r s d e h = cc

bad_property : (r : Result (List Property) Fault) → is_bad_property r ≡ true → r ≡ Err BadProperty
bad_property (Ok xs) h = absurd cc
bad_property (Err f) h = ap (λ (g : Fault). Err g) (property_fault f h)

lacks_by : (m : MemoryMap) (o : ℕ) (r : Result ℕ Fault) → HasBytes m → list_of m o ≡ r
    → (r >>= properties_at m) ≡ Err BadProperty → LacksList m o
lacks_by m o (Ok a) bytes e h = inr (a, e, (lists_are_read m a bytes).leaves.0 h)
lacks_by m o (Err f) bytes e h = inl (e ∙ ap (λ (g : Fault). Err g) (same_err f BadProperty _ _ refl refl h))

lacking : (m : MemoryMap) (o : ℕ) → HasBytes m → LacksList m o → properties_of m o ≡ Err BadProperty
unfolding properties_of
lacking m o bytes (inl e) = rw e refl
lacking m o bytes (inr p) = rw p.1 ((lists_are_read m p.0 bytes).leaves.1 p.2)

lack_of : (m : MemoryMap) (o : ℕ) → HasBytes m → properties_of m o ≡ Err BadProperty → LacksList m o
unfolding properties_of
lack_of m o bytes h = lacks_by m o (list_of m o) bytes refl h

properties_lack : (m : MemoryMap) (n : ℕ) (xs : List ℕ) → HasBytes m → IsCounted m n
    → IsListOf (IsAnswered m n Properties n) xs → IsListOf (Finds m PropertyList) xs
unfolding Finds
properties_lack m n xs bytes c h = list_same (IsAnswered m n Properties n) (Finds m PropertyList) xs h
    (λ a p. (
      p.object,
      (c.listed p.object a).1 (p.few, p.stands),
      lack_of m p.object bytes
          (bad_property (properties_of m p.object) p.yes),
    ))
    (λ a p. let l = (c.listed p.0 a).0 p.1 in record {
      object = p.0;
      few = l.0;
      stands = l.1;
      yes = ap is_bad_property (lacking m p.0 bytes p.2);
    })

-- what is found by a question
pub objects_found : (q : Question) (m : MemoryMap) (n : ℕ) (xs : List ℕ) → HasBytes m → IsCounted m n
    → IsListOf (IsAnswered m n q n) xs → IsListOf (Finds m (object_number q)) xs
objects_found Links m n xs bytes c h = object_links m n xs c h
objects_found Chain m n xs bytes c h = chains_repeat m n xs c h
objects_found Properties m n xs bytes c h = properties_lack m n xs bytes c h
