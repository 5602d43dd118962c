-- The findings of all numbers, after one another.
use Rattle.std.proofs.Common.{◌≡◌, ◌∙◌, ℕ, List, [], ◌∷◌, ◌++◌, ◌+◌, ◌<◌, inl, inr, length, get_or, take, map}
use Rattle.std.proofs.Common.{append_assoc, ap, subst, sym}
use Rattle.std.proofs.lemmas.List.{take_more, append-nil}
use Rattle.std.specs.List.{Contains, flat_map}
use Rattle.zk_mem.specs.Map.{MemoryMap}
use Rattle.zk_inspect.specs.declared.check.finding.Finding.{Finding}
use Rattle.zk_inspect.specs.declared.check.finding.Number.{Number}
use Rattle.zk_inspect.specs.Findings.{AreFindings, Finds, at_address, numbers}
use Rattle.zk_inspect.specs.Lists.{IsListOf}
use Rattle.zk_inspect.specs.Parts.{Adds, AddsAll, none, more}
use Rattle.zk_inspect.proofs.FindingLaw.{each, first_rest, none_in}
use Rattle.zk_inspect.proofs.OneList.{one_list}

-- the addresses of one of the numbers
of_number : (m : MemoryMap) (ns : List Number) (n : Number) (old new : List Finding) → AddsAll m ns old new
    → Contains ns n → (xs : List ℕ) × IsListOf (Finds m n) xs
of_number m [] n old _ none c = absurd (none_in n c)
of_number m (k ∷ ns) n old new (more h rest) c = elim (first_rest k n ns c) [
  | inl e ↦ (h.addresses, subst (λ (j : Number). IsListOf (Finds m j) h.addresses) e h.exact)
  | inr r ↦ of_number m ns n _ new rest r
]

-- a number has one list of them, so all findings are those at any such lists
joined : (m : MemoryMap) (addresses : Number → List ℕ) → ((n : Number) → IsListOf (Finds m n) (addresses n))
    → (ns : List Number) (old new : List Finding) → AddsAll m ns old new
    → new ≡ old ++ flat_map (λ n. map (at_address n) (addresses n)) ns
joined m addresses exact [] old _ none = sym (append-nil old)
joined m addresses exact (n ∷ ns) old new (more h rest) =
    let behind = flat_map (λ n. map (at_address n) (addresses n)) ns in
    let same = one_list (Finds m n) h.addresses (addresses n) h.exact (exact n) in
    joined m addresses exact ns _ new rest
    ∙ ap (λ (fs : List Finding). fs ++ behind) (h.joined ∙ ap (λ (xs : List ℕ). old ++ map (at_address n) xs) same)
    ∙ append_assoc old (map (at_address n) (addresses n)) behind

-- one number more
behind_all : (m : MemoryMap) (ns : List Number) (n : Number) (a b c : List Finding) → AddsAll m ns a b
    → Adds m n b c → AddsAll m (ns ++ n ∷ []) a c
behind_all m [] n a _ c none h = more h none
behind_all m (k ∷ ns) n a b c (more g rest) h = more g (behind_all m ns n _ b c rest h)

pub one_more : (m : MemoryMap) (ns : List Number) (i : ℕ) (d : Number) (a b c : List Finding) → i < length ns
    → AddsAll m (take i ns) a b → Adds m (get_or ns i d) b c → AddsAll m (take (i + 1) ns) a c
one_more m ns i d a b c lt before h = subst (λ (ls : List Number). AddsAll m ls a c) (sym (take_more ns i d lt))
    (behind_all m (take i ns) (get_or ns i d) a b c before h)

pub all_found : (m : MemoryMap) (old new : List Finding) → old ≡ [] → AddsAll m numbers old new → AreFindings m new
all_found m old new e h =
    let addresses : Number → List ℕ = λ n. (of_number m numbers n old new h (each n)).0 in
    let exact : (n : Number) → IsListOf (Finds m n) (addresses n) = λ n. (of_number m numbers n old new h (each n)).1 in
    record {
      addresses = addresses;
      exact = exact;
      joined = joined m addresses exact numbers old new h
          ∙ ap (λ (fs : List Finding). fs ++ flat_map (λ n. map (at_address n) (addresses n)) numbers) e;
    }
