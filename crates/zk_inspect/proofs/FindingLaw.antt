-- What the findings of a story are, all together.
use Rattle.std.proofs.Common.{◌≡◌, ◌∙◌, ℕ, zero, suc, ◌+◌, ◌≤◌, ◌⊎◌, inl, inr, List, [], ◌∷◌, ◌++◌, map, refl, sym, ap}
use Rattle.std.proofs.Common.{ap₂, subst, arith}
use Rattle.std.specs.Prelude.{◌↔◌}
use Rattle.std.specs.List.{Contains, flat_map}
use Rattle.std.specs.List.Sorted.{IsStrictlyIncreasing}
use Rattle.std.proofs.lemmas.List.Elements.{Contains-append_left, Contains-append_right, Contains-append_cases}
use Rattle.zk_mem.specs.Map.{MemoryMap}
use Rattle.zk_inspect.specs.declared.check.finding.Finding.{Finding}
use Rattle.zk_inspect.specs.declared.check.finding.Number.{Number}
use Rattle.zk_inspect.specs.declared.check.finding.Number.TheVariants.{Checksum, Length, DictionaryOrder}
use Rattle.zk_inspect.specs.declared.check.finding.Number.TheVariants.{DictionaryExtent, ObjectLinks, ChainWithARepeat}
use Rattle.zk_inspect.specs.declared.check.finding.Number.TheVariants.{PropertyList, TextPastTheEnd, NestedAbbreviation}
use Rattle.zk_inspect.specs.declared.check.finding.Number.TheVariants.{UndecodableCode, TargetOutOfTheStory}
use Rattle.zk_inspect.specs.declared.check.finding.Number.TheVariants.{CodeBelowTheStaticBase}
use Rattle.zk_inspect.specs.Findings.{AreFindings, Finds, at_address, numbers}
use Rattle.zk_inspect.specs.FindingLaws.{FindingsAreAll, OneListOfFindings, Precedes}
use Rattle.zk_inspect.specs.FindingLines.{finding_number}
use Rattle.zk_inspect.proofs.OneList.{behind, behind_above, first_or, one_list}

-- ---- members

in_first : {X : Type 0} (x : X) (xs : List X) → Contains (x ∷ xs) x
in_first x xs = (0, omega arith, refl)

in_rest : {X : Type 0} (x y : X) (xs : List X) → Contains xs y → Contains (x ∷ xs) y
in_rest x y xs (k, lt, e) = (suc k, omega arith, e)

pub none_in : {X : Type 0} (x : X) → Contains [] x → ⊥
none_in x (k, lt, e) = omega arith

only : {X : Type 0} (x y : X) → Contains (x ∷ []) y → x ≡ y
only x y (zero, lt, e) = e
only x y (suc k, lt, e) = absurd (omega arith)

pub first_rest : {X : Type 0} (x y : X) (xs : List X) → Contains (x ∷ xs) y → (x ≡ y) ⊎ Contains xs y
first_rest x y xs (zero, lt, e) = inl e
first_rest x y xs (suc k, lt, e) = inr (k, omega arith, e)

-- a finding at one of some addresses
pub at_one : (n : Number) (xs : List ℕ) (f : Finding) → Contains (map (at_address n) xs) f
    → (f.number ≡ n) × Contains xs f.address
at_one n [] f k = absurd (none_in f k)
at_one n (x ∷ xs) f k = elim (first_rest (at_address n x) f (map (at_address n) xs) k) [
  | inl e ↦ (
    sym (ap (λ (g : Finding). g.number) e),
    subst (λ (a : ℕ). Contains (x ∷ xs) a)
        (ap (λ (g : Finding). g.address) e) (in_first x xs),
  )
  | inr r ↦ (let p = at_one n xs f r in (p.0, in_rest x f.address xs p.1))
]

one_at : (n : Number) (xs : List ℕ) (a : ℕ) → Contains xs a → Contains (map (at_address n) xs) (at_address n a)
one_at n [] a k = absurd (none_in a k)
one_at n (x ∷ xs) a k = elim (first_or x a xs k) [
  | inl e ↦ subst (λ (b : ℕ). Contains (at_address n x ∷ map (at_address n) xs) (at_address n b)) e
      (in_first (at_address n x) (map (at_address n) xs))
  | inr r ↦ in_rest (at_address n x) (at_address n a) (map (at_address n) xs) (one_at n xs a r)
]

-- the findings of some numbers
abbrev behind_another : (Number → List ℕ) → List Number → List Finding
behind_another addresses ns = flat_map (λ n. map (at_address n) (addresses n)) ns

record IsOf (addresses : Number → List ℕ) (ns : List Number) (f : Finding) : Type 0 where
  number : Contains ns f.number
  address : Contains (addresses f.number) f.address

of_number : (addresses : Number → List ℕ) (n : Number) (ns : List Number) (f : Finding)
    → (f.number ≡ n) × Contains (addresses n) f.address → IsOf addresses (n ∷ ns) f
of_number addresses n ns f p = record {
  number = subst (λ (k : Number). Contains (n ∷ ns) k) (sym p.0) (in_first n ns);
  address = subst (λ (k : Number). Contains (addresses k) f.address) (sym p.0) p.1;
}

is_of : (addresses : Number → List ℕ) (ns : List Number) (f : Finding) → Contains (behind_another addresses ns) f
    → IsOf addresses ns f
is_of addresses [] f k = absurd (none_in f k)
is_of addresses (n ∷ ns) f k =
    elim (Contains-append_cases (map (at_address n) (addresses n)) (behind_another addresses ns) f k) [
      | inl h ↦ of_number addresses n ns f (at_one n (addresses n) f h)
      | inr r ↦ (let p = is_of addresses ns f r in record {
        number = in_rest n f.number ns p.number;
        address = p.address;
      })
    ]

of_it : (addresses : Number → List ℕ) (ns : List Number) (n : Number) (a : ℕ) → Contains ns n
    → Contains (addresses n) a → Contains (behind_another addresses ns) (at_address n a)
of_it addresses [] n a k h = absurd (none_in n k)
of_it addresses (x ∷ ns) n a k h = elim (first_rest x n ns k) [
  | inl e ↦ Contains-append_left (map (at_address x) (addresses x)) (behind_another addresses ns) (at_address n a)
      (subst (λ (y : Number). Contains (map (at_address y) (addresses y)) (at_address n a)) (sym e)
      (one_at n (addresses n) a h))
  | inr r ↦ Contains-append_right (map (at_address x) (addresses x)) (behind_another addresses ns)
      (at_address n a) (of_it addresses ns n a r h)
]

pub each : (n : Number) → Contains numbers n
each Checksum = (0, omega arith, refl)
each Length = (1, omega arith, refl)
each DictionaryOrder = (2, omega arith, refl)
each DictionaryExtent = (3, omega arith, refl)
each ObjectLinks = (4, omega arith, refl)
each ChainWithARepeat = (5, omega arith, refl)
each PropertyList = (6, omega arith, refl)
each TextPastTheEnd = (7, omega arith, refl)
each NestedAbbreviation = (8, omega arith, refl)
each UndecodableCode = (9, omega arith, refl)
each TargetOutOfTheStory = (10, omega arith, refl)
each CodeBelowTheStaticBase = (11, omega arith, refl)

-- ---- the order

-- each comes before those after it
abbrev InOrder : List Finding → Type 0
InOrder [] = Unit {0}
InOrder (f ∷ fs) = ((g : Finding) → Contains fs g → Precedes f g) × InOrder fs

order_append : (fs gs : List Finding) → InOrder fs → InOrder gs
    → ((f g : Finding) → Contains fs f → Contains gs g → Precedes f g) → InOrder (fs ++ gs)
order_append [] gs h k across = k
order_append (f ∷ fs) gs h k across = (
  λ g c. elim (Contains-append_cases fs gs g c) [ inl l ↦ h.0 g l | inr r ↦ across f g (in_first f fs) r ],
  order_append fs gs h.1 k (λ e g c d. across e g (in_rest f e fs c) d),
)

order_map : (n : Number) (xs : List ℕ) → IsStrictlyIncreasing xs → InOrder (map (at_address n) xs)
order_map n [] up = tt
order_map n (x ∷ xs) up = (
  λ g c. (let p = at_one n xs g c in inr (sym p.0, behind_above x g.address xs up p.1)),
  order_map n xs (behind x xs up),
)

-- the ranks of numbers rise from one on
abbrev RisesFrom : ℕ → List Number → Type 0
RisesFrom b [] = Unit {0}
RisesFrom b (n ∷ ns) = (b ≤ finding_number n) × RisesFrom (finding_number n + 1) ns

rises_to : (b : ℕ) (ns : List Number) (k : Number) → RisesFrom b ns → Contains ns k → b ≤ finding_number k
rises_to b [] k h c = absurd (none_in k c)
rises_to b (n ∷ ns) k h c = elim (first_rest n k ns c) [
  | inl e ↦ subst (λ (j : Number). b ≤ finding_number j) e h.0
  | inr r ↦ (let rest = rises_to (finding_number n + 1) ns k h.1 r in let low = h.0 in omega arith)
]

order_numbers : (addresses : Number → List ℕ) → ((n : Number) → IsStrictlyIncreasing (addresses n))
    → (b : ℕ) (ns : List Number) → RisesFrom b ns → InOrder (behind_another addresses ns)
order_numbers addresses up b [] h = tt
order_numbers addresses up b (n ∷ ns) h = order_append (map (at_address n) (addresses n)) (behind_another addresses ns)
    (order_map n (addresses n) (up n))
    (order_numbers addresses up (finding_number n + 1) ns h.1)
    (λ f g c d.
    (let p = at_one n (addresses n) f c in
    let q = is_of addresses ns g d in
    let high = rises_to (finding_number n + 1) ns g.number h.1 q.number in
    let same : finding_number f.number ≡ finding_number n = ap finding_number p.0 in
    inl (omega arith)))

rises : RisesFrom 1 numbers
rises = (
  omega arith,
  (
    omega arith,
    (
      omega arith,
      (
        omega arith,
        (
          omega arith,
          (omega arith, (omega arith, (omega arith, (omega arith, (omega arith, (omega arith, (omega arith, tt))))))),
        ),
      ),
    ),
  ),
)

order_behind : (before fs : List Finding) → InOrder (before ++ fs) → InOrder fs
order_behind [] fs h = h
order_behind (f ∷ before) fs h = order_behind before fs h.1

order_two : (before between behind_them : List Finding) (f g : Finding)
    → InOrder (before ++ f ∷ (between ++ g ∷ behind_them)) → Precedes f g
order_two before between behind_them f g h =
    (order_behind before (f ∷ (between ++ g ∷ behind_them)) h).0 g
    (Contains-append_right between (g ∷ behind_them) g (in_first g behind_them))

-- ---- the laws

finding_exact : (m : MemoryMap) (fs : List Finding) → AreFindings m fs → (n : Number) (a : ℕ)
    → Contains fs (at_address n a) ↔ Finds m n a
finding_exact m fs h n a = (
  λ c. (let p = is_of h.addresses numbers (at_address n a)
      (subst (λ (l : List Finding). Contains l (at_address n a)) h.joined c) in (h.exact n).listed a p.address),
  λ p. subst (λ (l : List Finding). Contains l (at_address n a)) (sym h.joined)
      (of_it h.addresses numbers n a (each n) ((h.exact n).whole a p)),
)

no_findings : (m : MemoryMap) (fs : List Finding)
    → ((n : Number) (a : ℕ) → Contains fs (at_address n a) ↔ Finds m n a)
    → ((n : Number) (a : ℕ) → Finds m n a → ⊥) → fs ≡ []
no_findings m [] h none = refl
no_findings m (f ∷ fs) h none = absurd (none f.number f.address ((h f.number f.address).0 (in_first f fs)))

pub findings_are_all : FindingsAreAll
findings_are_all m fs h = record {
  exact = finding_exact m fs h;
  ascending = λ before between behind_them f g e. order_two before between behind_them f g
      (subst InOrder (sym h.joined ∙ e) (order_numbers h.addresses (λ n. (h.exact n).ascending) 1 numbers rises));
  none = (
    λ e n a p. none_in (at_address n a) (subst (λ (l : List Finding). Contains l (at_address n a)) e
        ((finding_exact m fs h n a).1 p)),
    no_findings m fs (finding_exact m fs h),
  );
}

same_behind : (f g : Number → List ℕ) (ns : List Number) → ((n : Number) → f n ≡ g n)
    → behind_another f ns ≡ behind_another g ns
same_behind f g [] h = refl
same_behind f g (n ∷ ns) h =
    ap₂ (λ (x y : List Finding). x ++ y) (ap (λ (xs : List ℕ). map (at_address n) xs) (h n)) (same_behind f g ns h)

pub one_list_of_findings : OneListOfFindings
one_list_of_findings m fs gs h k = h.joined ∙ same_behind h.addresses k.addresses numbers
    (λ n. one_list (Finds m n) (h.addresses n) (k.addresses n) (h.exact n) (k.exact n)) ∙ sym k.joined
