-- The properties of a list, one after another.
use Rattle.std.specs.List.{flat_map}
use Rattle.std.proofs.Common.{arith, ◌≤◌, ◌-◌, length, get_or, map, take, drop, ◌≡◌, ◌∙◌, ℕ, zero, suc, List, [], ◌∷◌}
use Rattle.std.proofs.Common.{◌++◌, Some, None, append_assoc, append-nil, codes, refl, sym, ap}
use Rattle.std.specs.Prelude.{◌+◌, decimal, Result, Ok, Err, IsOk}
use Rattle.std.proofs.lemmas.List.{take_rest}
use Rattle.zk_mem.specs.Faults.{fault_number}
use Rattle.zk_mem.specs.Map.{MemoryMap, readable_end}
use Rattle.zk_tables.specs.Properties.{list_of, properties_of}
use Rattle.zk_mem.specs.Results.{◌>>=◌}
use Rattle.zk_mem.specs.declared.fault.Fault.{Fault}
use Rattle.zk_tables.specs.PropertyList.{properties_at, properties_from, property_at}
use Rattle.zk_tables.specs.declared.lists.Property.{Property}
use Rattle.zk_inspect.specs.PropertyBytes.{properties_by}
use Rattle.zk_inspect.specs.declared.fact.Fact.{Fact}
use Rattle.zk_inspect.specs.declared.fact.Fact.TheVariants as fact
use Rattle.zk_inspect.specs.ObjectLines.{properties_or_none, properties_text, property_text, separated}

-- a property after a comma
abbrev pub behind_comma : Property → List ℕ
behind_comma p = codes "," ++ property_text p

-- what was written of some properties, and what is left of them
pub record IsWritten {S A : Type 0} (wrote : S → S → List A → Type 0) (f : Property → List A) (m : MemoryMap)
    (old new : S) (all : List A) (n a : ℕ) : Type 0 where
  pub rest : List Property
  pub done : List A
  pub left : properties_from m n a ≡ Ok rest
  pub whole : all ≡ done ++ flat_map f rest
  pub given : wrote old new done

value_of : {A : Type 0} (r : Result A Fault) → IsOk r → (x : A) × (r ≡ Ok x)
value_of {A} (Ok x) h = (x, refl)
value_of {A} (Err f) h = absurd cc

pub begun : {S A : Type 0} (wrote : S → S → List A → Type 0) (f : Property → List A) (m : MemoryMap) (s : S)
    (n k a : ℕ) → wrote s s [] → k ≡ n → IsOk (properties_from m n a)
    → IsWritten wrote f m s s (flat_map f (properties_or_none (properties_from m n a))) k a
begun {S} {A} wrote f m s n k a nothing same h =
    let v = value_of (properties_from m n a) h in
    record {
      rest = v.0;
      done = [];
      left = ap (λ (i : ℕ). properties_from m i a) same ∙ v.1;
      whole = ap (λ (r : Result (List Property) Fault). flat_map f (properties_or_none r)) v.1;
      given = nothing;
    }

tail_of : (p : Property) (r : Result (List Property) Fault) (all : List Property)
    → (r >>= λ ps. Ok (p ∷ ps)) ≡ Ok all → (ps : List Property) × (r ≡ Ok ps) × (all ≡ p ∷ ps)
tail_of p (Ok ps) all h = (ps, refl, let e : p ∷ ps ≡ all = cc in sym e)
tail_of p (Err f) all h = absurd cc

same_ok : (xs ys : List Property) → (let r : Result (List Property) Fault = Ok xs in r) ≡ Ok ys → xs ≡ ys
same_ok xs ys h = cc

-- the first property of a list, and the others
pub first_one : (m : MemoryMap) (n a : ℕ) (p : Property) (all : List Property) → property_at m a ≡ Ok (Some p)
    → properties_from m (suc n) a ≡ Ok all
    → (ps : List Property) × (properties_from m n (p.address + p.length) ≡ Ok ps) × (all ≡ p ∷ ps)
unfolding properties_from
first_one m n a p all there h = tail_of p (properties_from m n (p.address + p.length)) all (rw there at h)

pub no_more : (m : MemoryMap) (n a : ℕ) (all : List Property) → property_at m a ≡ Ok None
    → properties_from m (suc n) a ≡ Ok all → all ≡ []
unfolding properties_from
no_more m n a all there h = sym (same_ok [] all (rw there at h))

pub no_fault : (m : MemoryMap) (n a : ℕ) (f : Fault) (all : List Property) → property_at m a ≡ Err f
    → properties_from m (suc n) a ≡ Ok all → ⊥
unfolding properties_from
no_fault m n a f all there h = let e : Err f ≡ Ok all = rw there at h in absurd cc

pub not_none : (m : MemoryMap) (a : ℕ) (all : List Property) → properties_from m zero a ≡ Ok all → ⊥
unfolding properties_from
not_none m a all h = absurd cc

-- one more property was written
pub written_more : {S A : Type 0} (wrote : S → S → List A → Type 0) (twice : (x y z : S) (s t : List A)
    → wrote x y s → wrote y z t → wrote x z (s ++ t)) (f : Property → List A) (m : MemoryMap) (x y z : S)
    (all : List A) (n k a : ℕ) (p : Property) → n ≡ suc k → property_at m a ≡ Ok (Some p)
    → IsWritten wrote f m x y all n a → wrote y z (f p) → IsWritten wrote f m x z all k (p.address + p.length)
written_more {S} {A} wrote twice f m x y z all n k a p is there h g =
    let first = first_one m k a p h.rest there (ap (λ (i : ℕ). properties_from m i a) (sym is) ∙ h.left) in
    record {
      rest = first.0;
      done = h.done ++ f p;
      left = first.1;
      whole = h.whole ∙ ap (λ (l : List Property). h.done ++ flat_map f l) first.2
          ∙ sym (append_assoc h.done (f p) (flat_map f first.0));
      given = twice x y z h.done (f p) h.given g;
    }

-- the list has ended
pub written_all : {S A : Type 0} (wrote : S → S → List A → Type 0) (f : Property → List A) (m : MemoryMap)
    (x y : S) (all : List A) (n k a : ℕ) → n ≡ suc k → property_at m a ≡ Ok None
    → IsWritten wrote f m x y all n a → wrote x y all
written_all {S} {A} wrote f m x y all n k a is there h =
    let none = no_more m k a h.rest there (ap (λ (i : ℕ). properties_from m i a) (sym is) ∙ h.left) in
    rw (h.whole ∙ ap (λ (l : List Property). h.done ++ flat_map f l) none ∙ append-nil h.done) h.given

pub never_faulty : {S A : Type 0} (wrote : S → S → List A → Type 0) (f : Property → List A) (m : MemoryMap)
    (x y : S) (all : List A) (n k a : ℕ) (fault : Fault) → n ≡ suc k → property_at m a ≡ Err fault
    → IsWritten wrote f m x y all n a → ⊥
never_faulty {S} {A} wrote f m x y all n k a fault is there h =
    no_fault m k a fault h.rest there (ap (λ (i : ℕ). properties_from m i a) (sym is) ∙ h.left)

pub never_without_end : {S A : Type 0} (wrote : S → S → List A → Type 0) (f : Property → List A) (m : MemoryMap)
    (x y : S) (all : List A) (n a : ℕ) → n ≡ zero → IsWritten wrote f m x y all n a → ⊥
never_without_end {S} {A} wrote f m x y all n a is h =
    not_none m a h.rest (ap (λ (i : ℕ). properties_from m i a) (sym is) ∙ h.left)

-- there is room for the end of a list
pub reaches : (m : MemoryMap) (n a : ℕ) → IsOk (properties_from m n a) → 1 ≤ n
unfolding properties_from
reaches m zero a h = absurd cc
reaches m (suc n) a h = omega arith

pub reaches_data : (m : MemoryMap) (a : ℕ) → IsOk (properties_at m a) → 1 ≤ readable_end m
unfolding properties_at
reaches_data m a h = reaches m (readable_end m) a h

-- ---- a list by its first property

pub rest_is_list : (m : MemoryMap) (a k : ℕ) (p : Property) → readable_end m ≡ suc k
    → property_at m a ≡ Ok (Some p) → IsOk (properties_at m a) → IsOk (properties_from m k (p.address + p.length))
unfolding properties_at
rest_is_list m a k p is there h =
    let v = value_of (properties_at m a) h in
    let f = first_one m k a p v.0 there (ap (λ (i : ℕ). properties_from m i a) (sym is) ∙ v.1) in
    rw f.1 refl

pub by_first : (m : MemoryMap) (a k : ℕ) (p : Property) → readable_end m ≡ suc k → property_at m a ≡ Ok (Some p)
    → IsOk (properties_at m a)
    → separated property_text (properties_or_none (properties_at m a)) ≡ property_text p
    ++ flat_map behind_comma (properties_or_none (properties_from m k (p.address + p.length)))
unfolding properties_at
by_first m a k p is there h =
    let v = value_of (properties_at m a) h in
    let f = first_one m k a p v.0 there (ap (λ (i : ℕ). properties_from m i a) (sym is) ∙ v.1) in
    ap (λ (r : Result (List Property) Fault). separated property_text (properties_or_none r)) v.1
    ∙ ap (λ (l : List Property). separated property_text l) f.2
    ∙ ap (λ (r : Result (List Property) Fault). property_text p ++ flat_map behind_comma (properties_or_none r))
    (sym f.1)

pub without_first : (m : MemoryMap) (a k : ℕ) → readable_end m ≡ suc k → property_at m a ≡ Ok None
    → IsOk (properties_at m a) → separated property_text (properties_or_none (properties_at m a)) ≡ codes "-"
unfolding properties_at
without_first m a k is there h =
    let v = value_of (properties_at m a) h in
    let none = no_more m k a v.0 there (ap (λ (i : ℕ). properties_from m i a) (sym is) ∙ v.1) in
    ap (λ (r : Result (List Property) Fault). separated property_text (properties_or_none r)) v.1
    ∙ ap (λ (l : List Property). separated property_text l) none

pub no_list_fault : (m : MemoryMap) (a k : ℕ) (f : Fault) → readable_end m ≡ suc k → property_at m a ≡ Err f
    → IsOk (properties_at m a) → ⊥
unfolding properties_at
no_list_fault m a k f is there h =
    let v = value_of (properties_at m a) h in
    no_fault m k a f v.0 there (ap (λ (i : ℕ). properties_from m i a) (sym is) ∙ v.1)

-- ---- the properties of an object

pub with_list : (m : MemoryMap) (o a : ℕ) → list_of m o ≡ Ok a → properties_of m o ≡ properties_at m a
unfolding properties_of
with_list m o a h = rw h refl

pub without_list : (m : MemoryMap) (o : ℕ) (f : Fault) → list_of m o ≡ Err f → properties_of m o ≡ Err f
unfolding properties_of
without_list m o f h = rw h refl

pub text_of_list : (r s : Result (List Property) Fault) → r ≡ s → IsOk s
    → properties_text r ≡ separated property_text (properties_or_none s)
unfolding properties_text
text_of_list r (Ok ps) e h = rw e refl
text_of_list r (Err f) e h = absurd cc

pub text_of_fault : (r : Result (List Property) Fault) (f : Fault) → r ≡ Err f → properties_text r ≡ codes "! F"
    ++ decimal (fault_number f)
unfolding properties_text
text_of_fault r f e = rw e refl

-- each of them as a fact
abbrev pub one_property : ℕ → Property → List Fact
one_property o p = fact.Property o p ∷ []

pub each_property : (o : ℕ) (ps : List Property) → flat_map (one_property o) ps ≡ map (fact.Property o) ps
each_property o [] = refl
each_property o (p ∷ ps) = ap (λ (l : List Fact). fact.Property o p ∷ l) (each_property o ps)

pub facts_of_list : (o : ℕ) (r s : Result (List Property) Fault) → r ≡ s → IsOk s
    → properties_by o r ≡ map (fact.Property o) (properties_or_none s)
unfolding properties_by
facts_of_list o r (Ok ps) e h = rw e refl
facts_of_list o r (Err f) e h = absurd cc

pub facts_of_fault : (o : ℕ) (r : Result (List Property) Fault) (f : Fault) → r ≡ Err f
    → properties_by o r ≡ fact.NoProperties o f ∷ []
unfolding properties_by
facts_of_fault o r f e = rw e refl

-- the first of some things with commas between them, and the others
pub first_separated : {A : Type 0} (f : A → List ℕ) (xs : List A) (d : A) → 1 ≤ length xs
    → separated f xs ≡ f (get_or xs 0 d) ++ flat_map (λ y. codes "," ++ f y) (take (length xs - 1) (drop 1 xs))
first_separated {A} f [] d le = absurd (omega arith)
first_separated {A} f (x ∷ xs) d le = rw take_rest refl
