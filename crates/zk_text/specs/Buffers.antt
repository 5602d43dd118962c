-- What a buffer of units holds.
use Rattle.std.specs.Prelude.{◌≡◌, ◌<◌, ℕ, List, [], ◌++◌, length, take}
use Rattle.std.proofs.Common.{◌∙◌, ap, sym, subst, append_assoc}
use Rattle.std.proofs.lemmas.List.{append-nil}
use Rattle.zk_text.specs.declared.unit.Unit.{Unit}

-- units came after those that it held
abbrev pub Holds : List Unit → List Unit → List Unit → Type 0
Holds held now us = now ≡ held ++ us

-- a first part of them did, up to its capacity, and more was to come
abbrev pub HoldsFirst : ℕ → List Unit → List Unit → List Unit → Type 0
HoldsFirst most held now us = (now ≡ take most (held ++ us)) × (most < length (held ++ us))

-- what is held after both parts
joined_after : (a b : List Unit) (s t : List Unit) → Holds a b s → b ++ t ≡ a ++ (s ++ t)
joined_after a b s t h = ap (λ (us : List Unit). us ++ t) h ∙ append_assoc a s t

pub holds_nothing : (a : List Unit) → Holds a a []
holds_nothing a = sym (append-nil a)

pub holds_twice : (a b c : List Unit) (s t : List Unit) → Holds a b s → Holds b c t → Holds a c (s ++ t)
holds_twice a b c s t h k = k ∙ joined_after a b s t h

pub holds_late : (most : ℕ) (a b c : List Unit) (s t : List Unit) → Holds a b s → HoldsFirst most b c t
    → HoldsFirst most a c (s ++ t)
holds_late most a b c s t h k = (
  k.0 ∙ ap (take most) (joined_after a b s t h),
  subst (λ (us : List Unit). most < length us)
      (joined_after a b s t h) k.1,
)
