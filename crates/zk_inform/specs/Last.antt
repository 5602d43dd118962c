-- The last object that facts tell.
use Rattle.std.specs.Prelude.{◌≡◌, ℕ, true, false, List, [], ◌∷◌, ◌++◌}
use Rattle.std.proofs.Common.{ap, ◌∙◌}
use Rattle.zk_inspect.specs.declared.fact.Fact.{Fact}
use Rattle.zk_inspect.specs.declared.fact.Fact.TheVariants as fact

-- the object that a fact is, or else one that was told before
abbrev pub object_or : Fact → ℕ → ℕ
object_or (fact.Object o) before = o
object_or _ before = before

-- the last object of some facts, or else one that was told before
abbrev pub last_object : ℕ → List Fact → ℕ
last_object before [] = before
last_object before (f ∷ fs) = last_object (object_or f before) fs

-- facts, and then others
pub last_of_two : (a b c : ℕ) (fs gs : List Fact) → b ≡ last_object a fs → c ≡ last_object b gs
    → c ≡ last_object a (fs ++ gs)
last_of_two a b c [] gs h k = k ∙ ap (λ (x : ℕ). last_object x gs) h
last_of_two a b c (f ∷ fs) gs h k = last_of_two (object_or f a) b c fs gs h k

pub never_late : (a : ℕ) (fs : List Fact) → false ≡ true → a ≡ last_object a fs
never_late a fs is = absurd cc
