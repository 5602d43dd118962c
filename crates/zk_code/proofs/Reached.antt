-- What is reached lies in each set that has the roots and all ways on.
use Rattle.std.proofs.Common.{◌≡◌, ◌∙◌, ℕ, true, List, ◌∷◌, [], zero, refl, sym, subst, inl, inr, arith}
use Rattle.std.specs.List.{Contains}
use Rattle.std.proofs.lemmas.List.Elements.{Contains-push_cases}
use Rattle.zk_mem.specs.Map.{MemoryMap}
use Rattle.zk_code.specs.Reach.{IsReachedFrom, IsClosed, ReachIsLeast}
use Rattle.zk_code.specs.Reach.IsReachedFrom.{Root, Behind, Branches, Jumps, Calls}

pub in_closed : (m : MemoryMap) (roots : List ℕ) (P : ℕ → Type 0) → IsClosed m roots P → (a : ℕ)
    → IsReachedFrom m roots a → P a
in_closed m roots P k _ (Root a h) = k.roots a h
in_closed m roots P k _ (Behind a b i r s g) = k.behind a b i (in_closed m roots P k a r) s g
in_closed m roots P k _ (Branches a b c i r s g) = k.branches a b c i (in_closed m roots P k a r) s g
in_closed m roots P k _ (Jumps a b c i r s g) = k.jumps a b c i (in_closed m roots P k a r) s g
in_closed m roots P k _ (Calls a b e c i r s g h) = k.calls a b e c i (in_closed m roots P k a r) s g h

pub is_closed : (m : MemoryMap) (roots : List ℕ) → IsClosed m roots (IsReachedFrom m roots)
is_closed m roots = record { roots = Root; behind = Behind; branches = Branches; jumps = Jumps; calls = Calls }

pub reach_is_least : ReachIsLeast
reach_is_least m roots = (is_closed m roots, λ is_in. in_closed m roots (λ a. is_in a ≡ true))

-- a list of one has that one, and no other
pub has_one : (a : ℕ) → Contains (a ∷ []) a
has_one a = (zero, omega arith, refl)

pub only_one : (P : ℕ → Type 0) (a : ℕ) → P a → (b : ℕ) → Contains (a ∷ []) b → P b
only_one P a p b h =
    elim (Contains-push_cases [] a b h) [ inl old ↦ absurd (let lt = old.1 in omega arith) | inr e ↦ subst P e p ]
