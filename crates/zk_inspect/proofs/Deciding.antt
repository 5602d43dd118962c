-- What a test decides.
use Rattle.std.proofs.Common.{◌≡◌, ◌∙◌, ◌⊎◌, inl, inr, ℕ, Bool, true, false, ◌||◌, Option, Some, None, refl, ap}
use Rattle.std.specs.Prelude.{◌↔◌, is_none}
use Rattle.std.proofs.lemmas.Bool.Decides.{Decides-like, Decides-or}

-- a test of what there is, which nothing passes
pub some_decides : {A : Type 0} (P : A → Type 0) (test : Option A → Bool) → test None ≡ false
    → ((a : A) → test (Some a) ≡ true ↔ P a) → (o : Option A) → test o ≡ true ↔ ((a : A) × (o ≡ Some a) × P a)
some_decides {A} P test none each None = (λ e. absurd cc, λ h. absurd (let q = h.1 in cc))
some_decides {A} P test none each (Some a) = (λ e. (a, refl, (each a).0 e), λ h. ap test h.1 ∙ (each h.0).1 h.2)

pub none_decides : (o : Option ℕ) → is_none o ≡ true ↔ (o ≡ None)
none_decides None = (λ e. refl, λ h. refl)
none_decides (Some n) = (λ e. absurd cc, λ h. absurd cc)

-- one of three tests
pub three_decide : {P Q R : Type 0} (a b c : Bool) → a ≡ true ↔ P → b ≡ true ↔ Q → c ≡ true ↔ R
    → (a || b || c) ≡ true ↔ (P ⊎ (Q ⊎ R))
three_decide {P} {Q} {R} a b c p q r = Decides-like _ join split (Decides-or _ _ (Decides-or _ _ p q) r)
  where
    join : (P ⊎ Q) ⊎ R → P ⊎ (Q ⊎ R)
    join (inl (inl h)) = inl h
    join (inl (inr h)) = inr (inl h)
    join (inr h) = inr (inr h)

    split : P ⊎ (Q ⊎ R) → (P ⊎ Q) ⊎ R
    split (inl h) = inl (inl h)
    split (inr (inl h)) = inl (inr h)
    split (inr (inr h)) = inr h
