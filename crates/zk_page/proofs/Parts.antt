-- Texts that are made of a list, one element after another.
use Rattle.std.proofs.Common.{◌≡◌, ◌∙◌, ℕ, zero, suc, ◌+◌, ◌<◌, List, [], ◌∷◌, ◌++◌, length, take, get_or, arith}
use Rattle.std.proofs.Common.{ap, append_assoc, append-nil, sym}
use Rattle.std.specs.List.{flat_map}

next : {X : Type 0} (f : X → List ℕ) (xs : List X) (i : ℕ) (d : X) → i < length xs
    → flat_map f (take (suc i) xs) ≡ flat_map f (take i xs) ++ f (get_or xs i d)
next {X} f [] i d l = absurd (omega arith)
next {X} f (x ∷ xs) zero d l = append-nil (f x)
next {X} f (x ∷ xs) (suc i) d l =
    ap (λ r. f x ++ r) (next f xs i d (omega (arith, l))) ∙ sym (append_assoc (f x) _ _)

pub one_more : {X : Type 0} (f : X → List ℕ) (xs : List X) (i : ℕ) (d : X) → i < length xs
    → flat_map f (take (i + 1) xs) ≡ flat_map f (take i xs) ++ f (get_or xs i d)
one_more {X} f xs i d l = let e : i + 1 ≡ suc i = omega arith in rw e (next f xs i d l)

-- five texts, one added behind the other
pub in_order : (u v w x y z a b c d e : List ℕ) → u ≡ [] → v ≡ u ++ a → w ≡ v ++ b → x ≡ w ++ c → y ≡ x ++ d
    → z ≡ y ++ e → z ≡ a ++ (b ++ (c ++ (d ++ e)))
in_order u v w x y z a b c d e p q r s t k =
    k ∙ ap (λ (l : List ℕ). l ++ e) (t ∙ ap (λ (l : List ℕ). l ++ d) (s ∙ ap (λ (l : List ℕ). l ++ c)
    (r ∙ ap (λ (l : List ℕ). l ++ b) (q ∙ ap (λ (l : List ℕ). l ++ a) p))))
    ∙ append_assoc ((a ++ b) ++ c) d e ∙ append_assoc (a ++ b) c (d ++ e) ∙ append_assoc a b (c ++ (d ++ e))
