-- What a loop over lines has made, with one line more.
use Rattle.std.specs.Prelude.{option_to_list}
use Rattle.std.specs.List.{filter_map, list_any}
use Rattle.std.proofs.Common.{◌≡◌, List, [], ◌∷◌, ◌++◌, map, Option, Some, None, ℕ, ◌<◌, ◌+◌, length, get_or, take, sym}
use Rattle.std.proofs.Common.{refl, Bool, false}
use Rattle.std.proofs.lemmas.List.{map-append, take_more}
use Rattle.std.proofs.lemmas.List.Elements.{filter_map-append}
use Rattle.std.proofs.lemmas.List.Folds.{list_any-append}

picked_one : {X Y : Type 0} (h : X → Option Y) (x : X) (o : Option Y) → h x ≡ o
    → filter_map h (x ∷ []) ≡ option_to_list o
picked_one {X} {Y} h x None e = rw e refl
picked_one {X} {Y} h x (Some y) e = rw e refl

pub picked_on : {A X Y : Type 0} (v : A → X) (h : X → Option Y) (xs : List A) (x : A)
    → filter_map h (map v (xs ++ x ∷ [])) ≡ filter_map h (map v xs) ++ option_to_list (h (v x))
picked_on {A} {X} {Y} v h xs x =
    rw (map-append v xs (x ∷ []), filter_map-append h (map v xs) (v x ∷ []), picked_one h (v x) (h (v x)) refl) refl

pub none_on : {A X : Type 0} (v : A → X) (p : X → Bool) (xs : List A) (x : A) → list_any p (map v xs) ≡ false
    → p (v x) ≡ false → list_any p (map v (xs ++ x ∷ [])) ≡ false
none_on {A} {X} v p xs x h e = rw (map-append v xs (x ∷ []), list_any-append p (map v xs) (v x ∷ []), h, e) refl

-- what is picked from a slice, with one item more
pub picked_more : {X Y : Type 0} (h : X → Option Y) (xs : List X) (i : ℕ) (d : X) (found : Option Y)
    (before after : List Y) → i < length xs → before ≡ filter_map h (take i xs) → found ≡ h (get_or xs i d)
    → after ≡ before ++ option_to_list found
    → after ≡ filter_map h (take (i + 1) xs)
picked_more {X} {Y} h xs i d found before after lt old new done =
    rw (
      done,
      old,
      take_more xs i d lt,
      filter_map-append h (take i xs) (get_or xs i d ∷ []),
      picked_one h (get_or xs i d) found (sym new),
    ) refl
