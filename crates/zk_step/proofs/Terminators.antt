-- Codes of a table of terminating characters, one after another.
use Rattle.std.proofs.Common.{◌≡◌, ◌∙◌, ℕ, ◌+◌, ◌<◌, ◌≤◌, length, true, false, List, [], ◌∷◌, drop, get_or, drop-cons}
use Rattle.std.proofs.Common.{add-one, refl}
use Rattle.std.specs.Prelude.{◌==◌}
use Rattle.std.proofs.lemmas.Bool.{ne_eqb}
use Rattle.std.proofs.lemmas.List.{drop_all}
use Rattle.zk_step.specs.Terminating.{is_among, stands_for, up_to_zero}

-- a 0 ends them
pub ended : (key : ℕ) (bytes : List ℕ) (i : ℕ) → i < length bytes → get_or bytes i 0 ≡ 0
    → is_among key bytes ≡ is_among key (drop i bytes) → false ≡ is_among key bytes
unfolding up_to_zero
ended key bytes i lt zero so_far = rw so_far (rw (drop-cons bytes i 0, zero) refl)

-- one is found
pub found : (key : ℕ) (bytes : List ℕ) (i : ℕ) → i < length bytes → (get_or bytes i 0 ≡ 0 → ⊥)
    → stands_for key (get_or bytes i 0) ≡ true → is_among key bytes ≡ is_among key (drop i bytes)
    → true ≡ is_among key bytes
unfolding up_to_zero
found key bytes i lt other stands so_far = rw so_far (rw (drop-cons bytes i 0, ne_eqb _ _ other, stands) refl)

-- another is passed over
pub passed_over : (key : ℕ) (bytes : List ℕ) (i : ℕ) → i < length bytes → (get_or bytes i 0 ≡ 0 → ⊥)
    → stands_for key (get_or bytes i 0) ≡ false → is_among key bytes ≡ is_among key (drop i bytes)
    → is_among key bytes ≡ is_among key (drop (i + 1) bytes)
unfolding up_to_zero
passed_over key bytes i lt other stands so_far =
    so_far ∙ rw (drop-cons bytes i 0, add-one i, ne_eqb _ _ other, stands) refl

-- there are no more
pub none_left : (key : ℕ) (bytes : List ℕ) (i : ℕ) → length bytes ≤ i
    → is_among key bytes ≡ is_among key (drop i bytes) → false ≡ is_among key bytes
unfolding up_to_zero
none_left key bytes i past so_far = rw (so_far, drop_all i bytes past) refl
