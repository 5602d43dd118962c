-- Looking for a name in a file.
use Rattle.std.proofs.Common.{◌≡◌, ◌≤◌, ◌<◌, ◌+◌, ◌-◌, ℕ, suc, true, false, List, length, take, drop, get_or, Option}
use Rattle.std.proofs.Common.{Some, None, drop-cons, add-one, refl, ap}
use Rattle.std.proofs.lemmas.List.{drop_all, take_rest}
use Rattle.zk_inspect.specs.Ifid.{first_name, first_or, is_name_byte, name_in_front, name_length}

pub length_on : (bytes : List ℕ) (i : ℕ) → i < length bytes → is_name_byte (get_or bytes i 0) ≡ true
    → name_length (drop i bytes) ≡ suc (name_length (drop (i + 1) bytes))
unfolding name_length
length_on bytes i h letter = rw (drop-cons bytes i 0, add-one i, letter) (add-one (name_length (drop (suc i) bytes)))

pub length_stops : (bytes : List ℕ) (i : ℕ) → i < length bytes → is_name_byte (get_or bytes i 0) ≡ false
    → name_length (drop i bytes) ≡ 0
unfolding name_length
length_stops bytes i h other = rw (drop-cons bytes i 0, other) refl

pub length_ends : (bytes : List ℕ) (i : ℕ) → length bytes ≤ i → name_length (drop i bytes) ≡ 0
unfolding name_length
length_ends bytes i h = rw (drop_all i bytes h) refl

pub first_on : (file : List ℕ) (i : ℕ) → i < length file → name_in_front (take (length file - i) (drop i file))
    ≡ None → first_name (drop i file) ≡ first_name (drop (i + 1) file)
unfolding first_name
first_on file i h none =
    rw (drop-cons file i 0, add-one i) (ap (λ (o : Option (List ℕ)). first_or o (first_name (drop (suc i) file)))
    (rw (take_rest file i, drop-cons file i 0) at none))

pub first_here : (file name : List ℕ) (i : ℕ) → i < length file
    → name_in_front (take (length file - i) (drop i file)) ≡ Some name → first_name (drop i file) ≡ Some name
unfolding first_name
first_here file name i h some =
    rw (drop-cons file i 0) (ap (λ (o : Option (List ℕ)). first_or o (first_name (drop (suc i) file)))
    (rw (take_rest file i, drop-cons file i 0) at some))

pub first_ends : (file : List ℕ) (i : ℕ) → length file ≤ i → first_name (drop i file) ≡ None
unfolding first_name
first_ends file i h = rw (drop_all i file h) refl

pub ruleset of_name_length = (length_on, length_stops, length_ends)
