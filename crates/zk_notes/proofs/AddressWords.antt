-- Words that are addresses.
use Rattle.std.specs.List.{list_all}
use Rattle.std.specs.Prelude.{nat_le, nat_lt}
use Rattle.std.specs.Result.{result_ok}
use Rattle.std.specs.Str.Parse.{AllDigits, ParsesUnsigned, digits_value, without_leading_plus}
use Rattle.std.proofs.Common.{◌≡◌, ℕ, ◌<◌, ◌≤◌, ◌^◌, ◌&&◌, ◌==◌, Bool, true, false, List, [], ◌∷◌, length, Result, Ok}
use Rattle.std.proofs.Common.{Err, None, refl, ap, ◌∙◌, subst, arith}
use Rattle.std.proofs.lemmas.Bool.Decides.{nat_tests}
use Rattle.zk_notes.specs.Addresses.{address_of, is_hex_digit}

pub both : (a b : Bool) → (a && b) ≡ true → (a ≡ true) × (b ≡ true)
both true b h = (refl, h)
both false b h = absurd cc

all_digits : (bs : List ℕ) → list_all is_hex_digit bs ≡ true → AllDigits 16 bs
all_digits [] h = tt
all_digits (c ∷ cs) h =
    let b = both (is_hex_digit c) (list_all is_hex_digit cs) h in
    (grind (arith, nat_tests, b.0), all_digits cs b.1)

plus_is_none : (c : ℕ) (v : Bool) → (c == 43) ≡ v → is_hex_digit c ≡ true → v ≡ false
plus_is_none c false e h = refl
plus_is_none c true e h =
    let n : c ≡ 43 = grind (arith, nat_tests) in
    let f : false ≡ true = subst (λ k. is_hex_digit k ≡ true) n h in
    absurd cc

no_plus : (bs : List ℕ) → list_all is_hex_digit bs ≡ true → without_leading_plus bs ≡ bs
no_plus [] h = refl
no_plus (c ∷ cs) h =
    let b = both (is_hex_digit c) (list_all is_hex_digit cs) h in
    rw (plus_is_none c (c == 43) refl b.0) refl

pub short_is_none : (bs : List ℕ) → length bs < 5 → address_of bs ≡ None
unfolding address_of
short_is_none bs h = let e : nat_le 5 (length bs) ≡ false = grind (arith, nat_tests) in rw e refl

no_more : (a b : Bool) → ((a && false) && b) ≡ false
no_more true b = refl
no_more false b = refl

pub other_is_none : (bs : List ℕ) → list_all is_hex_digit bs ≡ false → address_of bs ≡ None
unfolding address_of
other_is_none bs h = rw (h, no_more (nat_le 5 (length bs)) (nat_lt (digits_value 16 bs) (2 ^ 32))) refl

too_large : (bs : List ℕ) (v : Bool) → nat_lt (digits_value 16 bs) (2 ^ 32) ≡ v
    → (digits_value 16 bs < 2 ^ 32 → ⊥) → v ≡ false
too_large bs false e n = refl
too_large bs true e n = let s : digits_value 16 bs < 2 ^ 32 = grind (arith, nat_tests) in absurd (n s)

pub read_is_address : {E : Type 0} (bs : List ℕ) (r : Result ℕ E) → 5 ≤ length bs
    → list_all is_hex_digit bs ≡ true → ParsesUnsigned 32 16 bs r → result_ok r ≡ address_of bs
unfolding address_of
read_is_address {E} bs (Ok n) h d p =
    let q : n ≡ digits_value 16 bs = p.1 ∙ ap (digits_value 16) (no_plus bs d) in
    let s : digits_value 16 bs < 2 ^ 32 = subst (λ (w : List ℕ). digits_value 16 w < 2 ^ 32) (no_plus bs d) p.0.1 in
    let five : nat_le 5 (length bs) ≡ true = grind (arith, nat_tests) in
    let t : nat_lt (digits_value 16 bs) (2 ^ 32) ≡ true = grind (arith, nat_tests) in
    rw (d, five, t, q) refl
read_is_address {E} bs (Err e) h d p =
    let some : 0 < length bs = omega arith in
    let n : digits_value 16 bs < 2 ^ 32 → ⊥ = λ s. p (rw (no_plus bs d) ((some, all_digits bs d), s)) in
    let five : nat_le 5 (length bs) ≡ true = grind (arith, nat_tests) in
    rw (d, five, too_large bs (nat_lt (digits_value 16 bs) (2 ^ 32)) refl n) refl

pub ruleset of_address_of = (short_is_none, other_is_none, read_is_address)
