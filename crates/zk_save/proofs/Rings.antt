-- A ring, newest first, and the bytes of packed bytes.
use Rattle.std.specs.Prelude.{reverse, slice_get, unwrap_or}
use Rattle.std.proofs.Common.{◌≡◌, ℕ, suc, ◌+◌, ◌-◌, ◌<◌, ◌≤◌, List, [], ◌∷◌, ◌++◌}
use Rattle.std.proofs.Common.{length, take, drop, get_or, Option, Some}
use Rattle.std.proofs.Common.{None, refl, ap, sym, ◌∙◌, arith, length-drop, drop-cons, min, ⊎_elim}
use Rattle.std.proofs.Math.Seq.{take-suc}
use Rattle.std.proofs.lemmas.List.{reverse-append, length-reverse, length-take-le, take_at, take-append-drop, take_min}
use Rattle.std.proofs.lemmas.List.{drop_all}
use Rattle.std.proofs.lemmas.Option.{get_or_from_slice_get, slice_get_within, unwrap_or-slice_get, slice_get_past}
use Rattle.std.proofs.lemmas.Bool.{cases_lt}
use Rattle.circular_buffer.specs.Buffer.{keep_last, last_item}
use Rattle.zk_save.specs.Packing.{packed}
use Rattle.zk_save.specs.Unpacking.{xored}
use Rattle.zk_save.specs.States.{KeptState}
use Rattle.zk_save.specs.Ring.{bytes_in}
use Rattle.zk_save.proofs.Packs.{length-xored}
use Rattle.zk_save.proofs.RoundTrip.{comes_back}

-- the last so many, newest first
newest_of : {X : Type 0} (xs : List X) (k : ℕ) → reverse (drop k xs) ≡ take (length xs - k) (reverse xs)
newest_of {X} xs k =
    let halves : reverse xs ≡ reverse (drop k xs) ++ reverse (take k xs) = ap (λ (l : List X). reverse l)
    (sym (take-append-drop k xs)) ∙ reverse-append (take k xs) (drop k xs) in
    let long : length (reverse (drop k xs)) ≡ length xs - k = length-reverse (drop k xs) ∙ length-drop k xs in
    sym (ap (take (length xs - k)) halves ∙ take_at (reverse (drop k xs)) (reverse (take k xs)) (length xs - k) long)

pub ring_put : (xs : List KeptState) (x : KeptState) (n : ℕ) → reverse (keep_last n (xs ++ x ∷ [])) ≡ take n
    (x ∷ reverse xs)
ring_put xs x n =
    let ys : List KeptState = xs ++ x ∷ [] in
    let count : length ys - (length ys - n) ≡ min n (length (reverse ys)) = omega (arith, length-reverse ys) in
    newest_of ys (length ys - n) ∙ ap (λ k. take k (reverse ys)) count ∙ take_min n (reverse ys)
    ∙ ap (take n) (reverse-append xs (x ∷ []))

-- the last item and those before it
last_cut : (xs : List KeptState) (x : KeptState) → last_item xs ≡ Some x → xs ≡ take (length xs - 1) xs ++ x ∷ []
last_cut xs x h =
    ⊎_elim (λ lt.
    let i : ℕ = length xs - 1 in
    let here : get_or xs i x ≡ x = sym (unwrap_or-slice_get xs i x) ∙ ap (λ (o : Option KeptState). unwrap_or o x) h in
    let rest : drop i xs ≡ x ∷ [] = drop-cons xs i x lt ∙ ap (λ (y : KeptState). y ∷ drop (suc i) xs) here
    ∙ ap (λ (l : List KeptState). x ∷ l) (drop_all (suc i) xs (omega arith)) in
    sym (take-append-drop i xs) ∙ ap (λ (l : List KeptState). take i xs ++ l) rest)
    (λ past. let none : slice_get xs (length xs - 1) ≡ None = slice_get_past xs (length xs - 1) past in absurd cc)
    (cases_lt (length xs - 1) (length xs))

pub ring_take : (xs : List KeptState) (x : KeptState) → last_item xs ≡ Some x
    → reverse xs ≡ x ∷ reverse (take (length xs - 1) xs)
ring_take xs x h =
    ap (λ (l : List KeptState). reverse l) (last_cut xs x h) ∙ reverse-append (take (length xs - 1) xs) (x ∷ [])

some_last : (x : KeptState) (ys : List KeptState) → slice_get (x ∷ ys) (length ys) ≡ None → ⊥
some_last x [] h = cc
some_last x (y ∷ ys) h = some_last y ys h

pub none_last : (xs : List KeptState) → last_item xs ≡ None → xs ≡ []
none_last [] h = refl
none_last (x ∷ ys) h =
    let e : suc (length ys) - 1 ≡ length ys = omega arith in
    absurd (some_last x ys (rw e at h))

-- what was packed is there
pub bytes_back : (items bytes file : List ℕ) → length bytes ≤ length file → items ≡ packed (xored bytes file)
    → bytes_in items (length bytes) ≡ xored bytes file
unfolding bytes_in
bytes_back items bytes file le e =
    let long : length (xored bytes file) ≡ length bytes = length-xored bytes file le in
    rw (e, ← long, comes_back (xored bytes file)) refl

-- one more item behind the first ones, where there is room for all
pub ring_cloned : (xs : List KeptState) (x : KeptState) (k n : ℕ) → slice_get xs k ≡ Some x → length xs ≤ n
    → keep_last n (take k xs ++ x ∷ []) ≡ take (k + 1) xs
ring_cloned xs x k n there room =
    let within : k < length xs = slice_get_within xs k x there in
    let next : k + 1 ≡ suc k = omega arith in
    let more : take (suc k) xs ≡ take k xs ++ x ∷ [] = take-suc xs k x within
    ∙ ap (λ (y : KeptState). take k xs ++ y ∷ []) (get_or_from_slice_get xs k x x there) in
    let long : length (take (suc k) xs) ≡ suc k = length-take-le (suc k) xs (omega (arith, within)) in
    let none : suc k - n ≡ 0 = omega (arith, within, room) in
    rw (← more, long, none, next) refl
