-- The loops that pack.
use Rattle.std.specs.Prelude.{replicate, bit_xor, bit_or}
use Rattle.std.specs.List.{flat_map}
use Rattle.std.proofs.Common.{◌≡◌, ◌∙◌, ℕ, Bool, true, false, nat_eq, suc, zero, ◌+◌, ◌-◌, ◌/◌, ◌%◌, ◌<◌, ◌≤◌, List, []}
use Rattle.std.proofs.Common.{◌∷◌, ◌++◌, length, drop, get_or, refl, sym, ap, arith, append_assoc, add-one, drop-cons}
use Rattle.std.proofs.lemmas.List.{append-nil, drop_all, replicate_more}
use Rattle.std.proofs.lemmas.Nat.{le_or_l, le_or_r}
use Rattle.std.proofs.lemmas.Bool.Decides.{nat_tests}
use Rattle.zk_save.specs.Packing.{Zeros, pair, pairs, spelled, runs_of, without_last_zeros, packed}
use Rattle.zk_save.specs.Unpacking.{xored, AreAlike}
use Rattle.zk_save.specs.Counted.{packed_after}
use Rattle.zk_save.proofs.Runs.{none_left, kept_before, run_before}

pairs_more : (i : ℕ) → pairs (suc i) ≡ pairs i ++ pair 256
unfolding pairs
pairs_more zero = refl
pairs_more (suc i) = ap (λ (l : List ℕ). pair 256 ++ l) (pairs_more i)

pub pairs_start : (out : List ℕ) → out ++ pairs 0 ≡ out
unfolding pairs
pairs_start out = append-nil out

pub pairs_step : (out : List ℕ) (i : ℕ) → out ++ pairs (i + 1) ≡ out ++ pairs i ++ 0 ∷ [] ++ 255 ∷ []
pairs_step out i = rw (add-one, pairs_more i) (simp append_assoc)

pub zeros_rest : (out : List ℕ) (z i r : ℕ) → z / 256 ≡ i → z % 256 ≡ r → 0 < r → out ++ pairs i ++ 0 ∷ []
    ++ (r - 1) ∷ [] ≡ out ++ spelled (Zeros z)
unfolding spelled
zeros_rest out z i zero ei er lt = absurd (omega arith)
zeros_rest out z i (suc r) ei er lt = rw (ei, er) (simp append_assoc)

pub zeros_even : (out : List ℕ) (z i : ℕ) → z / 256 ≡ i → z % 256 ≡ 0 → out ++ pairs i ≡ out ++ spelled (Zeros z)
unfolding spelled
zeros_even out z i ei er = rw (ei, er) (simp append-nil)

-- a byte more

pub zero_step : (out : List ℕ) (b z : ℕ) (rest : List ℕ) → b ≡ 0 → out ++ packed_after (z + 1) rest ≡ out
    ++ packed_after z (b ∷ rest)
unfolding packed_after
zero_step out b z rest e = rw e refl

pub byte_step : (out : List ℕ) (b z : ℕ) (rest : List ℕ) → (b ≡ 0 → ⊥) → out ++ spelled (Zeros z) ++ b ∷ []
    ++ packed_after 0 rest ≡ out ++ packed_after z (b ∷ rest)
unfolding packed_after
byte_step out zero z rest ne = absurd (ne refl)
byte_step out (suc b) z rest ne = simp append_assoc

-- a loop over bytes

pub pack_step : (xs old new : List ℕ) (i y z b : ℕ) → i < length xs → get_or xs i 0 ≡ b
    → ((rest : List ℕ) → new ++ packed_after z rest ≡ old ++ packed_after y (b ∷ rest))
    → new ++ packed_after z (drop (i + 1) xs) ≡ old ++ packed_after y (drop i xs)
pack_step xs old new i y z b lt e step =
    let here : drop i xs ≡ b ∷ drop (i + 1) xs = drop-cons xs i 0 lt ∙ ap (λ (x : ℕ). x ∷ drop (suc i) xs) e
    ∙ ap (λ (n : ℕ). b ∷ drop n xs) (sym (add-one i)) in
    step (drop (i + 1) xs) ∙ ap (λ (l : List ℕ). old ++ packed_after y l) (sym here)

no_run : flat_map spelled (runs_of []) ≡ []
unfolding runs_of
no_run = refl

-- zeros and another byte, in front of bytes that were cut
byte_waits : (z b : ℕ) (xs : List ℕ) → flat_map spelled (runs_of (replicate z 0 ++ suc b ∷ xs)) ≡ spelled
    (Zeros z) ++ suc b ∷ flat_map spelled (runs_of xs)
unfolding runs_of spelled pairs
byte_waits zero b xs = refl
byte_waits (suc z) b xs = rw (run_before z b xs) refl

-- zeros that wait are zeros in front
waiting : (z : ℕ) (xs : List ℕ) → packed_after z xs ≡ packed (replicate z 0 ++ xs)
unfolding packed_after packed
waiting z [] =
    sym (ap (λ (l : List ℕ). flat_map spelled (runs_of (without_last_zeros l))) (append-nil (replicate z 0))
    ∙ ap (λ (l : List ℕ). flat_map spelled (runs_of l)) (none_left z) ∙ no_run)
waiting z (zero ∷ xs) =
    let e : replicate (z + 1) 0 ++ xs ≡ replicate z 0 ++ 0 ∷ xs = ap (λ (l : List ℕ). l ++ xs)
    (sym (replicate_more z 0)) ∙ append_assoc (replicate z 0) (0 ∷ []) xs in
    waiting (z + 1) xs ∙ ap (λ (l : List ℕ). flat_map spelled (runs_of (without_last_zeros l))) e
waiting z (suc b ∷ xs) =
    ap (λ (l : List ℕ). spelled (Zeros z) ++ suc b ∷ l) (waiting 0 xs)
    ∙ sym (ap (λ (l : List ℕ). flat_map spelled (runs_of l)) (kept_before z b xs)
    ∙ byte_waits z b (without_last_zeros xs))

pub packed_is : (xs : List ℕ) → packed_after 0 xs ≡ packed xs
packed_is xs = waiting 0 xs

pub pack_start : (xs out : List ℕ) → out ≡ [] → out ++ packed_after 0 (drop 0 xs) ≡ packed xs
pack_start xs out e = ap (λ (l : List ℕ). l ++ packed_after 0 xs) e ∙ packed_is xs

pub pack_end : (xs out whole : List ℕ) (z i : ℕ) → length xs ≤ i → out ++ packed_after z (drop i xs) ≡ whole
    → out ≡ whole
unfolding packed_after
pack_end xs out whole z i le h = sym (append-nil out) ∙ rw (drop_all i xs le) at h

pub length-xored : (xs ds : List ℕ) → length xs ≤ length ds → length (xored xs ds) ≡ length xs
unfolding xored
length-xored [] [] h = refl
length-xored [] (d ∷ ds) h = refl
length-xored (x ∷ xs) [] h = absurd (omega arith)
length-xored (x ∷ xs) (d ∷ ds) h = ap suc (length-xored xs ds (omega arith))

pub get_or-xored : (xs ds : List ℕ) (i : ℕ) → i < length xs → length xs ≤ length ds
    → get_or (xored xs ds) i 0 ≡ bit_xor (get_or xs i 0) (get_or ds i 0)
unfolding xored
get_or-xored [] ds i lt le = absurd (omega arith)
get_or-xored (x ∷ xs) [] i lt le = absurd (omega arith)
get_or-xored (x ∷ xs) (d ∷ ds) zero lt le = refl
get_or-xored (x ∷ xs) (d ∷ ds) (suc i) lt le = get_or-xored xs ds i (omega arith) (omega arith)

zeros_first : (z : ℕ) (rest : List ℕ) → packed_after z (0 ∷ rest) ≡ packed_after (z + 1) rest
unfolding packed_after
zeros_first z rest = refl

-- zeros in front of the rest wait too
zeros_wait : (xs : List ℕ) (n start z : ℕ) → start + n ≤ length xs
    → ((k : ℕ) → start ≤ k → k < start + n → get_or xs k 0 ≡ 0)
    → packed_after (z + n) (drop (start + n) xs) ≡ packed_after z (drop start xs)
zeros_wait xs zero start z le zeros =
    let e : start + 0 ≡ start = omega arith in let f : z + 0 ≡ z = omega arith in rw (e, f) refl
zeros_wait xs (suc n) start z le zeros =
    let here : drop start xs ≡ 0 ∷ drop (start + 1) xs = drop-cons xs start 0 (omega arith)
    ∙ ap (λ (x : ℕ). x ∷ drop (suc start) xs) (zeros start (omega arith) (omega arith))
    ∙ ap (λ (k : ℕ). 0 ∷ drop k xs) (sym (add-one start)) in
    let e : start + suc n ≡ start + 1 + n = omega arith in
    let f : z + suc n ≡ z + 1 + n = omega arith in
    rw (e, f) (zeros_wait xs n (start + 1) (z + 1) (omega (arith, le))
    (λ k from below. zeros k (omega (arith, from)) (omega (arith, below))))
    ∙ sym (ap (packed_after z) here ∙ zeros_first z (drop (start + 1) xs))

-- bytes that are as a file has them are zeros that wait
pub alike_wait : (xs ds out : List ℕ) (n start z : ℕ) → start + n ≤ length xs → length xs ≤ length ds
    → AreAlike xs ds start (start + n) → out ++ packed_after (z + n) (drop (start + n) (xored xs ds)) ≡ out
    ++ packed_after z (drop start (xored xs ds))
alike_wait xs ds out n start z le long alike =
    let wide : length (xored xs ds) ≡ length xs = length-xored xs ds long in
    ap (λ (l : List ℕ). out ++ l) (zeros_wait (xored xs ds) n start z (omega (arith, wide))
    (λ k from below. get_or-xored xs ds k (omega (arith, below)) long ∙ alike k from below))

-- a byte more is as a file has it, where nothing was turned so far
pub alike_more : (xs ds : List ℕ) (first k turned : ℕ) → (turned ≡ 0 → AreAlike xs ds first k)
    → bit_or turned (bit_xor (get_or xs k 0) (get_or ds k 0)) ≡ 0 → AreAlike xs ds first (k + 1)
alike_more xs ds first k turned before none j from below = go (nat_eq j k) refl
  where
    go : (b : Bool) → nat_eq j k ≡ b → bit_xor (get_or xs j 0) (get_or ds j 0) ≡ 0
    go true eq =
        let same : j ≡ k = grind (arith, nat_tests) in
        rw same (omega (arith, none, le_or_r turned (bit_xor (get_or xs k 0) (get_or ds k 0))))
    go false eq =
        let other : j ≡ k → ⊥ = (λ same. grind (arith, nat_tests)) in
        before (omega (arith, none, le_or_l turned (bit_xor (get_or xs k 0) (get_or ds k 0)))) j from
        (omega (arith, other))

pub ruleset of_put_zeros = (pairs_start, pairs_step, zeros_rest, zeros_even)
