-- What is packed comes back, and is short.
use Rattle.std.specs.Prelude.{replicate}
use Rattle.std.proofs.Common.{◌≡◌, ℕ, suc, zero, ◌+◌, ◌-◌, ◌*◌, ◌/◌, ◌%◌, ◌≤◌, List, [], ◌∷◌, ◌++◌, length, Option}
use Rattle.std.proofs.Common.{Some, None, refl, ap, sym, ◌∙◌, arith, append_assoc, add-one, length-append}
use Rattle.std.specs.Int.Bits.{xor_zero_l, xor_comm, xor_assoc, xor_self}
use Rattle.std.specs.Prelude.{bit_xor}
use Rattle.std.proofs.lemmas.List.{append-nil, length-replicate, replicate-append-replicate, replicate_more}
use Rattle.zk_save.specs.Packing.{Zeros, pairs, last_pair, spelled, PacksShort}
use Rattle.zk_save.specs.Unpacking.{before, given, filled, unpacked, xored, ComesBack, TurnsBack}
use Rattle.zk_save.specs.Counted.{packed_after}
use Rattle.zk_save.proofs.Packs.{packed_is}

-- so many zeros
abbrev nulls : ℕ → List ℕ
nulls n = replicate n 0

before-before : (xs ys : List ℕ) (o : Option (List ℕ)) → before xs (before ys o) ≡ before (xs ++ ys) o
before-before xs ys None = refl
before-before xs ys (Some zs) = ap (λ l. Some l) (sym (append_assoc xs ys zs))

given_pair : (n : ℕ) (cs : List ℕ) → given (0 ∷ n ∷ cs) ≡ before (replicate (n + 1) 0) (given cs)
unfolding given
given_pair n cs = refl

-- 256 zeros so many times, and then the rest
given_pairs : (q : ℕ) (cs : List ℕ) → given (pairs q ++ cs) ≡ before (replicate (256 * q) 0) (given cs)
unfolding pairs
given_pairs zero cs = elim (given cs) as (λ o. o ≡ before [] o) [ None ↦ refl | Some ys ↦ refl ]
given_pairs (suc q) cs =
    let total : 256 + 256 * q ≡ 256 * suc q = omega arith in
    let joined : nulls 256 ++ nulls (256 * q) ≡ nulls (256 * suc q) = replicate-append-replicate 256 (256 * q) 0
    ∙ ap nulls total in
    rw (given_pair 255 (pairs q ++ cs), given_pairs q cs, before-before, ← joined) refl

given_last : (r : ℕ) (cs : List ℕ) → given (last_pair r ++ cs) ≡ before (replicate r 0) (given cs)
given_last zero cs = elim (given cs) as (λ o. o ≡ before [] o) [ None ↦ refl | Some ys ↦ refl ]
given_last (suc r) cs = let e : suc r - 1 ≡ r = omega arith in rw (e, given_pair r cs, add-one) refl

given_zeros : (z : ℕ) (cs : List ℕ) → given (spelled (Zeros z) ++ cs) ≡ before (replicate z 0) (given cs)
unfolding spelled
given_zeros z cs =
    let total : 256 * (z / 256) + z % 256 ≡ z = omega arith in
    let joined : nulls (256 * (z / 256)) ++ nulls (z % 256) ≡ nulls z = replicate-append-replicate
    (256 * (z / 256)) (z % 256) 0 ∙ ap nulls total in
    rw (
      append_assoc,
      given_pairs (z / 256) (last_pair (z % 256) ++ cs),
      given_last (z % 256) cs,
      before-before,
      ← joined,
    ) refl

-- what is given, and zeros after it, are the bytes
record Gives (z : ℕ) (xs : List ℕ) (c : List ℕ) : Type 0 where
  ys : List ℕ
  more : ℕ
  given_is : given c ≡ Some ys
  whole : ys ++ replicate more 0 ≡ replicate z 0 ++ xs

gives_nil : (z : ℕ) → Gives z [] []
unfolding given
gives_nil z = record { ys = []; more = z; given_is = refl; whole = sym (append-nil (replicate z 0)) }

gives_zero : (z : ℕ) (xs c : List ℕ) → Gives (z + 1) xs c → Gives z (0 ∷ xs) c
gives_zero z xs c g =
    let e : replicate z 0 ++ 0 ∷ xs ≡ replicate (z + 1) 0
    ++ xs = sym (ap (λ l. l ++ xs) (sym (replicate_more z 0)) ∙ append_assoc (replicate z 0) (0 ∷ []) xs) in
    record { ys = g.ys; more = g.more; given_is = g.given_is; whole = rw e g.whole }

gives_byte : (z b : ℕ) (xs c : List ℕ) → Gives 0 xs c → Gives z (suc b ∷ xs) (spelled (Zeros z) ++ suc b ∷ c)
unfolding given
gives_byte z b xs c g = record {
  ys = replicate z 0 ++ suc b ∷ g.ys;
  more = g.more;
  given_is = rw (given_zeros z (suc b ∷ c), g.given_is) refl;
  whole = rw (append_assoc, g.whole) refl;
}

gives : (z : ℕ) (xs : List ℕ) → Gives z xs (packed_after z xs)
unfolding packed_after
gives z [] = gives_nil z
gives z (zero ∷ xs) = gives_zero z xs (packed_after (z + 1) xs) (gives (z + 1) xs)
gives z (suc b ∷ xs) = gives_byte z b xs (packed_after 0 xs) (gives 0 xs)

fills : (n : ℕ) (ys : List ℕ) (more : ℕ) → n ≡ length ys + more → filled n (Some ys) ≡ Some (ys ++ replicate more 0)
fills n ys more e =
    let sub : n - length ys ≡ more = omega arith in
    let le : length ys ≤ n = omega arith in
    grind (arith, sub, le)

pub comes_back : ComesBack
unfolding unpacked
comes_back xs =
    let g : Gives 0 xs (packed_after 0 xs) = gives 0 xs in
    let n : length xs ≡ length g.ys + g.more = omega (
      arith,
      ap length g.whole,
      length-append g.ys (nulls g.more),
      length-replicate {A = ℕ} g.more 0,
    ) in
    rw (← packed_is xs, g.given_is, fills (length xs) g.ys g.more n, g.whole) refl

length_pairs : (q : ℕ) → length (pairs q) ≡ 2 * q
unfolding pairs
length_pairs zero = refl
length_pairs (suc q) = omega (arith, length_pairs q)

length_last : (r : ℕ) → length (last_pair r) ≤ 2 * r
length_last zero = omega arith
length_last (suc r) = omega arith

length_last_2 : (r : ℕ) → length (last_pair r) ≤ 2
length_last_2 zero = omega arith
length_last_2 (suc r) = omega arith

-- a run and the byte after it
length_zeros : (z : ℕ) → 2 * length (spelled (Zeros z)) ≤ 3 * z + 1
unfolding spelled
length_zeros z =
    omega (
      arith,
      length-append (pairs (z / 256)) (last_pair (z % 256)),
      length_pairs (z / 256),
      length_last (z % 256),
      length_last_2 (z % 256),
    )

short_after : (z : ℕ) (xs : List ℕ) → 2 * length (packed_after z xs) ≤ 3 * (z + length xs)
unfolding packed_after
short_after z [] = omega arith
short_after z (zero ∷ xs) = omega (arith, short_after (z + 1) xs)
short_after z (suc b ∷ xs) =
    omega (arith, short_after 0 xs, length-append (spelled (Zeros z)) (suc b ∷ packed_after 0 xs), length_zeros z)

pub packs_short : PacksShort
packs_short xs = omega (arith, short_after 0 xs, ap length (packed_is xs))

byte_twice : (a b : ℕ) → bit_xor a (bit_xor b a) ≡ b
byte_twice a b = rw (xor_comm b a, ← xor_assoc, xor_self, xor_zero_l) refl

pub turns_back : TurnsBack
unfolding xored
turns_back [] [] e = refl
turns_back [] (m ∷ ms) e = absurd (omega (arith, e))
turns_back (f ∷ fs) [] e = absurd (omega (arith, e))
turns_back (f ∷ fs) (m ∷ ms) e = rw (byte_twice f m, turns_back fs ms (omega (arith, e))) refl
