-- A difference that is turned over memory, byte by byte of its packing.
use Rattle.std.specs.Prelude.{replicate, slice_set, bit_xor, nat_le, if◌then◌else◌}
use Rattle.std.proofs.Common.{◌≡◌, ℕ, suc, zero, ◌+◌, ◌-◌, ◌<◌, ◌≤◌, Bool, true, false, List, [], ◌∷◌, ◌++◌, length}
use Rattle.std.proofs.Common.{take, drop, get_or, Option, Some, None, refl, ap, sym, ◌∙◌, arith, append_assoc, add-one}
use Rattle.std.proofs.Common.{drop-cons, length-append, length-drop, min}
use Rattle.std.specs.Int.Bits.{xor_zero_r}
use Rattle.std.proofs.Math.Seq.{take-add}
use Rattle.std.proofs.lemmas.Bool.Decides.{nat_tests}
use Rattle.std.proofs.lemmas.List.{drop_all, take-append-drop, length-replicate, drop-drop, take_more_set, drop-set-lt}
use Rattle.std.proofs.lemmas.List.{drop_more}
use Rattle.zk_save.specs.Unpacking.{before, given, filled, unpacked, xored}
use Rattle.zk_save.specs.Counted.{given_after}

-- what is left to give, which fits, and makes the whole
pub record Rest (run : Bool) (cs : List ℕ) (at end : ℕ) (ms whole : List ℕ) : Type 0 where
  pub xs : List ℕ
  pub given_is : given_after run cs ≡ Some xs
  pub fits : at + length xs ≤ end
  pub makes : take at ms ++ xored (drop at ms) xs ≡ whole

filled_by : (b : Bool) (n : ℕ) (xs ds : List ℕ) → nat_le (length xs) n ≡ b
    → (if b then Some (xs ++ replicate (n - length xs) 0) else None) ≡ Some ds
    → (length xs ≤ n) × (ds ≡ xs ++ replicate (n - length xs) 0)
filled_by true n xs ds e h = let le : length xs ≤ n = grind (arith, nat_tests) in (le, cc)
filled_by false n xs ds e h = absurd cc

-- what was given, where it was filled
given_by : (n : ℕ) (o : Option (List ℕ)) (ds : List ℕ) → filled n o ≡ Some ds → (xs : List ℕ) × (o ≡ Some xs)
    × (length xs ≤ n) × (ds ≡ xs ++ replicate (n - length xs) 0)
given_by n None ds h = absurd cc
given_by n (Some xs) ds h = let p = filled_by (nat_le (length xs) n) n xs ds refl h in (xs, refl, p.0, p.1)

xored_none : (k : ℕ) (ms : List ℕ) → k ≤ length ms → xored ms (replicate k 0) ≡ ms
unfolding xored
xored_none zero ms h = refl
xored_none (suc k) [] h = absurd (omega arith)
xored_none (suc k) (m ∷ ms) h = rw (xor_zero_r m, xored_none k ms (omega arith)) refl

xored_filled : (ms xs : List ℕ) (k : ℕ) → length xs + k ≤ length ms → xored ms (xs ++ replicate k 0) ≡ xored ms xs
unfolding xored
xored_filled ms [] k h = xored_none k ms (omega arith)
xored_filled [] (x ∷ xs) k h = absurd (omega arith)
xored_filled (m ∷ ms) (x ∷ xs) k h = ap (λ (l : List ℕ). bit_xor m x ∷ l) (xored_filled ms xs k (omega arith))

pub rest_start : (cs ms ds : List ℕ) (end : ℕ) → unpacked (length ds) cs ≡ Some ds → length ds ≡ end
    → end ≤ length ms → Rest false cs 0 end ms (xored ms ds)
unfolding given_after unpacked
rest_start cs ms ds end h e fits =
    let p = given_by (length ds) (given cs) ds h in
    let xs = p.0 in
    let short : length xs ≤ length ds = p.2 in
    record {
      xs = xs;
      given_is = p.1;
      fits = omega arith;
      makes = sym (ap (xored ms) p.3 ∙ xored_filled ms xs (length ds - length xs) (omega arith));
    }

plain_given : (cs : List ℕ) (o : Option (List ℕ)) → given_after false cs ≡ o → given cs ≡ o
unfolding given_after
plain_given cs o h = h

given_plain : (cs : List ℕ) (o : Option (List ℕ)) → given cs ≡ o → given_after false cs ≡ o
unfolding given_after
given_plain cs o h = h

run_given : (n : ℕ) (cs : List ℕ) (o : Option (List ℕ)) → given_after true (n ∷ cs) ≡ o
    → before (replicate (n + 1) 0) (given cs) ≡ o
unfolding given_after
run_given n cs o h = h

first_of_before : (ys xs : List ℕ) (o : Option (List ℕ)) → before ys o ≡ Some xs → (zs : List ℕ) × (o ≡ Some zs)
    × (xs ≡ ys ++ zs)
first_of_before ys xs None h = absurd cc
first_of_before ys xs (Some zs) h = let e : xs ≡ ys ++ zs = cc in (zs, refl, e)

given_byte : (b : ℕ) (cs : List ℕ) → (b ≡ 0 → ⊥) → given (b ∷ cs) ≡ before (b ∷ []) (given cs)
unfolding given
given_byte zero cs ne = absurd (ne refl)
given_byte (suc b) cs ne = refl

given_run : (b : ℕ) (cs : List ℕ) → b ≡ 0 → given (b ∷ cs) ≡ given_after true cs
unfolding given given_after
given_run b [] e = rw e refl
given_run b (n ∷ cs) e = rw e refl

xored_zeros : (k : ℕ) (ms zs : List ℕ) → k + length zs ≤ length ms → xored ms (replicate k 0 ++ zs) ≡ take k ms
    ++ xored (drop k ms) zs
unfolding xored
xored_zeros zero ms zs h = refl
xored_zeros (suc k) [] zs h = absurd (omega arith)
xored_zeros (suc k) (m ∷ ms) zs h = rw (xor_zero_r m, xored_zeros k ms zs (omega arith)) refl

xored_first : (m b : ℕ) (ms zs : List ℕ) → xored (m ∷ ms) (b ∷ zs) ≡ bit_xor m b ∷ xored ms zs
unfolding xored
xored_first m b ms zs = refl

xored_byte : (ms zs : List ℕ) (at b : ℕ) → at < length ms → take at ms ++ xored (drop at ms) (b ∷ zs) ≡ take
    (at + 1) (slice_set ms at (bit_xor (get_or ms at 0) b))
    ++ xored (drop (at + 1) (slice_set ms at (bit_xor (get_or ms at 0) b))) zs
xored_byte ms zs at b lt =
    let v : ℕ = bit_xor (get_or ms at 0) b in
    let rest : drop (at + 1) (slice_set ms at v) ≡ drop (at + 1) ms = drop-set-lt (at + 1) ms at v (omega arith) in
    rw (
      take_more_set ms at v lt,
      rest,
      drop-cons ms at 0 lt,
      xored_first (get_or ms at 0) b (drop (suc at) ms)
          zs,
      ← add-one at,
    ) (simp append_assoc)

pub rest_run : (b : ℕ) (cs : List ℕ) (at end : ℕ) (ms whole : List ℕ) → b ≡ 0
    → Rest false (b ∷ cs) at end ms whole → Rest true cs at end ms whole
rest_run b cs at end ms whole e r =
    let h : given (b ∷ cs) ≡ Some r.xs = plain_given (b ∷ cs) (Some r.xs) r.given_is in
    record { xs = r.xs; given_is = sym (given_run b cs e) ∙ h; fits = r.fits; makes = r.makes }

pub rest_byte : (b : ℕ) (cs : List ℕ) (at end : ℕ) (ms whole : List ℕ) → (b ≡ 0 → ⊥) → at < length ms
    → Rest false (b ∷ cs) at end ms whole → Rest false cs (at + 1) end
    (slice_set ms at (bit_xor (get_or ms at 0) b)) whole
rest_byte b cs at end ms whole ne lt r =
    let h : given (b ∷ cs) ≡ Some r.xs = plain_given (b ∷ cs) (Some r.xs) r.given_is in
    let p = first_of_before (b ∷ []) r.xs (given cs) (sym (given_byte b cs ne) ∙ h) in
    let fits = rw p.2 at r.fits in
    let makes = rw p.2 at r.makes in
    record {
      xs = p.0;
      given_is = given_plain cs (Some p.0) p.1;
      fits = omega (arith, fits);
      makes = sym (xored_byte ms p.0 at b lt) ∙ makes;
    }

-- a byte that has no place is none
pub rest_past : (b : ℕ) (cs : List ℕ) (at end : ℕ) (ms whole : List ℕ) → (b ≡ 0 → ⊥) → end ≤ at
    → Rest false (b ∷ cs) at end ms whole → ⊥
rest_past b cs at end ms whole ne le r =
    let h : given (b ∷ cs) ≡ Some r.xs = plain_given (b ∷ cs) (Some r.xs) r.given_is in
    let p = first_of_before (b ∷ []) r.xs (given cs) (sym (given_byte b cs ne) ∙ h) in
    let fits = rw p.2 at r.fits in
    omega (arith, fits)

pub rest_skip : (n : ℕ) (cs : List ℕ) (at to end : ℕ) (ms whole : List ℕ) → to ≡ at + min (n + 1) (end - at)
    → end ≤ length ms → Rest true (n ∷ cs) at end ms whole → Rest false cs to end ms whole
rest_skip n cs at to end ms whole e high r =
    let p = first_of_before (replicate (n + 1) 0) r.xs (given cs) (run_given n cs (Some r.xs) r.given_is) in
    let fits = rw p.2 at r.fits in
    let makes = rw p.2 at r.makes in
    let long : length (replicate (n + 1) 0 ++ p.0) ≡ n + 1 + length p.0 = length-append (replicate (n + 1) 0) p.0
    ∙ ap (λ (k : ℕ). k + length p.0) (length-replicate {A = ℕ} (n + 1) 0) in
    let to_is : to ≡ at + (n + 1) = omega (arith, fits, long, e) in
    let step : xored (drop at ms) (replicate (n + 1) 0 ++ p.0) ≡ take (n + 1) (drop at ms)
    ++ xored (drop (n + 1) (drop at ms)) p.0 =
    xored_zeros (n + 1) (drop at ms) p.0 (omega (arith, fits, long, length-drop at ms)) in
    record {
      xs = p.0;
      given_is = given_plain cs (Some p.0) p.1;
      fits = omega (arith, fits, long, to_is);
      makes = rw (to_is, take-add at (n + 1) ms, ← drop-drop (n + 1) at ms, append_assoc, ← step) makes;
    }

rest_end : (run : Bool) (at end : ℕ) (ms whole : List ℕ) → Rest run [] at end ms whole → ms ≡ whole
unfolding given_after given xored
rest_end true at end ms whole r = let h = r.given_is in absurd cc
rest_end false at end ms whole r =
    let h = r.given_is in
    let none : r.xs ≡ [] = cc in
    let makes = rw none at r.makes in
    sym (take-append-drop at ms) ∙ makes

pub rest_next : (run now : Bool) (cs : List ℕ) (i at end : ℕ) (ms whole : List ℕ) → run ≡ now → i < length cs
    → Rest run (drop i cs) at end ms whole → Rest now (get_or cs i 0 ∷ drop (i + 1) cs) at end ms whole
rest_next run now cs i at end ms whole e lt r = rw (← e, ← drop_more cs i 0 lt) r

pub rest_all : (run : Bool) (cs : List ℕ) (i at end : ℕ) (ms whole : List ℕ) → length cs ≤ i
    → Rest run (drop i cs) at end ms whole → ms ≡ whole
rest_all run cs i at end ms whole le r = rest_end run at end ms whole (rw (drop_all i cs le) at r)
