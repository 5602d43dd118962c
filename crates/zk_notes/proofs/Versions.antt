-- Versions of compilers in headers.
use Rattle.std.specs.Prelude.{MatchResult, nat_le, option_map}
use Rattle.std.specs.Char.{is_ascii_digit}
use Rattle.std.specs.Result.{result_ok}
use Rattle.std.specs.Str.{IsUtf8}
use Rattle.std.proofs.Common.{◌≡◌, ℕ, ◌<◌, ◌&&◌, ◌==◌, true, false, List, [], ◌∷◌, length, take, drop, get_or, zero}
use Rattle.std.proofs.Common.{suc, lit<, Result, Ok, Err, None, Bor, refl, arith, length-drop, length-take}
use Rattle.std.proofs.lemmas.Bool.Decides.{nat_tests}
use Rattle.std.proofs.lemmas.Str.{IsUtf8-from_ascii}
use Rattle.zk_notes.proofs.AddressWords.{both}
use Rattle.zk_notes.specs.Compilers.{compiler_of, is_version}

few : (bs : List ℕ) → length bs < 4 → is_version bs ≡ false
few [] h = refl
few (a ∷ []) h = refl
few (a ∷ b ∷ []) h = refl
few (a ∷ b ∷ c ∷ []) h = refl
few (a ∷ b ∷ c ∷ d ∷ ds) h = absurd (omega arith)

short : (header : List ℕ) → length header < 64 → length (take 4 (drop 60 header)) < 4
short header h = omega (arith, length-drop 60 header, length-take 4 (drop 60 header))

pub short_is_none : (header : List ℕ) → length header < 64 → compiler_of header ≡ None
unfolding compiler_of
short_is_none header h = rw (few (take 4 (drop 60 header)) (short header h)) refl

pub other_is_none : (header : List ℕ) → is_version (take 4 (drop 60 header)) ≡ false → compiler_of header ≡ None
unfolding compiler_of
other_is_none header h = rw h refl

low : (c : ℕ) → is_ascii_digit c ≡ true → c < 128
low c h = let b = both (nat_le 48 c) (nat_le c 57) h in grind (arith, nat_tests, b.1)

stop : (c : ℕ) → (c == 46) ≡ true → c < 128
stop c h = grind (arith, nat_tests)

each_low : (a b c d : ℕ) → a < 128 → b < 128 → c < 128 → d < 128 → (i : ℕ) → get_or (a ∷ b ∷ c ∷ d ∷ []) i 0 < 128
each_low a b c d p q r s zero = p
each_low a b c d p q r s (suc zero) = q
each_low a b c d p q r s (suc (suc zero)) = r
each_low a b c d p q r s (suc (suc (suc zero))) = s
each_low a b c d p q r s (suc (suc (suc (suc i)))) = lit< tt

ascii : (bs : List ℕ) → is_version bs ≡ true → IsUtf8 bs
ascii (a ∷ b ∷ c ∷ d ∷ []) h =
    let s = both ((is_ascii_digit a && (b == 46)) && is_ascii_digit c) (is_ascii_digit d) h in
    let r = both (is_ascii_digit a && (b == 46)) (is_ascii_digit c) s.0 in
    let q = both (is_ascii_digit a) (b == 46) r.0 in
    IsUtf8-from_ascii (a ∷ b ∷ c ∷ d ∷ []) (each_low a b c d (low a q.0) (stop b q.1) (low c r.1) (low d s.1))
ascii [] h = absurd cc
ascii (a ∷ []) h = absurd cc
ascii (a ∷ b ∷ []) h = absurd cc
ascii (a ∷ b ∷ c ∷ []) h = absurd cc
ascii (a ∷ b ∷ c ∷ d ∷ e ∷ es) h = absurd cc

pub read_is_version : {E : Type 0} (Q : E → Type 0) (header : List ℕ) (r : Result (Bor (List ℕ)) E)
    → is_version (take 4 (drop 60 header)) ≡ true
    → MatchResult r (λ s. (s.now ≡ take 4 (drop 60 header)) × IsUtf8 (take 4 (drop 60 header)))
    (λ e. ¬ (IsUtf8 (take 4 (drop 60 header))) × Q e)
    → option_map (λ (v : Bor (List ℕ)). v.now) (result_ok r) ≡ compiler_of header
unfolding compiler_of
read_is_version {E} Q header (Ok s) v h = rw (v, h.0) refl
read_is_version {E} Q header (Err e) v h = absurd (h.0 (ascii (take 4 (drop 60 header)) v))
