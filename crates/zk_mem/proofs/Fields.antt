-- Setting the header's fields leaves the length and the bytes after the header alone.
use Rattle.std.specs.Prelude.{slice_set, if◌then◌else◌}
use Rattle.std.proofs.Common.{◌≡◌, ◌≤◌, ◌<◌, ◌∙◌, ℕ, Bool, true, false, List, [], ◌∷◌, length, drop, nat_lt, arith}
use Rattle.std.proofs.Common.{refl, lit<}
use Rattle.std.proofs.lemmas.List.{drop-set-lt}
use Rattle.std.proofs.Math.ListN.{length-set}
use Rattle.zk_mem.specs.declared.memory.Setup.{Setup}
use Rattle.zk_mem.specs.Fresh.{with_values, standard_fields, screen_fields_3, screen_fields_4, screen_fields_5}
use Rattle.zk_mem.specs.Fresh.{with_group, with_fields}

-- values of the header alone
abbrev AreLow : List (ℕ × ℕ) → Type 0
AreLow [] = Unit {0}
AreLow (p ∷ ps) = (p.0 < 64) × AreLow ps

-- bytes of the same length that are the same from n on
record IsLike (n : ℕ) (xs ys : List ℕ) : Type 0 where
  long : length xs ≡ length ys
  rest : drop n xs ≡ drop n ys

like_values : (n : ℕ) (ps : List (ℕ × ℕ)) (bytes : List ℕ) → 64 ≤ n → AreLow ps → IsLike n (with_values ps bytes) bytes
like_values n [] bytes h low = record { long = refl; rest = refl }
like_values n (p ∷ ps) bytes h low =
    let rest = like_values n ps (slice_set bytes p.0 p.1) h low.1 in
    let below : p.0 < n = let first = low.0 in omega arith in
    record {
      long = rest.long ∙ length-set bytes p.0 p.1;
      rest = rest.rest ∙ drop-set-lt n bytes p.0 p.1 below;
    }

like_both : (n : ℕ) (xs ys zs : List ℕ) → IsLike n xs ys → IsLike n ys zs → IsLike n xs zs
like_both n xs ys zs h k = record { long = h.long ∙ k.long; rest = h.rest ∙ k.rest }

like_if : (n : ℕ) (b : Bool) (xs ys zs : List ℕ) → IsLike n xs zs → IsLike n ys zs → IsLike n (if b then xs else ys) zs
like_if n true xs ys zs h k = h
like_if n false xs ys zs h k = k

like_standard : (n : ℕ) (bytes : List ℕ) → 64 ≤ n → IsLike n (with_values standard_fields bytes) bytes
like_standard n bytes h = like_values n standard_fields bytes h (lit< tt, (lit< tt, tt))

like_3 : (n : ℕ) (bytes : List ℕ) → 64 ≤ n → IsLike n (with_group screen_fields_3 bytes) bytes
like_3 n bytes h = like_values n (screen_fields_3 bytes) bytes h (lit< tt, tt)

like_4 : (n : ℕ) (setup : Setup) (bytes : List ℕ) → 64 ≤ n → IsLike n (with_group (screen_fields_4 setup) bytes) bytes
like_4 n setup bytes h =
    like_values n (screen_fields_4 setup bytes) bytes h (lit< tt, (lit< tt, (lit< tt, (lit< tt, (lit< tt, tt)))))

like_5 : (n : ℕ) (setup : Setup) (bytes : List ℕ) → 64 ≤ n → IsLike n (with_group (screen_fields_5 setup) bytes) bytes
like_5 n setup bytes h =
    like_values n (screen_fields_5 setup bytes) bytes h
    (lit< tt, (lit< tt, (lit< tt, (lit< tt, (lit< tt, (lit< tt, (lit< tt, (lit< tt, (lit< tt, (lit< tt, tt))))))))))

like_fields : (n version : ℕ) (setup : Setup) (bytes : List ℕ) → 64 ≤ n
    → IsLike n (with_fields version setup bytes) bytes
unfolding with_fields
like_fields n version setup bytes h =
    let standard = with_values standard_fields bytes in
    let first = like_standard n bytes h in
    let four = like_both n _ standard bytes (like_4 n setup standard h) first in
    like_if n (nat_lt version 4) _ _ bytes
    (like_both n _ standard bytes (like_3 n standard h) first)
    (like_if n (nat_lt version 5) _ _ bytes four
    (like_both n _ (with_group (screen_fields_4 setup) standard) bytes
    (like_5 n setup (with_group (screen_fields_4 setup) standard) h) four))

pub length-with_fields : (version : ℕ) (setup : Setup) (bytes : List ℕ)
    → length (with_fields version setup bytes) ≡ length bytes
length-with_fields version setup bytes = (like_fields 64 version setup bytes (omega arith)).long

pub drop-with_fields : (n version : ℕ) (setup : Setup) (bytes : List ℕ) → 64 ≤ n
    → drop n (with_fields version setup bytes) ≡ drop n bytes
drop-with_fields n version setup bytes h = (like_fields n version setup bytes h).rest
