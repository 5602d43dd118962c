-- The UTF-8 of characters, one after another.
use Rattle.std.specs.Prelude.{encode_utf8, encode_utf8_all}
use Rattle.std.proofs.Common.{◌≡◌, ◌<◌, ◌+◌, ℕ, suc, List, [], ◌∷◌, ◌++◌, length, get_or, take, ap, append-nil, arith}
use Rattle.std.proofs.lemmas.Str.{encodes-append}
use Rattle.std.proofs.Math.Seq.{take-suc}

pub next_encoded : (cs : List ℕ) (i d : ℕ) (bytes : List ℕ) → i < length cs → bytes ≡ encode_utf8_all (take i cs)
    → bytes ++ encode_utf8 (get_or cs i d) ≡ encode_utf8_all (take (i + 1) cs)
next_encoded cs i d bytes inside done =
    let next : i + 1 ≡ suc i = omega arith in
    rw (
      next,
      take-suc cs i d inside,
      encodes-append (take i cs) (get_or cs i d ∷ []),
      append-nil (encode_utf8 (get_or cs i d)),
    ) (ap (λ (b : List ℕ). b ++ encode_utf8 (get_or cs i d)) done)
