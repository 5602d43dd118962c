-- Bytes that are looked at one after another, whether they are those of a text.
use Rattle.std.proofs.Common.{◌≡◌, ◌∙◌, ◌<◌, ◌&&◌, ℕ, zero, suc, Bool, true, false, not, List, [], ◌∷◌, length, take}
use Rattle.std.proofs.Common.{ap, arith, refl, slice_index_or, sym, ◌==◌}
use Rattle.std.proofs.lemmas.Bool.Decides.{nat_tests}
use Rattle.std.specs.List.{list_all}
use Rattle.zk_blorb.specs.Looks.{is_of_text, is_text}

-- one byte more
pub all_more : (test : ℕ → Bool) (xs : List ℕ) (i : ℕ) → i < length xs → list_all test (take i xs) ≡ true
    → test (slice_index_or xs i 0) ≡ true → list_all test (take (suc i) xs) ≡ true
all_more test [] i lt h k = absurd (omega arith)
all_more test (x ∷ xs) zero lt h k = rw k refl
all_more test (x ∷ xs) (suc i) lt h k = go (test x) (λ rest. all_more test xs i (omega arith) rest k) h
  where
    go : (b : Bool) → (list_all test (take i xs) ≡ true → list_all test (take (suc i) xs) ≡ true)
        → (b && list_all test (take i xs)) ≡ true → (b && list_all test (take (suc i) xs)) ≡ true
    go true more h = more h
    go false more h = h

-- one byte that may not stand there
pub one_not : (xs : List ℕ) (i : ℕ) → i < length xs → is_of_text (slice_index_or xs i 0) ≡ false
    → false ≡ is_text xs
one_not [] i lt k = refl
one_not (x ∷ xs) i lt k = sym (all (x ∷ xs) i lt k)
  where
    all : (ys : List ℕ) (i : ℕ) → i < length ys → is_of_text (slice_index_or ys i 0) ≡ false
        → list_all is_of_text ys ≡ false
    all [] i lt k = absurd (omega arith)
    all (y ∷ ys) zero lt k = rw k refl
    all (y ∷ ys) (suc i) lt k = go (is_of_text y) (all ys i (omega arith) k)
      where
        go : (b : Bool) → list_all is_of_text ys ≡ false → (b && list_all is_of_text ys) ≡ false
        go true e = e
        go false e = refl

-- all of them
pub all_text : (xs : List ℕ) → list_all is_of_text xs ≡ true → not (length xs == 0) ≡ is_text xs
all_text [] h = refl
all_text (x ∷ xs) h =
    let some : (suc (length xs) == 0) ≡ false = grind (arith, nat_tests) in
    ap not some ∙ sym h
