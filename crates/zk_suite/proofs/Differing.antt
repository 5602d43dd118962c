-- Two lists of lines that are the same so far.
use Rattle.std.specs.Prelude.{slice_get}
use Rattle.std.specs.Str.{bytes_eq}
use Rattle.std.proofs.Common.{◌≡◌, ◌∙◌, ◌≢◌, ℕ, ◌+◌, ◌-◌, List, [], ◌∷◌, ◌++◌, length, true, false, Some, None, refl}
use Rattle.std.proofs.Common.{ap, sym, arith, append_assoc}
use Rattle.std.proofs.lemmas.List.{length_push, take_at}
use Rattle.std.proofs.lemmas.Slice.Eq.{bytes_eq-Decides}
use Rattle.zk_suite.specs.Texts.{DifferFirstAt}

-- both begin with the same lines, and go on with others; the next one has a number, counted from 1
pub record SameSoFar (wanted played left right : List (List ℕ)) (number : ℕ) : Type 0 where
  pub front : List (List ℕ)
  pub first : wanted ≡ front ++ left
  pub second : played ≡ front ++ right
  pub counted : length front + 1 ≡ number

pub same_start : (wanted played : List (List ℕ)) → SameSoFar wanted played wanted played 1
same_start wanted played = record { front = []; first = refl; second = refl; counted = omega arith }

pub same_on : (wanted played left right rest more : List (List ℕ)) (l m : List ℕ) (n : ℕ)
    → SameSoFar wanted played left right n → left ≡ l ∷ rest → right ≡ m ∷ more → l ≡ m
    → SameSoFar wanted played rest more (n + 1)
same_on wanted played left right rest more l m n s e f g = record {
  front = s.front ++ l ∷ [];
  first = s.first ∙ ap (λ (xs : List (List ℕ)). s.front ++ xs) e ∙ sym (append_assoc s.front (l ∷ []) rest);
  second = s.second ∙ ap (λ (xs : List (List ℕ)). s.front ++ xs) (f ∙ ap (λ (x : List ℕ). x ∷ more) (sym g))
      ∙ sym (append_assoc s.front (l ∷ []) more);
  counted = omega (arith, length_push s.front l, s.counted);
}

pub same_end : (wanted played left right : List (List ℕ)) (n : ℕ) → SameSoFar wanted played left right n
    → left ≡ [] → right ≡ [] → wanted ≡ played
same_end wanted played left right n s e f =
    s.first ∙ ap (λ (xs : List (List ℕ)). s.front ++ xs) (e ∙ sym f) ∙ sym s.second

get_behind : (front rest : List (List ℕ)) → slice_get (front ++ rest) (length front) ≡ slice_get rest 0
get_behind [] rest = refl
get_behind (x ∷ xs) rest = get_behind xs rest

pub differ : (wanted played left right : List (List ℕ)) (n : ℕ) → SameSoFar wanted played left right n
    → slice_get left 0 ≢ slice_get right 0 → DifferFirstAt wanted played n
differ wanted played left right n s other =
    let at : n - 1 ≡ length s.front = omega (arith, s.counted) in
    record {
      counted = omega (arith, s.counted);
      same =
          rw (at, s.first, s.second) (take_at s.front left (length s.front) refl
          ∙ sym (take_at s.front right (length s.front) refl));
      other =
          λ same. other (sym (get_behind s.front left) ∙ rw (at, s.first, s.second) at same ∙ get_behind s.front right);
    }

-- ---- what two lists of lines begin with

pub second_ended : (left right rest : List (List ℕ)) (l : List ℕ) → left ≡ l ∷ rest → right ≡ []
    → slice_get left 0 ≢ slice_get right 0
second_ended left right rest l e f = λ same.
    let none : Some l ≡ None = rw (e, f) at same in
    cc

pub first_ended : (left right more : List (List ℕ)) (m : List ℕ) → left ≡ [] → right ≡ m ∷ more
    → slice_get left 0 ≢ slice_get right 0
first_ended left right more m e f = λ same.
    let some : None ≡ Some m = rw (e, f) at same in
    cc

pub heads_differ : (left right rest more : List (List ℕ)) (l m : List ℕ) → left ≡ l ∷ rest → right ≡ m ∷ more
    → bytes_eq l m ≡ false → slice_get left 0 ≢ slice_get right 0
heads_differ left right rest more l m e f other = λ same.
    let equal : Some l ≡ Some m = rw (e, f) at same in
    let heads : l ≡ m = cc in
    let d = bytes_eq-Decides l m in
    let yes : bytes_eq l m ≡ true = d.1 heads in
    cc

pub same_heads : (l m : List ℕ) → bytes_eq l m ≡ true → l ≡ m
same_heads l m h = let d = bytes_eq-Decides l m in d.0 h
