-- What is read through a limit.
use Rattle.std.proofs.Common.{rules, ◌≡◌, ℕ, List, [], ◌++◌, Option, Some, None, IfSome, subst, refl, sym}
use Rattle.std.proofs.lemmas.List.{append_assoc}
use Rattle.std.specs.Io.KnownBytes.{Consumes, Keeps, IsAtEnd}
use Rattle.std.specs.Prelude.{take, option_map}
use Rattle.std.specs.Io.Take.{take_limit, take_inner, take_remaining}
use Rattle.std.specs.declared.io.traits.Take.{Take}
use Rattle.zk_program.specs.Playing.{bytes_read}

by_cases : (known : Option (List ℕ)) (items : List ℕ) → IfSome (option_map (take 524289) known)
    (λ xs. items ≡ [] ++ xs) → IfSome known (λ file. items ≡ bytes_read file)
by_cases None items h = h
by_cases (Some xs) items h = h

pub read_through : {R : Type 0} (remaining : R → Option (List ℕ)) (t : Take R) (reader : R) (old items : List ℕ)
    → take_limit t ≡ 524289 → take_inner t ≡ reader
    → old ≡ [] → IfSome (take_remaining remaining t) (λ xs. items ≡ old ++ xs)
    → IfSome (remaining reader) (λ file. items ≡ bytes_read file)
read_through {R} remaining t reader old items limit inner empty h =
    let one = subst (λ (n : ℕ). IfSome (option_map (take n) (remaining (take_inner t))) (λ xs. items ≡ old ++ xs))
    limit h in
    let two = subst (λ (r : R). IfSome (option_map (take 524289) (remaining r)) (λ xs. items ≡ old ++ xs)) inner one in
    by_cases (remaining reader) items
    (subst (λ (o : List ℕ). IfSome (option_map (take 524289) (remaining reader)) (λ xs. items ≡ o ++ xs)) empty two)

-- bytes that were read, after others, and what is left to read
pub record ReadBehind (first left : Option (List ℕ)) (before bytes : List ℕ) : Type 0 where
  pub read : List ℕ
  pub consumed : Consumes first left read
  pub behind : bytes ≡ before ++ read

none_lost : (known : Option (List ℕ)) → Consumes known known []
none_lost None = search rules
none_lost (Some xs) = refl

-- nothing was read yet
pub none_read : (known : Option (List ℕ)) (before : List ℕ) → ReadBehind known known before before
none_read known before = record { read = []; consumed = none_lost known; behind = search rules }

both : (first left rest : Option (List ℕ)) (xs ys : List ℕ) → Consumes first left xs → Consumes left rest ys
    → Consumes first rest (xs ++ ys)
both None left rest xs ys p q = search rules
both (Some a) None rest xs ys p q = absurd p
both (Some a) (Some b) None xs ys p q = absurd q
both (Some a) (Some b) (Some c) xs ys p q = rw (p, q) (sym (append_assoc xs ys c))

-- one piece more
pub piece_read : (first left rest : Option (List ℕ)) (before bytes piece new : List ℕ)
    → ReadBehind first left before bytes → Consumes left rest piece → new ≡ bytes ++ piece
    → ReadBehind first rest before new
piece_read first left rest before bytes piece new r p is =
    record {
      read = r.read ++ piece;
      consumed = both first left rest r.read piece r.consumed p;
      behind = rw (is, r.behind) (append_assoc before r.read piece);
    }

-- a read that failed took nothing
pub kept : (first left rest : Option (List ℕ)) (before bytes : List ℕ) → ReadBehind first left before bytes
    → Keeps left rest → ReadBehind first rest before bytes
kept first None rest before bytes r k = search rules
kept first (Some xs) None before bytes r k = absurd k
kept first (Some xs) (Some ys) before bytes r k = rw k r

all_of : (first left : Option (List ℕ)) (before bytes read : List ℕ) → Consumes first left read → IsAtEnd left
    → bytes ≡ before ++ read → IfSome first (λ xs. bytes ≡ before ++ xs)
all_of None left before bytes read p end is = search rules
all_of (Some xs) None before bytes read p end is = absurd p
all_of (Some xs) (Some ys) before bytes read p end is = rw (is, p, end) (search rules)

-- at the end all was read
pub all_read : (first left : Option (List ℕ)) (before bytes : List ℕ) → ReadBehind first left before bytes
    → IsAtEnd left → IfSome first (λ xs. bytes ≡ before ++ xs)
all_read first left before bytes r end = all_of first left before bytes r.read r.consumed end r.behind
