-- Complete lines that a source gives, one read after another.
use Rattle.std.proofs.Common.{◌≡◌, ℕ, Bool, true, false, List, [], ◌∷◌, ◌++◌, append_assoc, refl, sym, ◌∙◌, ap, inl}
use Rattle.std.proofs.Common.{inr}
use Rattle.std.proofs.lemmas.List.{append-nil}
use Rattle.std.proofs.lemmas.List.Folds.{concat-append}
use Rattle.std.specs.List.{concat, slice_split}
use Rattle.std.specs.Str.Lines.{strip_carriage_return}
use Rattle.zk_term.specs.Lines.{is_new_line, IsPlain, AreGiven, Takes, ended_in, ended_lines, EndsWhole, GaveLines}
use Rattle.zk_term.specs.Lines.{LinesAreGiven}
use Rattle.zk_term.proofs.Taking.{given_on, concat_on}
use Rattle.zk_term.proofs.Hearing.{Parts, parts, complete}

-- ---- lines after lines

split_by : (b : ℕ) (front rest : List ℕ) (x : Bool) → is_new_line b ≡ x → Parts front
    → slice_split is_new_line (front ++ 10 ∷ rest) ≡ slice_split is_new_line front ++ slice_split is_new_line rest
    → slice_split is_new_line (b ∷ (front ++ 10 ∷ rest)) ≡ slice_split is_new_line (b ∷ front)
    ++ slice_split is_new_line rest
split_by b front rest true e p h = rw (e, h) refl
split_by b front rest false e p h = rw (e, h, p.are) refl

split_on : (front rest : List ℕ) → slice_split is_new_line (front ++ 10 ∷ rest) ≡ slice_split is_new_line front
    ++ slice_split is_new_line rest
split_on [] rest = refl
split_on (b ∷ front) rest = split_by b front rest _ refl (parts front) (split_on front rest)

ended_on : (parts more : List (List ℕ)) (next : List ℕ) → ended_in (parts ++ next ∷ more) ≡ ended_in
    (parts ++ [] ∷ []) ++ ended_in (next ∷ more)
unfolding ended_in
ended_on [] more next = refl
ended_on (part ∷ []) more next = refl
ended_on (part ∷ second ∷ parts) more next =
    ap (λ ls. strip_carriage_return part ∷ ls) (ended_on (second ∷ parts) more next)

lines_on : (taken rest : List ℕ) → EndsWhole taken → ended_lines (taken ++ rest) ≡ ended_lines taken ++ ended_lines rest
unfolding ended_lines ended_in
lines_on taken rest (inl e) = rw e refl
lines_on taken rest (inr (front, e)) =
    let p = parts rest in
    rw (e, append_assoc front (10 ∷ []) rest, split_on front rest, split_on front [], p.are)
    (ended_on (slice_split is_new_line front) p.more p.first)

-- ---- what reads give

-- the reads by which some bytes were taken
takes_given : {S : Type 0} (gives : S → S → List ℕ → Type 0) (a b : S) (ahead ahead' bytes : List ℕ)
    → Takes gives a b ahead ahead' bytes → (more : List (List ℕ))
    × (AreGiven gives a b more × (ahead ++ concat more ≡ bytes ++ ahead'))
takes_given {S} gives a b ahead ahead' bytes (inl (e, h)) = ([], (e, append-nil ahead ∙ h))
takes_given {S} gives a b ahead ahead' bytes (inr (r, (whole, few))) = (
  r.parts ++ r.last ∷ [],
  (
    given_on gives r.parts (r.last ∷ []) a r.mid b r.given (b, (r.gave, refl)),
    ap (λ l. ahead ++ l) (concat_on r.parts r.last) ∙ whole,
  ),
)

pub gave_none : {S : Type 0} (gives : S → S → List ℕ → Type 0) (a : S) → GaveLines gives a a [] []
unfolding ended_lines ended_in
gave_none {S} gives a = ([], (refl, ([], (refl, refl, inl refl))))

pub gave_more : {S : Type 0} (gives : S → S → List ℕ → Type 0) (a b c : S) (lines : List (List ℕ))
    (ahead ahead' part : List ℕ) → GaveLines gives a b lines ahead → Takes gives b c ahead ahead' (part ++ 10 ∷ [])
    → IsPlain part → GaveLines gives a c (lines ++ strip_carriage_return part ∷ []) ahead'
unfolding ended_lines ended_in
gave_more {S} gives a b c lines ahead ahead' part (reads, (given, (taken, (whole, are, ends)))) h plain =
    let m = takes_given gives b c ahead ahead' (part ++ 10 ∷ []) h in
    let all : concat (reads ++ m.0) ≡ (taken ++ (part ++ 10 ∷ [])) ++ ahead' = concat-append reads m.0
    ∙ ap (λ l. l ++ concat m.0) whole ∙ append_assoc taken ahead (concat m.0) ∙ ap (λ l. taken ++ l) m.1.1
    ∙ sym (append_assoc taken (part ++ 10 ∷ []) ahead') in
    let more : ended_lines (taken ++ (part ++ 10 ∷ [])) ≡ lines ++ strip_carriage_return part
    ∷ [] = lines_on taken (part ++ 10 ∷ []) ends ∙ rw (are, complete part [] plain) refl in (
      reads ++ m.0,
      (
        given_on gives reads m.0 a b c given m.1.0,
        (taken ++ (part ++ 10 ∷ []), (all, more, inr (taken ++ part, sym (append_assoc taken part (10 ∷ []))))),
      ),
    )

pub lines_are_given : {S : Type 0} (gives : S → S → List ℕ → Type 0) → LinesAreGiven gives
lines_are_given {S} gives = record { none = gave_none gives; more = gave_more gives }
