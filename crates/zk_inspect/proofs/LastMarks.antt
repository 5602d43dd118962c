-- Marks that are made from the last number on.
use Rattle.std.proofs.Common.{◌≡◌, ◌∙◌, ℕ, ◌+◌, ◌<◌, ◌≤◌, inl, inr, Bool, true, List, length, sym, ap, subst, arith}
use Rattle.std.specs.Prelude.{◌↔◌, slice_set}
use Rattle.std.proofs.lemmas.Bool.{cases_eq}
use Rattle.std.proofs.lemmas.List.{length-set}
use Rattle.zk_inspect.specs.Lists.{AreLastMarks, IsMarked}
use Rattle.zk_inspect.proofs.Marking.{marked_cases, marked_now, marked_still}

pub last_begin : (P : ℕ → Type 0) (size end : ℕ) (marks : List Bool) → length marks ≡ size
    → ((a : ℕ) → IsMarked marks a → ⊥) → ((a : ℕ) → end ≤ a → P a → ⊥) → AreLastMarks P size end 0 marks
last_begin P size end marks is none past = record {
  size_is = is;
  known = λ a le. (λ h. absurd (none a h), λ p. absurd (past a (omega arith) p));
  free = λ a lt. none a;
}

-- one more
pub last_more : (P : ℕ → Type 0) (size end behind a : ℕ) (old new : List Bool) → a + behind + 1 ≡ end → end ≤ size
    → P a → AreLastMarks P size end behind old → new ≡ slice_set old a true → AreLastMarks P size end (behind + 1) new
last_more P size end behind a old new at near now h is =
    let long = h.size_is in
    let inside : a < length old = omega arith in
    record {
      size_is = ap length is ∙ length-set old a true ∙ h.size_is;
      known = λ b le. elim (cases_eq b a) [
        | inl s ↦ (
          λ k. subst P (sym s) now,
          λ l. subst (λ (bs : List Bool). IsMarked bs b) (sym is)
              (subst (λ (x : ℕ). IsMarked (slice_set old a true) x) (sym s) (marked_now old a inside)),
        )
        | inr ne ↦ (
          λ k. elim (marked_cases old a b (subst (λ (bs : List Bool). IsMarked bs b) is k))
              [ inl s ↦ absurd (ne s) | inr o ↦ (h.known b (omega arith)).0 o ],
          λ l. subst (λ (bs : List Bool). IsMarked bs b) (sym is)
              (marked_still old a b inside ((h.known b (omega arith)).1 l)),
        )
      ];
      free = λ b lt k. elim (marked_cases old a b (subst (λ (bs : List Bool). IsMarked bs b) is k))
          [ inl s ↦ omega arith | inr o ↦ h.free b (omega arith) o ];
    }

-- it does not hold of the next
pub last_none : (P : ℕ → Type 0) (size end behind a : ℕ) (marks : List Bool) → a + behind + 1 ≡ end → (P a → ⊥)
    → AreLastMarks P size end behind marks → AreLastMarks P size end (behind + 1) marks
last_none P size end behind a marks at none h = record {
  size_is = h.size_is;
  known = λ b le. elim (cases_eq b a) [
    | inl s ↦ (λ k. absurd (h.free b (omega arith) k), λ l. absurd (none (subst P s l)))
    | inr ne ↦ h.known b (omega arith)
  ];
  free = λ b lt k. h.free b (omega arith) k;
}

pub last_end : (P : ℕ → Type 0) (size end behind : ℕ) (marks : List Bool) → end ≤ behind
    → AreLastMarks P size end behind marks → (a : ℕ) → IsMarked marks a ↔ P a
last_end P size end behind marks le h a = h.known a (omega arith)
