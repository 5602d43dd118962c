-- The words of a text, one after another.
use Rattle.std.proofs.Common.{◌≡◌, ◌≤◌, ◌<◌, ℕ, ◌+◌, List, [], ◌∷◌, ◌++◌, length, Option, Some, None, Ok, nat_le, Bool}
use Rattle.std.proofs.Common.{true, false, refl, sym, ◌∙◌, arith}
use Rattle.std.proofs.lemmas.Bool.Decides.{nat_tests}
use Rattle.zk_mem.specs.Map.{MemoryMap, code_word_at}
use Rattle.zk_mem.specs.Words.{word_before, words_at, text_end_at}
use Rattle.zk_mem.proofs.TextWords.{word_there, end_past}
use Rattle.zk_text.specs.declared.pieces.Pending.{Pending}
use Rattle.zk_text.specs.declared.pieces.Pending.TheVariants as held
use Rattle.zk_text.specs.Words.{z_characters}
use Rattle.zk_text.specs.Pieces.{pieces_past}
use Rattle.zk_text.specs.Reading.{held_back}
use Rattle.zk_text.specs.Meaning.{Units, values, meaning}

before_some : (w : ℕ) (o : Option (List ℕ)) (vs : List ℕ) → word_before w o ≡ Some vs
    → (us : List ℕ) × (o ≡ Some us) × (vs ≡ w ∷ us)
before_some w None vs h = absurd cc
before_some w (Some us) vs h = (us, refl, cc)

-- a word that is not the last has others after it
pub word_on : (m : MemoryMap) (a w : ℕ) (vs : List ℕ) → code_word_at m a ≡ Some w → w < 32768
    → words_at m a ≡ Some vs → (us : List ℕ) × (words_at m (a + 2) ≡ Some us) × (vs ≡ w ∷ us)
word_on m a w vs e low h =
    let test : nat_le 32768 w ≡ false = grind (arith, nat_tests) in
    before_some w (words_at m (a + 2)) vs (sym (rw test at (word_there m a w e)) ∙ h)

pub word_last : (m : MemoryMap) (a w : ℕ) (vs : List ℕ) → code_word_at m a ≡ Some w → 32768 ≤ w
    → words_at m a ≡ Some vs → vs ≡ w ∷ []
word_last m a w vs e high h =
    let test : nat_le 32768 w ≡ true = grind (arith, nat_tests) in
    let one = rw test at (word_there m a w e) in
    cc

-- the first word of a text, with or without others
pub word_first : (m : MemoryMap) (a w : ℕ) (vs : List ℕ) → code_word_at m a ≡ Some w → words_at m a ≡ Some vs
    → (us : List ℕ) × (vs ≡ w ∷ us)
word_first m a w vs e h = go (nat_le 32768 w) refl
  where
    go : (b : Bool) → nat_le 32768 w ≡ b → (us : List ℕ) × (vs ≡ w ∷ us)
    go true test = let one = rw test at (word_there m a w e) in ([], cc)
    go false test =
        let p = before_some w (words_at m (a + 2)) vs (sym (rw test at (word_there m a w e)) ∙ h) in (p.0, p.2)

-- what is held back at the end shows nothing
pub held_ends : (m : MemoryMap) (expand : ℕ → Units) (h : Pending)
    → meaning m expand (held_back h ++ z_characters []) ≡ Ok []
unfolding values pieces_past z_characters
held_ends m expand held.Nothing = refl
held_ends m expand held.First = refl
held_ends m expand held.Second = refl
held_ends m expand held.Third = refl
held_ends m expand held.ShiftToA1 = refl
held_ends m expand held.ShiftToA2 = refl
held_ends m expand held.Escape = refl
held_ends m expand (held.UpperHalf h) = refl

-- a text that goes on does not lie past the end
pub text_within : (m : MemoryMap) (a : ℕ) (vs : List ℕ) → length m.bytes ≤ a → words_at m a ≡ Some vs → ⊥
unfolding text_end_at
text_within m a vs h there = let none = rw there at (end_past m a h) in absurd cc
