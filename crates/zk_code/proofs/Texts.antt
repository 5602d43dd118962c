-- The words of the text at an address are a text that stands there, and a text that stands there is them.
use Rattle.std.proofs.Common.{◌≡◌, ℕ, ◌+◌, ◌*◌, ◌<◌, ◌≤◌, true, false, List, [], ◌∷◌, length, Option, Some, None, refl}
use Rattle.std.proofs.Common.{sym, subst, ◌∙◌, arith, inl, inr}
use Rattle.std.specs.Prelude.{nat_le}
use Rattle.std.specs.List.{flat_map}
use Rattle.std.proofs.lemmas.Bool.Decides.{nat_tests}
use Rattle.zk_mem.specs.Map.{MemoryMap, code_word_at, HasBytes}
use Rattle.zk_mem.specs.Words.{word_before, words_at, text_end_at}
use Rattle.zk_mem.proofs.TextWords as memory
use Rattle.zk_code.specs.Grammar.{Stands, IsText, word}
use Rattle.zk_code.specs.Laws.{WordsAreText, TextIsWords}
use Rattle.zk_code.proofs.Standing.{chosen, some_is, stands_join, stands_split, stands_long, word_stands, word_found}

-- a text with a word more before it
text_more : (w : ℕ) (ws : List ℕ) → w < 32768 → IsText ws → IsText (w ∷ ws)
text_more w [] low t = absurd t
text_more w (x ∷ ws) low t = (low, t)

-- the words before which a word stands
before_is : (v w : ℕ) (ws : List ℕ) (o : Option (List ℕ)) → word_before v o ≡ Some (w ∷ ws) → (v ≡ w) × (o ≡ Some ws)
before_is v w ws None e = absurd cc
before_is v w ws (Some us) e = (cc, cc)

-- some words are a text that stands there
abbrev Texted : MemoryMap → ℕ → List ℕ → Type 0
Texted m a ws = IsText ws × Stands m a (flat_map word ws) (a + 2 * length ws)

-- by the first word
text_by : (m : MemoryMap) (a w : ℕ) (ws : List ℕ) (o : Option ℕ) → HasBytes m → code_word_at m a ≡ o
    → words_at m a ≡ Some (w ∷ ws) → (words_at m (a + 2) ≡ Some ws → Texted m (a + 2) ws) → Texted m a (w ∷ ws)
text_by m a w ws None fits there e more = let none = memory.word_gone m a there in absurd cc
text_by m a w ws (Some v) fits there e more =
    let here = word_stands m a v fits there in
    elim (chosen (nat_le 32768 v) (Some (v ∷ [])) (word_before v (words_at m (a + 2))) (Some (w ∷ ws))
    (sym (memory.word_there m a v there) ∙ e)) [
      | inl h ↦
          let test : nat_le 32768 v ≡ true = h.0 in
          let high : 32768 ≤ v = grind (arith, nat_tests) in
          subst (Texted m a) (some_is (v ∷ []) (w ∷ ws) h.1) (high, (here.0, (here.1.0, omega arith)))
      | inr h ↦
          let test : nat_le 32768 v ≡ false = h.0 in
          let low : v < 32768 = grind (arith, nat_tests) in
          let b = before_is v w ws (words_at m (a + 2)) h.1 in
          let rest = more b.1 in
          let end : a + 2 + 2 * length ws ≡ a + 2 * length (v ∷ ws) = omega arith in
          subst (λ (x : ℕ). Texted m a (x ∷ ws)) b.0 (
            text_more v ws low rest.0,
            stands_join m (word v) (flat_map word ws) a (a + 2) (a + 2 * length (v ∷ ws)) here (rw end at rest.1),
          )
    ]

-- the words of the text at an address are a text that stands there
pub words_are_text : WordsAreText
words_are_text m a [] fits e = let long = (memory.text_lies_inside m a [] e).0 in absurd (omega arith)
words_are_text m a (w ∷ ws) fits e =
    text_by m a w ws (code_word_at m a) fits refl e (λ rest. words_are_text m (a + 2) ws fits rest)

-- a text that stands there is those words
text_is : (m : MemoryMap) (a end : ℕ) (ws : List ℕ) → IsText ws → Stands m a (flat_map word ws) end
    → (words_at m a ≡ Some ws) × (end ≡ a + 2 * length ws)
text_is m a end [] t h = absurd t
text_is m a end (w ∷ []) t h =
    let s = stands_split m (word w) [] a end h in
    let long = stands_long m (word w) a s.0 s.1 in
    let test : nat_le 32768 w ≡ true = grind (arith, nat_tests) in
    (rw (memory.word_there m a w (word_found m a w s.0 s.1), test) refl, omega (arith, s.2))
text_is m a end (w ∷ x ∷ ws) t h =
    let s = stands_split m (word w) (flat_map word (x ∷ ws)) a end h in
    let long = stands_long m (word w) a s.0 s.1 in
    let next : s.0 ≡ a + 2 = omega arith in
    let low : w < 32768 = t.0 in
    let test : nat_le 32768 w ≡ false = grind (arith, nat_tests) in
    let rest = text_is m s.0 end (x ∷ ws) t.1 s.2 in
    let words : words_at m (a + 2) ≡ Some (x ∷ ws) = rw next at rest.0 in
    (rw (memory.word_there m a w (word_found m a w s.0 s.1), test, words) refl, omega (arith, rest.1))

-- as a law
pub text_is_words : TextIsWords
text_is_words m a end ws t h = text_is m a end ws t h

-- ---- where a text ends

-- by its words
end_by : (m : MemoryMap) (a end : ℕ) (o : Option (List ℕ)) → HasBytes m → words_at m a ≡ o
    → text_end_at m a ≡ Some end → (ws : List ℕ) × IsText ws × Stands m a (flat_map word ws) end
unfolding text_end_at
end_by m a end None fits there e = let none = rw there at e in absurd cc
end_by m a end (Some ws) fits there e =
    let t = words_are_text m a ws fits there in
    let last : a + 2 * length ws ≡ end = some_is _ _ (rw there at e) in
    (ws, t.0, rw last at t.1)

-- before the end a text stands
pub text_end_takes : (m : MemoryMap) (a end : ℕ) → HasBytes m → text_end_at m a ≡ Some end
    → (ws : List ℕ) × IsText ws × Stands m a (flat_map word ws) end
text_end_takes m a end fits e = end_by m a end (words_at m a) fits refl e

-- a text that stands there ends there
pub text_end_again : (m : MemoryMap) (a end : ℕ) (ws : List ℕ) → IsText ws → Stands m a (flat_map word ws) end
    → text_end_at m a ≡ Some end
unfolding text_end_at
text_end_again m a end ws t h = let p = text_is m a end ws t h in rw (p.0, p.1) refl
