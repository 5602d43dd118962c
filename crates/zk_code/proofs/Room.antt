-- Where there are bytes enough, nothing fails for lack of bytes.
use Rattle.std.proofs.Common.{◌≡◌, ℕ, zero, suc, ◌+◌, ◌*◌, ◌/◌, ◌<◌, ◌≤◌, false, List, [], ◌∷◌, length, Option, Some}
use Rattle.std.proofs.Common.{None, Err, refl, sym, ◌∙◌, arith, inl, inr}
use Rattle.std.specs.Prelude.{nat_le}
use Rattle.std.proofs.lemmas.Bool.{cases_lt}
use Rattle.std.proofs.lemmas.Bool.Decides.{nat_tests}
use Rattle.zk_mem.specs.declared.fault.Fault.{Fault}
use Rattle.zk_mem.specs.declared.fault.Fault.TheVariants.{CodePastEnd}
use Rattle.zk_mem.specs.Map.{MemoryMap, cell_at, HasBytes}
use Rattle.zk_mem.specs.Header.{word_in}
use Rattle.zk_mem.specs.Words.{word_before, words_at, text_end_at}
use Rattle.zk_mem.proofs.TextWords as memory
use Rattle.zk_code.proofs.Standing.{chosen, word_here, word_stands}
use Rattle.zk_code.proofs.Whole.{parts_at, parts_read}

-- from q on each byte is 128
pub record EndsMarked (m : MemoryMap) (q : ℕ) : Type 0 where
  pub marked : (c v : ℕ) → q ≤ c → cell_at m c ≡ Some v → v ≡ 128
  pub long : q + 3 ≤ length m.bytes

-- no words before which a word stands
before_none : (w : ℕ) (o : Option (List ℕ)) → word_before w o ≡ None → o ≡ None
before_none w None e = refl
before_none w (Some ws) e = absurd cc

-- a text without an end has no words
end_none : (m : MemoryMap) (a : ℕ) (o : Option (List ℕ)) → words_at m a ≡ o → text_end_at m a ≡ None
    → words_at m a ≡ None
unfolding text_end_at
end_none m a None there e = there
end_none m a (Some ws) there e = let end = rw there at e in absurd cc

-- there are words of a text where bytes 128 stand after it
words_end : (m : MemoryMap) (q n a : ℕ) → HasBytes m → EndsMarked m q → length m.bytes ≤ a + 2 * n
    → a + 1 < length m.bytes → words_at m a ≡ None → ⊥
words_end m q zero a fits r le lt e = omega arith
words_end m q (suc n) a fits r le lt e =
    let w = word_in m.bytes a in
    let there = word_here m a lt in
    elim (chosen (nat_le 32768 w) (Some (w ∷ [])) (word_before w (words_at m (a + 2))) None
    (sym (memory.word_there m a w there) ∙ e)) [
      | inl p ↦ absurd cc
      | inr p ↦
          let test : nat_le 32768 w ≡ false = p.0 in
          let low : w < 32768 = grind (arith, nat_tests) in
          let here = word_stands m a w fits there in
          elim (cases_lt a q) [
            | inl before ↦ (let long = r.long in words_end m q n (a + 2) fits r (omega arith) (omega arith)
                (before_none w (words_at m (a + 2)) p.1))
            | inr after ↦ (let high = r.marked a (w / 256) after here.0 in omega arith)
          ]
    ]

-- so a text ends there
text_ends : (m : MemoryMap) (q a : ℕ) → HasBytes m → EndsMarked m q → a + 1 < length m.bytes
    → text_end_at m a ≡ None → ⊥
text_ends m q a fits r lt e =
    words_end m q (length m.bytes) a fits r (omega arith) lt (end_none m a (words_at m a) refl e)

-- the longest instruction without a text has 23 bytes
pub parts_inside : (m : MemoryMap) (q a : ℕ) → HasBytes m → EndsMarked m q → a + 40 ≤ length m.bytes
    → parts_at m a ≡ Err CodePastEnd → ⊥
parts_inside m q a fits r room e =
    let parts = parts_read (λ (d : Fault). d ≡ CodePastEnd → ⊥) m a fits (λ _ same. absurd cc)
    (λ lt _. omega arith) (λ b le none _. text_ends m q b fits r (omega arith) none) in
    parts.faults CodePastEnd e refl
