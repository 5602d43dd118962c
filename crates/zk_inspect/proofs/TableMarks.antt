-- Marks on the texts of abbreviations.
use Rattle.std.proofs.Common.{◌≡◌, ◌≢◌, ◌∙◌, ℕ, ◌+◌, ◌*◌, ◌<◌, ◌≤◌, inl, inr, Bool, true, List, length, Result, Ok, Err}
use Rattle.std.proofs.Common.{sym, ap, subst, arith, nat_lt}
use Rattle.std.specs.Prelude.{slice_set}
use Rattle.std.proofs.lemmas.Bool.{cases_eq}
use Rattle.std.proofs.lemmas.List.{length-set}
use Rattle.zk_mem.specs.declared.fault.Fault.{Fault}
use Rattle.zk_mem.specs.declared.fault.Fault.TheVariants.{BadAddress}
use Rattle.zk_mem.specs.Header.{header_of}
use Rattle.zk_mem.specs.Map.{MemoryMap, readable_end, word_at}
use Rattle.zk_tables.proofs.Steps.{chosen}
use Rattle.zk_inspect.specs.Lists.{IsMarked}
use Rattle.zk_inspect.specs.Texts.{table_place}
use Rattle.zk_inspect.specs.TextTests.{AreTableMarks, IsTableMarks}
use Rattle.zk_inspect.proofs.Marking.{marked_cases, marked_now, marked_still}

pub table_begins : (m : MemoryMap) (texts unread : List Bool) → length texts ≡ 131071 → length unread ≡ 131071
    → ((a : ℕ) → IsMarked texts a → ⊥) → ((a : ℕ) → IsMarked unread a → ⊥) → IsTableMarks m 0 texts unread
table_begins m texts unread size unread_size none no_word = record {
  size = size;
  unread_size = unread_size;
  sound = λ a h. absurd (none a h);
  whole = λ n word lt e. absurd (omega arith);
  unread_sound = λ a h. absurd (no_word a h);
  unread_whole = λ n lt e. absurd (omega arith);
}

same_word : (r : Result ℕ Fault) (v w : ℕ) → r ≡ Ok v → r ≡ Ok w → v ≡ w
same_word r v w h k = cc

-- a word that names a text
pub table_word : (m : MemoryMap) (n word : ℕ) (texts new unread : List Bool) → n < 96
    → (header_of m.file).abbreviations ≢ 0 → word < 65536 → word_at m (table_place m n) ≡ Ok word
    → IsTableMarks m n texts unread → new ≡ slice_set texts (2 * word) true → IsTableMarks m (n + 1) new unread
table_word m n word texts new unread few tabled small read h is =
    let size = h.size in
    let inside : 2 * word < length texts = omega arith in
    record {
      size = ap length is ∙ length-set texts (2 * word) true ∙ h.size;
      unread_size = h.unread_size;
      sound = λ a k. elim (marked_cases texts (2 * word) a (subst (λ (bs : List Bool). IsMarked bs a) is k)) [
        | inl e ↦ record { number = n; few = few; tabled = tabled; word = word; read = read; address = e }
        | inr old ↦ h.sound a old
      ];
      whole = λ k w lt r. subst (λ (bs : List Bool). IsMarked bs (2 * w)) (sym is) (elim (cases_eq k n) [
        | inl s ↦ subst (λ (x : ℕ). IsMarked (slice_set texts (2 * word) true) (2 * x))
            (same_word (word_at m (table_place m n)) word w read
            (ap (λ (j : ℕ). word_at m (table_place m j)) (sym s) ∙ r)) (marked_now texts (2 * word) inside)
        | inr ne ↦ marked_still texts (2 * word) (2 * w) inside (h.whole k w (omega arith) r)
      ]);
      unread_sound = h.unread_sound;
      unread_whole = λ k lt r. elim (cases_eq k n) [
        | inl s ↦ absurd (let e : word_at m (table_place m n) ≡ Err
            BadAddress = ap (λ (j : ℕ). word_at m (table_place m j)) (sym s) ∙ r in cc)
        | inr ne ↦ h.unread_whole k (omega arith) r
      ];
    }

bad_word : (m : MemoryMap) (a : ℕ) (f : Fault) → word_at m a ≡ Err f → word_at m a ≡ Err BadAddress
unfolding word_at
bad_word m a f h =
    elim (chosen (nat_lt (a + 1) (readable_end m)) _ _ _ h) [ inl p ↦ absurd (let e = p.1 in cc) | inr p ↦ h ∙ sym p.1 ]

-- a word that can't be read
pub table_unread : (m : MemoryMap) (n : ℕ) (f : Fault) (texts unread new : List Bool) → n < 96
    → (header_of m.file).abbreviations ≢ 0 → table_place m n < 131071 → word_at m (table_place m n) ≡ Err f
    → IsTableMarks m n texts unread → new ≡ slice_set unread (table_place m n) true → IsTableMarks m (n + 1) texts new
table_unread m n f texts unread new few tabled near fails h is =
    let size = h.unread_size in
    let inside : table_place m n < length unread = omega arith in
    let bad = bad_word m (table_place m n) f fails in
    record {
      size = h.size;
      unread_size = ap length is ∙ length-set unread (table_place m n) true ∙ h.unread_size;
      sound = h.sound;
      whole = λ k w lt r. elim (cases_eq k n) [
        | inl s ↦ absurd (let e : word_at m (table_place m n) ≡ Ok w = ap (λ (j : ℕ). word_at m (table_place m j))
            (sym s) ∙ r in cc)
        | inr ne ↦ h.whole k w (omega arith) r
      ];
      unread_sound =
          λ a k. elim (marked_cases unread (table_place m n) a (subst (λ (bs : List Bool). IsMarked bs a) is k)) [
            | inl e ↦ record { number = n; few = few; tabled = tabled; address = e; unread = ap (word_at m) e ∙ bad }
            | inr old ↦ h.unread_sound a old
          ];
      unread_whole = λ k lt r. subst (λ (bs : List Bool). IsMarked bs (table_place m k)) (sym is) (elim (cases_eq k n) [
        | inl s ↦ subst (λ (x : ℕ). IsMarked (slice_set unread (table_place m n) true) (table_place m x)) (sym s)
            (marked_now unread (table_place m n) inside)
        | inr ne ↦ marked_still unread (table_place m n) (table_place m k) inside (h.unread_whole k (omega arith) r)
      ]);
    }

-- the whole table
pub table_ends : (m : MemoryMap) (n : ℕ) (texts unread : List Bool) → 96 ≤ n → IsTableMarks m n texts unread
    → AreTableMarks m texts unread
table_ends m n texts unread le h = record {
  size = h.size;
  unread_size = h.unread_size;
  named =
      λ a. (
        h.sound a,
        λ p. (let few = p.few in subst (λ (x : ℕ). IsMarked texts x) (sym p.address)
            (h.whole p.number p.word (omega arith) p.read)),
      );
  words =
      λ a. (
        h.unread_sound a,
        λ p. (let few = p.few in subst (λ (x : ℕ). IsMarked unread x) (sym p.address)
            (h.unread_whole p.number (omega arith) (ap (word_at m) (sym p.address) ∙ p.unread))),
      );
}

-- there is none
pub table_missing : (m : MemoryMap) (texts unread : List Bool) → (header_of m.file).abbreviations ≡ 0
    → IsTableMarks m 0 texts unread → AreTableMarks m texts unread
table_missing m texts unread none h = record {
  size = h.size;
  unread_size = h.unread_size;
  named = λ a. (h.sound a, λ p. absurd (p.tabled none));
  words = λ a. (h.unread_sound a, λ p. absurd (p.tabled none));
}
