-- Marks on the texts of a story.
use Rattle.std.proofs.Common.{◌≡◌, ◌∙◌, ℕ, ◌+◌, ◌<◌, ◌≤◌, inl, inr, Bool, List, length, get_or, Option, Some, None}
use Rattle.std.proofs.Common.{Result, Ok, Err, sym, ap, subst, arith}
use Rattle.std.specs.Prelude.{◌↔◌}
use Rattle.std.specs.List.{flat_map}
use Rattle.std.proofs.lemmas.Bool.{cases_eq}
use Rattle.std.proofs.lemmas.Grind.{get_or_default_zero}
use Rattle.zk_mem.specs.declared.fault.Fault.{Fault}
use Rattle.zk_mem.specs.Map.{MemoryMap}
use Rattle.zk_tables.specs.Layout.{entry_of}
use Rattle.zk_tables.specs.Properties.{name_of}
use Rattle.zk_code.specs.declared.instr.Instr.{Instr}
use Rattle.zk_code.specs.Grammar.{IsInstruction, IsTextAt, word}
use Rattle.zk_code.specs.Reach.{IsReached}
use Rattle.zk_code.proofs.Standing.{stands_long}
use Rattle.zk_code.proofs.Whole.{at_most_one}
use Rattle.zk_code.proofs.Longer.{ends_inside}
use Rattle.zk_inspect.specs.Lists.{IsListOf, IsMarked}
use Rattle.zk_inspect.specs.ObjectTests.{IsCounted}
use Rattle.zk_inspect.specs.Texts.{IsPrinted, constant_text}
use Rattle.zk_inspect.specs.Texts.IsPrinted.{Name, Inline, Addressed}
use Rattle.zk_inspect.specs.TextTests.{IsTextMarks, Keeps, NamesMarked, TextsMarked}
use Rattle.zk_inspect.proofs.Answered.{ok_is}
use Rattle.zk_inspect.proofs.Entries.{zero_none}

-- a text begins where the bytes before it end
place_by : (words : List ℕ) (t middle : ℕ) (o : Option ℕ) → o ≡ Some t → IsTextAt o words middle → t ≡ middle
place_by words t middle None e h = absurd cc
place_by words t middle (Some u) e h = let same : u ≡ t = cc in sym same ∙ h.1

pub text_inside : (m : MemoryMap) (a : ℕ) (i : Instr) (b t : ℕ) → IsInstruction m a i b → i.text ≡ Some t
    → t ≤ length m.bytes
text_inside m a i b t s e =
    let place = place_by s.0.words t s.0.middle i.text e s.0.text in
    let long = stands_long m (flat_map word s.0.words) s.0.middle b s.0.text_bytes in
    let inside = (ends_inside m a i b s).1 in
    omega arith

pub inline_printed : (m : MemoryMap) (a : ℕ) (i : Instr) (t : ℕ) → IsReached m a → IsInstruction m a i i.next
    → i.text ≡ Some t → IsPrinted m t
inline_printed m a i t r s e = Inline a i.next t i r s e

pub addressed_printed : (m : MemoryMap) (a : ℕ) (i : Instr) (t : ℕ) → IsReached m a → IsInstruction m a i i.next
    → constant_text m i ≡ Some t → IsPrinted m t
addressed_printed m a i t r s e = Addressed a i.next t i r s e

pub name_printed : (m : MemoryMap) (n o t : ℕ) → IsCounted m n → 0 < o → o ≤ n → name_of m o ≡ Ok (Some t)
    → IsPrinted m t
name_printed m n o t c some le h =
    let at = ok_is (entry_of m o) (c.whole o some le) in Name o at.0 t ((c.listed o at.0).1 (le, at.1)) h

same_name : (r : Result (Option ℕ) Fault) (a b : ℕ) → r ≡ Ok (Some a) → r ≡ Ok (Some b) → a ≡ b
same_name r a b h k = let e : Some a ≡ Some b = cc in cc

-- one name more
pub names_more : (m : MemoryMap) (before t : ℕ) (old new : List Bool) → NamesMarked m before old → Keeps old new
    → name_of m (before + 1) ≡ Ok (Some t) → IsMarked new t → NamesMarked m (before + 1) new
names_more m before t old new names keeps h now o entry a le l e = elim (cases_eq o (before + 1)) [
  | inl s ↦ subst (λ (x : ℕ). IsMarked new x) (same_name (name_of m (before + 1)) t a h
      (ap (name_of m) (sym s) ∙ e)) now
  | inr ne ↦ keeps a (names o entry a (omega arith) l e)
]

-- an object without a name
pub names_none : (m : MemoryMap) (before : ℕ) (marks : List Bool) → NamesMarked m before marks
    → ((t : ℕ) → name_of m (before + 1) ≡ Ok (Some t) → ⊥) → NamesMarked m (before + 1) marks
names_none m before marks names none o entry a le l e = elim (cases_eq o (before + 1)) [
  | inl s ↦ absurd (none a (ap (name_of m) (sym s) ∙ e))
  | inr ne ↦ names o entry a (omega arith) l e
]

-- the texts of an instruction
pub texts_marked : (m : MemoryMap) (a : ℕ) (i : Instr) (marks : List Bool) → IsInstruction m a i i.next
    → ((t : ℕ) → i.text ≡ Some t → IsMarked marks t) → ((t : ℕ) → constant_text m i ≡ Some t → IsMarked marks t)
    → TextsMarked m a marks
texts_marked m a i marks s inline addressed j b t at (inl e) =
    let same = (at_most_one m a j i b i.next at s).0 in inline t (ap (λ (x : Instr). x.text) (sym same) ∙ e)
texts_marked m a i marks s inline addressed j b t at (inr e) =
    let same = (at_most_one m a j i b i.next at s).0 in addressed t (ap (constant_text m) (sym same) ∙ e)

-- no instruction has no texts
pub texts_none : (m : MemoryMap) (a : ℕ) (marks : List Bool) → ((i : Instr) (b : ℕ) → IsInstruction m a i b → ⊥)
    → TextsMarked m a marks
texts_none m a marks none j b t at e = absurd (none j b at)

-- what a name's answer says
pub name_is : (r : Result (Option ℕ) Fault) (o : Option ℕ) (t : ℕ) → Ok o ≡ r → o ≡ Some t → r ≡ Ok (Some t)
name_is r o t h e = sym h ∙ ap (λ (x : Option ℕ). Ok x) e

pub name_not : (r : Result (Option ℕ) Fault) (o : Option ℕ) → Ok o ≡ r → o ≡ None → (t : ℕ) → r ≡ Ok (Some t) → ⊥
name_not r o h e t k = let same : o ≡ Some t = cc in absurd cc

pub name_err : (r : Result (Option ℕ) Fault) (f : Fault) → Err f ≡ r → (t : ℕ) → r ≡ Ok (Some t) → ⊥
name_err r f h t k = absurd cc

-- ---- all texts that are printed

pub names_begin : (m : MemoryMap) (marks : List Bool) → NamesMarked m 0 marks
names_begin m marks o entry a le l e = absurd (zero_none m o entry le l.stands)

pub names_kept : (m : MemoryMap) (n : ℕ) (old new : List Bool) → NamesMarked m n old → Keeps old new
    → NamesMarked m n new
names_kept m n old new names keeps o entry a le l e = keeps a (names o entry a le l e)

-- the texts of one instruction more
pub code_more : (m : MemoryMap) (xs : List ℕ) (i a : ℕ) (old new : List Bool)
    → ((k : ℕ) → k < i → TextsMarked m (get_or xs k 0) old) → Keeps old new → get_or xs i 0 ≡ a
    → TextsMarked m a new → (k : ℕ) → k < i + 1 → TextsMarked m (get_or xs k 0) new
code_more m xs i a old new before keeps at now k lt = elim (cases_eq k i) [
  | inl s ↦ subst (λ (x : ℕ). TextsMarked m x new) (sym (ap (λ (j : ℕ). get_or xs j 0) s ∙ at)) now
  | inr ne ↦ λ j b t s e. keeps t (before k (omega arith) j b t s e)
]

pub code_end : (m : MemoryMap) (xs : List ℕ) (i : ℕ) (marks : List Bool) → IsListOf (IsReached m) xs
    → length xs ≤ i → ((k : ℕ) → k < i → TextsMarked m (get_or xs k 0) marks) → (a : ℕ) → IsReached m a
    → TextsMarked m a marks
code_end m xs i marks h end all a r =
    let k = h.whole a r in
    let at : get_or xs k.0 0 ≡ a = sym (get_or_default_zero xs k.0 a k.1) ∙ k.2 in
    subst (λ (x : ℕ). TextsMarked m x marks) at (all k.0 (let lt = k.1 in omega arith))

pub none_text_marks : (m : MemoryMap) (marks : List Bool) → length marks ≡ 524289
    → ((a : ℕ) → IsMarked marks a → ⊥) → IsTextMarks m marks
none_text_marks m marks size none = record { size = size; sound = λ a h. absurd (none a h) }

printed_marked : (m : MemoryMap) (n : ℕ) (marks : List Bool) → IsCounted m n → NamesMarked m n marks
    → ((a : ℕ) → IsReached m a → TextsMarked m a marks) → (a : ℕ) → IsPrinted m a → IsMarked marks a
printed_marked m n marks c names texts _ (Name o entry a l e) = names o entry a ((c.listed o entry).0 l).0 l e
printed_marked m n marks c names texts _ (Inline a b t i r s e) = texts a r i b t s (inl e)
printed_marked m n marks c names texts _ (Addressed a b t i r s e) = texts a r i b t s (inr e)

pub printed_exact : (m : MemoryMap) (n : ℕ) (marks : List Bool) → IsTextMarks m marks → IsCounted m n
    → NamesMarked m n marks → ((a : ℕ) → IsReached m a → TextsMarked m a marks) → (a : ℕ)
    → IsMarked marks a ↔ IsPrinted m a
printed_exact m n marks h c names texts a = (h.sound a, printed_marked m n marks c names texts a)
