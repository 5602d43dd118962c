-- The texts that lie in a story, step by step.
use Rattle.std.proofs.Common.{◌≡◌, ◌∙◌, ℕ, ◌+◌, ◌*◌, ◌-◌, ◌<◌, ◌≤◌, ◌⊎◌, ◌↔◌, Bool, true, List, [], ◌∷◌, ◌++◌, length}
use Rattle.std.proofs.Common.{Option, Some, None, Result, Ok, Err, IfOk, refl, sym, subst, ap, arith, inl, inr}
use Rattle.std.specs.Prelude.{get_or, slice_set, option_map}
use Rattle.std.proofs.lemmas.List.Elements.{Contains-push, Contains-append_left, Contains-push_cases}
use Rattle.zk_mem.specs.Map.{MemoryMap}
use Rattle.zk_mem.specs.Words.{words_at, text_end_at}
use Rattle.zk_mem.proofs.TextWords.{text_lies_inside}
use Rattle.zk_code.specs.declared.instr.Instr.{Instr}
use Rattle.zk_code.specs.Extent.{IsExtent, next_packed}
use Rattle.zk_code.specs.Grammar.{IsInstruction}
use Rattle.zk_code.specs.Routines.{code_start}
use Rattle.zk_code.proofs.Extents.{one_extent}
use Rattle.zk_code.proofs.Whole.{at_most_one}
use Rattle.zk_inspect.specs.declared.reach.code.Code.{Code}
use Rattle.zk_inspect.specs.Lists.{IsAmong, IsListOf, IsMarked}
use Rattle.zk_inspect.specs.LyingTexts.{IsAfterLast, IsNextText, IsPrintedBy, IsText, LiesText, PrintsText, packed_text}
use Rattle.zk_inspect.proofs.Besides.{among_same, next_from}
use Rattle.zk_inspect.proofs.Marking.{marked_cases, marked_now, marked_still, some_same}
use Rattle.zk_inspect.proofs.Searching.{nothing_in}

-- ---- where a text ends

end_by : (m : MemoryMap) (a e : ℕ) (o : Option (List ℕ)) → words_at m a ≡ o
    → option_map (λ ws. a + 2 * length ws) o ≡ Some e → (a < e) × (e ≤ length m.bytes)
end_by m a e (Some ws) w h = let same = some_same _ e h in let lies = text_lies_inside m a ws w in
    let some = lies.0 in let end = lies.1 in (omega arith, omega arith)
end_by m a e None w h = absurd cc

end_later : (m : MemoryMap) (a e : ℕ) → text_end_at m a ≡ Some e → (a < e) × (e ≤ length m.bytes)
unfolding text_end_at
end_later m a e h = end_by m a e (words_at m a) refl h

pub text_inside : (m : MemoryMap) (a e : ℕ) → text_end_at m a ≡ Some e → a < length m.bytes
text_inside m a e h = let k = end_later m a e h in let lt = k.0 in let le = k.1 in omega arith

pub text_later : (m : MemoryMap) (a b : ℕ) → IsNextText m a b → a < b
text_later m a b h = let lt = (end_later m a h.0 h.1).0 in let le = next_from m h.0 in let e = h.2 in omega arith

-- ---- marks on texts

pub text_marked : (m : MemoryMap) (a e : ℕ) (old new : List Bool) → text_end_at m a ≡ Some e
    → length old ≡ length m.bytes → new ≡ slice_set old a true → (t : ℕ) → IsMarked new t
    ↔ (IsMarked old t ⊎ ((t ≡ a) × IsText m t))
text_marked m a e old new ends size is t = (
  λ k. elim (marked_cases old a t (subst (λ (bs : List Bool). IsMarked bs t) is k))
      [ inl same ↦ inr (same, subst (IsText m) (sym same) (e, ends)) | inr before ↦ inl before ],
  λ k. subst (λ (bs : List Bool). IsMarked bs t) (sym is)
      (let lt : a < length old = (let within = text_inside m a e ends in omega arith) in elim k [
        | inl before ↦ marked_still old a t lt before
        | inr h ↦ subst (IsMarked (slice_set old a true)) (sym h.0) (marked_now old a lt)
      ]),
)

pub no_text_marked : (m : MemoryMap) (a : ℕ) (old : List Bool) → text_end_at m a ≡ None → (t : ℕ)
    → IsMarked old t ↔ (IsMarked old t ⊎ ((t ≡ a) × IsText m t))
no_text_marked m a old none t = (
  λ k. inl k,
  λ k. elim k [
    | inl before ↦ before
    | inr h ↦ absurd (let e : text_end_at m a ≡ Some h.1.0 = subst (λ (x : ℕ). text_end_at m x ≡ Some h.1.0) h.0
        h.1.1 in let f = sym none ∙ e in cc)
  ],
)

-- one that is what something says of, and no other
pub marked_by : (m : MemoryMap) (Q : ℕ → Type 0) (a : ℕ) (old new : List Bool) → Q a → ((t : ℕ) → Q t → t ≡ a)
    → ((t : ℕ) → IsMarked new t ↔ (IsMarked old t ⊎ ((t ≡ a) × IsText m t))) → (t : ℕ)
    → IsMarked new t ↔ (IsMarked old t ⊎ (Q t × IsText m t))
marked_by m Q a old new q only h t = (
  λ k. elim ((h t).0 k) [ inl before ↦ inl before | inr j ↦ inr (subst Q (sym j.0) q, j.1) ],
  λ k. elim k [ inl before ↦ (h t).1 (inl before) | inr j ↦ (h t).1 (inr (only t j.0, j.1)) ],
)

pub none_marked_by : (m : MemoryMap) (Q : ℕ → Type 0) (old : List Bool) → ((t : ℕ) → Q t → ⊥) → (t : ℕ)
    → IsMarked old t ↔ (IsMarked old t ⊎ (Q t × IsText m t))
none_marked_by m Q old none t = (λ k. inl k, λ k. elim k [ inl before ↦ before | inr j ↦ absurd (none t j.0) ])

-- the text that an instruction prints
pub one_printed : (m : MemoryMap) (a b : ℕ) (i : Instr) (v : Option ℕ) → IsInstruction m a i b
    → packed_text m i ≡ v → (t : ℕ) → PrintsText m a t → v ≡ Some t
one_printed m a b i v s e t h = let same = at_most_one m a h.instr i h.next b h.stands s in
    sym e ∙ subst (λ (j : Instr). packed_text m j ≡ Some t) same.0 h.prints

-- and the next one
pub next_text_marked : (m : MemoryMap) (a e : ℕ) (old new : List Bool) → text_end_at m a ≡ Some e
    → ((t : ℕ) → IsMarked new t ↔ (IsMarked old t ⊎ ((t ≡ next_packed m e) × IsText m t))) → (t : ℕ)
    → IsMarked new t ↔ (IsMarked old t ⊎ IsNextText m a t)
next_text_marked m a e old new ends h t = (
  λ k. elim ((h t).0 k) [ inl before ↦ inl before | inr j ↦ inr (e, ends, j.0, j.1) ],
  λ k. elim k [
    | inl before ↦ (h t).1 (inl before)
    | inr j ↦ (h t).1
        (inr (j.2 ∙ ap (next_packed m) (some_same j.0 e (sym j.1 ∙ ends)), j.3))
  ],
)

pub no_next_text : (m : MemoryMap) (a : ℕ) (old : List Bool) → text_end_at m a ≡ None → (t : ℕ)
    → IsMarked old t ↔ (IsMarked old t ⊎ IsNextText m a t)
no_next_text m a old none t =
    (λ k. inl k, λ k. elim k [ inl before ↦ before | inr j ↦ absurd (let f = sym none ∙ j.1 in cc) ])

-- ---- all that are printed

abbrev pub AlsoPrinted : MemoryMap → List ℕ → List Bool → List Bool → Type 0
AlsoPrinted m code old new = (t : ℕ) → IsMarked new t ↔ (IsMarked old t ⊎ (IsPrintedBy m code t × IsText m t))

pub printed_none : (m : MemoryMap) (marks : List Bool) → AlsoPrinted m [] marks marks
printed_none m marks t = (λ k. inl k, λ k. elim k [ inl before ↦ before | inr j ↦ absurd (nothing_in j.0.0 j.0.1) ])

pub printed_more : (m : MemoryMap) (xs : List ℕ) (x : ℕ) (old mid new : List Bool) → AlsoPrinted m xs old mid
    → ((t : ℕ) → IsMarked new t ↔ (IsMarked mid t ⊎ (PrintsText m x t × IsText m t)))
    → AlsoPrinted m (xs ++ x ∷ []) old new
printed_more m xs x old mid new h k t = (
  λ now. elim ((k t).0 now) [
    | inl before ↦ elim ((h t).0 before) [
      | inl o ↦ inl o
      | inr j ↦ inr ((j.0.0, Contains-append_left xs (x ∷ []) j.0.0 j.0.1, j.0.2), j.1)
    ]
    | inr j ↦ inr ((x, Contains-push xs x, j.0), j.1)
  ],
  λ one. elim one [
    | inl o ↦ (k t).1 (inl ((h t).1 (inl o)))
    | inr j ↦ elim (Contains-push_cases xs x j.0.0 j.0.1) [
      | inl before ↦ (k t).1 (inl ((h t).1 (inr ((j.0.0, before, j.0.2), j.1))))
      | inr same ↦ (k t).1 (inr (subst (λ (y : ℕ). PrintsText m y t) (sym same) j.0.2, j.1))
    ]
  ],
)

-- ---- the one after the last routine

pub one_after_last : (m : MemoryMap) (routines : List ℕ) (start end : ℕ)
    → code_start m (get_or routines (length routines - 1) 0) ≡ Some start → IsExtent m start end → (t : ℕ)
    → IsAfterLast m routines t → Some (next_packed m end) ≡ Some t
one_after_last m routines start end b x t h =
    let same = some_same h.start start (sym h.begins ∙ b) in
    ap Some
    (sym (h.next ∙ ap (next_packed m) (one_extent m start h.end end
    (subst (λ (s : ℕ). IsExtent m s h.end) same h.extent) x)))

pub no_extent_last : (m : MemoryMap) (routines : List ℕ) (start : ℕ)
    → code_start m (get_or routines (length routines - 1) 0) ≡ Some start → ((e : ℕ) → IsExtent m start e → ⊥)
    → (t : ℕ) → IsAfterLast m routines t → ⊥
no_extent_last m routines start b none t h =
    none h.end (subst (λ (s : ℕ). IsExtent m s h.end) (some_same h.start start (sym h.begins ∙ b)) h.extent)

-- ---- all of them

pub if_texts : {E : Type 0} (m : MemoryMap) (code : Code) (addresses routines : List ℕ)
    (none printed last all : List Bool) (r : Result (List ℕ) E) → addresses ≡ code.addresses
    → routines ≡ code.routines → ((a : ℕ) → IsMarked none a → ⊥) → AlsoPrinted m addresses none printed
    → ((t : ℕ) → IsMarked last t ↔ (IsMarked printed t ⊎ (IsAfterLast m routines t × IsText m t)))
    → ((t : ℕ) → IsMarked all t ↔ IsAmong (IsMarked last) (IsNextText m) t) → IfOk r (IsListOf (IsMarked all))
    → IfOk r (IsListOf (LiesText m code))
if_texts m code addresses routines none printed last all (Err e) ea er nothing p l n h = h
if_texts m code addresses routines none printed last all (Ok xs) ea er nothing p l n h = record {
  listed = λ t k. among_same (IsMarked last) _ (IsNextText m) (λ a at. elim ((l a).0 at) [
    | inl before ↦ elim ((p a).0 before) [
      | inl x ↦ absurd (nothing a x)
      | inr j ↦ (j.1, inl (subst (λ (ys : List ℕ). IsPrintedBy m ys a) ea j.0))
    ]
    | inr j ↦ (j.1, inr (subst (λ (ys : List ℕ). IsAfterLast m ys a) er j.0))
  ]) t ((n t).0 (h.listed t k));
  whole = λ t k. h.whole t ((n t).1 (among_same _ (IsMarked last) (IsNextText m) (λ a at. elim at.1 [
    | inl j ↦ (l a).1 (inl ((p a).1 (inr (subst (λ (ys : List ℕ). IsPrintedBy m ys a) (sym ea) j, at.0))))
    | inr j ↦ (l a).1 (inr (subst (λ (ys : List ℕ). IsAfterLast m ys a) (sym er) j, at.0))
  ]) t k));
  ascending = h.ascending;
}
