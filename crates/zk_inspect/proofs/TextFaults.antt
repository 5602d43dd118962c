-- What is found of texts.
use Rattle.std.proofs.Common.{◌≡◌, ◌∙◌, ℕ, ◌<◌, ◌⊎◌, inl, inr, Bool, true, false, get_or, Ok, Err, refl, ap, arith}
use Rattle.std.specs.Prelude.{◌↔◌}
use Rattle.std.proofs.lemmas.Bool.Decides.{Decides-and}
use Rattle.zk_mem.specs.declared.fault.Fault.{Fault}
use Rattle.zk_mem.specs.declared.fault.Fault.TheVariants.{NestedAbbreviation, TextPastEnd}
use Rattle.zk_mem.specs.Map.{MemoryMap}
use Rattle.zk_text.specs.Meaning.{Units, meaning_at, no_abbreviation, text_units}
use Rattle.zk_inspect.specs.declared.check.finding.Number.TheVariants.{TextPastTheEnd}
use Rattle.zk_inspect.specs.declared.check.finding.Number.TheVariants.{NestedAbbreviation as NestedNumber}
use Rattle.zk_inspect.specs.declared.check.text_faults.TextFault.{TextFault}
use Rattle.zk_inspect.specs.declared.check.text_faults.TextFault.TheVariants.{PastEnd, Nested}
use Rattle.zk_inspect.specs.declared.check.texts.TextAddresses.{TextAddresses}
use Rattle.zk_inspect.specs.Findings.{Finds}
use Rattle.zk_inspect.specs.Lists.{IsMarked}
use Rattle.zk_inspect.specs.Texts.{HasFault, IsUnread}
use Rattle.zk_inspect.specs.TextTests.{AreTextMarks, has_kind, is_of, text_fails}
use Rattle.zk_inspect.proofs.Deciding.{three_decide}
use Rattle.zk_inspect.proofs.Marking.{marked_inside}

-- the fault of a kind
abbrev pub fault_of : TextFault → Fault
fault_of PastEnd = TextPastEnd
fault_of Nested = NestedAbbreviation

kind_is : (kind : TextFault) (f : Fault) → is_of kind f ≡ true → f ≡ fault_of kind
kind_is PastEnd TextPastEnd h = refl
kind_is PastEnd f h = absurd cc
kind_is Nested NestedAbbreviation h = refl
kind_is Nested f h = absurd cc

is_kind : (kind : TextFault) → is_of kind (fault_of kind) ≡ true
is_kind PastEnd = refl
is_kind Nested = refl

has_decides : (kind : TextFault) (r : Units) → has_kind kind r ≡ true ↔ (r ≡ Err (fault_of kind))
has_decides kind (Ok us) = (λ e. absurd cc, λ h. absurd cc)
has_decides kind (Err f) = (λ e. ap (λ (g : Fault). Err g) (kind_is kind f e), λ h. ap (has_kind kind) h ∙ is_kind kind)

itself : (b : Bool) → b ≡ true ↔ (b ≡ true)
itself b = (λ e. e, λ e. e)

-- why a text fails
abbrev Fails : MemoryMap → TextAddresses → TextFault → ℕ → Type 0
Fails m t kind a =
    (IsMarked t.printed a × (text_units m a ≡ Err (fault_of kind)))
    ⊎ ((IsMarked t.abbreviations a × (meaning_at no_abbreviation m a ≡ Err (fault_of kind)))
    ⊎ ((is_of kind TextPastEnd ≡ true) × IsMarked t.unread a))

fails_decides : (m : MemoryMap) (t : TextAddresses) (kind : TextFault) (a : ℕ) → text_fails m t kind a ≡ true
    ↔ Fails m t kind a
fails_decides m t kind a =
    three_decide _ _ _ (Decides-and _ _ (itself (get_or t.printed a false)) (has_decides kind (text_units m a)))
    (Decides-and _ _ (itself (get_or t.abbreviations a false))
    (has_decides kind (meaning_at no_abbreviation m a)))
    (Decides-and _ _ (itself (is_of kind TextPastEnd)) (itself (get_or t.unread a false)))

-- no text is looked for further on
pub fails_near : (m : MemoryMap) (t : TextAddresses) (kind : TextFault) (a : ℕ) → AreTextMarks m t
    → text_fails m t kind a ≡ true → a < 524289
fails_near m t kind a h k = elim ((fails_decides m t kind a).0 k) [
  | inl p ↦ (let lt = marked_inside t.printed a p.0 in let size = h.size in omega arith)
  | inr (inl p) ↦ (let lt = marked_inside t.abbreviations a p.0 in let size = h.table.size in omega arith)
  | inr (inr p) ↦ (let lt = marked_inside t.unread a p.1 in let size = h.table.unread_size in omega arith)
]

-- what is found at an address, by a kind
abbrev Found : MemoryMap → TextFault → ℕ → Type 0
Found m kind a = HasFault m (fault_of kind) a ⊎ ((is_of kind TextPastEnd ≡ true) × IsUnread m a)

fails_found : (m : MemoryMap) (t : TextAddresses) (kind : TextFault) (a : ℕ) → AreTextMarks m t → Fails m t kind a
    → Found m kind a
fails_found m t kind a h (inl p) = inl (inl ((h.printed a).0 p.0, p.1))
fails_found m t kind a h (inr (inl p)) = inl (inr ((h.table.named a).0 p.0, p.1))
fails_found m t kind a h (inr (inr p)) = inr (p.0, (h.table.words a).0 p.1)

found_fails : (m : MemoryMap) (t : TextAddresses) (kind : TextFault) (a : ℕ) → AreTextMarks m t → Found m kind a
    → Fails m t kind a
found_fails m t kind a h (inl (inl p)) = inl ((h.printed a).1 p.0, p.1)
found_fails m t kind a h (inl (inr p)) = inr (inl ((h.table.named a).1 p.0, p.1))
found_fails m t kind a h (inr p) = inr (inr (p.0, (h.table.words a).1 p.1))

found_past : (m : MemoryMap) (a : ℕ) → Found m PastEnd a → Finds m TextPastTheEnd a
unfolding Finds
found_past m a (inl p) = inl p
found_past m a (inr p) = inr p.1

past_found : (m : MemoryMap) (a : ℕ) → Finds m TextPastTheEnd a → Found m PastEnd a
unfolding Finds
past_found m a (inl p) = inl p
past_found m a (inr p) = inr (refl, p)

found_nested : (m : MemoryMap) (a : ℕ) → Found m Nested a → Finds m NestedNumber a
unfolding Finds
found_nested m a (inl p) = p
found_nested m a (inr p) = absurd (let e = p.0 in cc)

nested_found : (m : MemoryMap) (a : ℕ) → Finds m NestedNumber a → Found m Nested a
unfolding Finds
nested_found m a p = inl p

-- the tests tell what is found
pub fails_past : (m : MemoryMap) (t : TextAddresses) (a : ℕ) → AreTextMarks m t → text_fails m t PastEnd a ≡ true
    ↔ Finds m TextPastTheEnd a
fails_past m t a h = (
  λ p. found_past m a (fails_found m t PastEnd a h ((fails_decides m t PastEnd a).0 p)),
  λ p. (fails_decides m t PastEnd a).1 (found_fails m t PastEnd a h (past_found m a p)),
)

pub fails_nested : (m : MemoryMap) (t : TextAddresses) (a : ℕ) → AreTextMarks m t
    → text_fails m t Nested a ≡ true ↔ Finds m NestedNumber a
fails_nested m t a h = (
  λ p. found_nested m a (fails_found m t Nested a h ((fails_decides m t Nested a).0 p)),
  λ p. (fails_decides m t Nested a).1 (found_fails m t Nested a h (nested_found m a p)),
)

-- what is found is not further on than it is looked for
pub past_near : (m : MemoryMap) (t : TextAddresses) (a : ℕ) → AreTextMarks m t → Finds m TextPastTheEnd a → a < 524289
past_near m t a h p = fails_near m t PastEnd a h ((fails_past m t a h).1 p)

pub nested_near : (m : MemoryMap) (t : TextAddresses) (a : ℕ) → AreTextMarks m t → Finds m NestedNumber a → a < 524289
nested_near m t a h p = fails_near m t Nested a h ((fails_nested m t a h).1 p)
