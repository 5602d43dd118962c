-- Tests on the texts of a story, and marks on them.
use Rattle.std.specs.Prelude.{◌≡◌, ◌⊎◌, ◌↔◌, ℕ, ◌*◌, ◌<◌, ◌≤◌, Bool, true, false, ◌&&◌, ◌||◌, List, length, get_or}
use Rattle.std.specs.Prelude.{reverse, Some, Ok, Err}
use Rattle.zk_mem.specs.declared.fault.Fault.{Fault}
use Rattle.zk_mem.specs.declared.fault.Fault.TheVariants.{BadAddress, TextPastEnd, NestedAbbreviation}
use Rattle.zk_mem.specs.Map.{MemoryMap, word_at}
use Rattle.zk_text.specs.Meaning.{Units, meaning_at, no_abbreviation, text_units}
use Rattle.zk_tables.specs.Properties.{name_of}
use Rattle.zk_code.specs.declared.instr.Instr.{Instr}
use Rattle.zk_code.specs.Grammar.{IsInstruction}
use Rattle.zk_inspect.specs.declared.check.finding.Number.TheVariants as number
use Rattle.zk_inspect.specs.declared.check.texts.TextAddresses.{TextAddresses}
use Rattle.zk_inspect.specs.declared.check.text_faults.FailingTexts.{FailingTexts}
use Rattle.zk_inspect.specs.declared.check.text_faults.TextFault.{TextFault}
use Rattle.zk_inspect.specs.declared.check.text_faults.TextFault.TheVariants.{PastEnd, Nested}
use Rattle.zk_inspect.specs.Findings.{Finds}
use Rattle.zk_inspect.specs.Lists.{IsListOf, IsMarked}
use Rattle.zk_inspect.specs.Objects.{IsListed}
use Rattle.zk_inspect.specs.Texts.{IsAbbreviation, IsPrinted, IsUnread, constant_text, table_place}

-- a fault is that of a kind
abbrev pub is_of : TextFault → Fault → Bool
is_of PastEnd TextPastEnd = true
is_of PastEnd _ = false
is_of Nested NestedAbbreviation = true
is_of Nested _ = false

-- a meaning has a fault of a kind
abbrev pub has_kind : TextFault → Units → Bool
has_kind kind (Ok us) = false
has_kind kind (Err f) = is_of kind f

-- there is a mark at an address
abbrev pub is_marked : TextAddresses → ℕ → Bool
is_marked marks a = get_or marks.printed a false || get_or marks.abbreviations a false || get_or marks.unread a false

-- a text at an address has one: one that is printed, or one of an abbreviation; or a word of the table of abbreviations
-- can't be read, for which they have no end
abbrev pub text_fails : MemoryMap → TextAddresses → TextFault → ℕ → Bool
text_fails m marks kind a =
    (get_or marks.printed a false && has_kind kind (text_units m a))
    || (get_or marks.abbreviations a false && has_kind kind (meaning_at no_abbreviation m a))
    || (is_of kind TextPastEnd && get_or marks.unread a false)

-- marks on texts that are printed
pub record IsTextMarks (m : MemoryMap) (marks : List Bool) : Type 0 where
  pub size : length marks ≡ 524289
  pub sound : (a : ℕ) → IsMarked marks a → IsPrinted m a

-- the names of the first so many objects are marked
abbrev pub NamesMarked : MemoryMap → ℕ → List Bool → Type 0
NamesMarked m n marks = (o entry a : ℕ) → o ≤ n → IsListed m o entry → name_of m o ≡ Ok (Some a) → IsMarked marks a

-- the texts of an instruction are marked
abbrev pub TextsMarked : MemoryMap → ℕ → List Bool → Type 0
TextsMarked m a marks = (i : Instr) (b t : ℕ) → IsInstruction m a i b → (i.text ≡ Some t)
    ⊎ (constant_text m i ≡ Some t) → IsMarked marks t

-- later marks
abbrev pub Keeps : List Bool → List Bool → Type 0
Keeps old new = (a : ℕ) → IsMarked old a → IsMarked new a

-- what the words of the table of abbreviations before one name is marked, and the words that can't be read
pub record IsTableMarks (m : MemoryMap) (number : ℕ) (texts unread : List Bool) : Type 0 where
  pub size : length texts ≡ 131071
  pub unread_size : length unread ≡ 131071
  pub sound : (a : ℕ) → IsMarked texts a → IsAbbreviation m a
  pub whole : (n word : ℕ) → n < number → word_at m (table_place m n) ≡ Ok word → IsMarked texts (2 * word)
  pub unread_sound : (a : ℕ) → IsMarked unread a → IsUnread m a
  pub unread_whole : (n : ℕ) → n < number → word_at m (table_place m n) ≡ Err BadAddress
      → IsMarked unread (table_place m n)

-- the same of the whole table, which there is where the header names one
pub record AreTableMarks (m : MemoryMap) (texts unread : List Bool) : Type 0 where
  pub size : length texts ≡ 131071
  pub unread_size : length unread ≡ 131071
  pub named : (a : ℕ) → IsMarked texts a ↔ IsAbbreviation m a
  pub words : (a : ℕ) → IsMarked unread a ↔ IsUnread m a

-- marks on all texts
pub record AreTextMarks (m : MemoryMap) (marks : TextAddresses) : Type 0 where
  pub size : length marks.printed ≡ 524289
  pub printed : (a : ℕ) → IsMarked marks.printed a ↔ IsPrinted m a
  pub table : AreTableMarks m marks.abbreviations marks.unread

-- all texts that have a fault, the last one first
pub record AreFailing (m : MemoryMap) (failing : FailingTexts) : Type 0 where
  pub past_end : IsListOf (Finds m number.TextPastTheEnd) (reverse failing.past_end)
  pub nested : IsListOf (Finds m number.NestedAbbreviation) (reverse failing.nested)
