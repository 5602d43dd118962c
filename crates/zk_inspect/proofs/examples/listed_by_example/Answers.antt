-- Entries and property tables are computed.
use Rattle.std.proofs.Common.{◌≡◌, ◌<◌, ◌+◌, ℕ, zero, suc, Result, Ok, refl, arith, inl, inr}
use Rattle.zk_mem.specs.Header.{header_of}
use Rattle.zk_mem.specs.Map.{byte_at, word_at}
use Rattle.zk_mem.specs.declared.fault.Fault.{Fault}
use Rattle.zk_tables.specs.Layout.{layout_of, is_entry_in, is_entry, entry_of}
use Rattle.zk_tables.specs.Links.{address_of, object_number_at, link_at}
use Rattle.zk_tables.specs.Properties.{table_of}
use Rattle.zk_inspect.specs.guards.CheckExamples.{objects_with}
use Rattle.zk_inspect.proofs.examples.listed_by_example.Goals as goal

-- an address that was read
abbrev found : ℕ → Result ℕ Fault
found a = Ok a

not_past : (a b table : ℕ) → found a ≡ Ok table → b < a → b < table
not_past a b table e lt = let same : a ≡ table = cc in rw same at lt

first_below : (p table : ℕ) → p < 1 → table_of (objects_with 75 90) p ≡ Ok table → 66 < table
unfolding word_at header_of layout_of is_entry_in is_entry entry_of table_of
first_below zero table lt e = absurd cc
first_below (suc p) table lt e = absurd (omega arith)

second_below : (p table : ℕ) → p < 2 → table_of (objects_with 76 90) p ≡ Ok table → 75 < table
unfolding word_at header_of layout_of is_entry_in is_entry entry_of table_of
second_below zero table lt e = absurd cc
second_below (suc zero) table lt e = not_past 76 75 table e (omega arith)
second_below (suc (suc p)) table lt e = absurd (omega arith)

third_below : (p table : ℕ) → p < 3 → table_of (objects_with 90 85) p ≡ Ok table → 84 < table
unfolding word_at header_of layout_of is_entry_in is_entry entry_of table_of
third_below zero table lt e = absurd cc
third_below (suc zero) table lt e = not_past 90 84 table e (omega arith)
third_below (suc (suc zero)) table lt e = not_past 85 84 table e (omega arith)
third_below (suc (suc (suc p))) table lt e = absurd (omega arith)

pub returns-clause-entries_below_tables : goal.returns-clause-entries_below_tables
unfolding header_of layout_of is_entry_in is_entry entry_of
returns-clause-entries_below_tables c = (
  record { tabled = λ e. cc; stands = refl; below = first_below },
  record { tabled = λ e. cc; stands = refl; below = second_below },
  record { tabled = λ e. cc; stands = refl; below = third_below },
)

-- an entry that begins at a table before it, or after that
at_table : (a table entry : ℕ) → found a ≡ Ok entry → entry < table → table < a + 1 → ⊥
at_table a table entry e lt ge = let same : a ≡ entry = cc in omega (arith, same)

pub returns-clause-entries_at_tables : goal.returns-clause-entries_at_tables
unfolding word_at header_of layout_of is_entry_in is_entry entry_of table_of
returns-clause-entries_at_tables c = (
  λ entry l. at_table 75 75 entry l.stands (l.below 1 75 (omega arith) refl) (omega arith),
  λ entry l. at_table 84 76 entry l.stands (l.below 1 76 (omega arith) refl) (omega arith),
  λ entry l. at_table 84 84 entry l.stands (l.below 2 84 (omega arith) refl) (omega arith),
  λ entry l. let e = l.stands in cc,
  λ entry l. let e = l.stands in cc,
)

pub returns-clause-no_table_no_objects : goal.returns-clause-no_table_no_objects
unfolding header_of
returns-clause-no_table_no_objects c = λ o entry l. l.tabled refl

pub returns-clause-links_lead_past : goal.returns-clause-links_lead_past
unfolding word_at byte_at header_of layout_of is_entry_in is_entry entry_of address_of object_number_at link_at
returns-clause-links_lead_past c = (
  record { named = 2; some = λ e. cc; past = λ entry l. let e = l.stands in cc; names = inl refl },
  record { named = 2; some = λ e. cc; past = λ entry l. let e = l.stands in cc; names = inr (inl refl) },
  record { named = 2; some = λ e. cc; past = λ entry l. let e = l.stands in cc; names = inr (inr refl) },
)
