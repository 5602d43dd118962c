-- Where Inform 6 leaves identifier names in a story: behind the properties of all objects come the class numbers, and
-- then the names of properties and attributes.
use Rattle.std.specs.Prelude.{ℕ, zero, suc, ◌+◌, ◌*◌, ◌-◌, ◌==◌, ◌&&◌, ◌||◌, Bool, true, false, List, [], ◌∷◌, Option}
use Rattle.std.specs.Prelude.{Some}
use Rattle.std.specs.Prelude.{None, Result, Ok, Err, nat_le, nat_lt, length, option_and_then, slice_index}
use Rattle.std.specs.Prelude.{if◌then◌else◌}
use Rattle.std.specs.List.{list_all, range_with_len}
use Rattle.zk_mem.specs.declared.fault.Fault.{Fault}
use Rattle.zk_mem.specs.Map.{MemoryMap, word_at}
use Rattle.zk_tables.specs.Links.{link_at, parent_of}
use Rattle.zk_tables.specs.declared.lists.Property.{Property}
use Rattle.zk_tables.specs.Properties.{list_of}
use Rattle.zk_tables.specs.PropertyList.{properties_at}
use Rattle.zk_inspect.specs.ObjectLines.{number_or_none}
use Rattle.zk_inform.specs.declared.naming.Naming.{Naming}
use Rattle.zk_inform.specs.declared.naming.Naming.TheVariants.{Wrong}
use Rattle.zk_inform.specs.declared.table.Table.{Table}
use Rattle.zk_inform.specs.Names.{naming_of_word}

-- ---- the compiler

abbrev pub is_digit : ℕ → Bool
is_digit byte = nat_le 48 byte && nat_le byte 57

-- a digit, a full stop and two digits in the header (appendix B)
abbrev pub is_by_inform : List ℕ → Bool
is_by_inform file =
    nat_le 64 (length file) && is_digit (slice_index file 0x3c) && slice_index file 0x3d == 46
    && is_digit (slice_index file 0x3e) && is_digit (slice_index file 0x3f)

-- ---- the end of the objects

-- a list of properties from an address on ends with a byte behind the last one (section 12.4)
abbrev pub end_behind : ℕ → List Property → ℕ
end_behind a [] = a + 1
end_behind a (p ∷ ps) = end_behind (p.address + p.length) ps

abbrev pub end_of_list : ℕ → Result (List Property) Fault → Option ℕ
end_of_list a (Ok ps) = Some (end_behind a ps)
end_of_list a (Err f) = None

-- the address behind the property list at an address
unfoldable pub list_end : MemoryMap → ℕ → Option ℕ
list_end m a = end_of_list a (properties_at m a)

-- the first four objects are the classes `Class`, `Object`, `Routine` and `String`; the parent of each other class is
-- `Class`
abbrev pub is_class : MemoryMap → ℕ → Bool
is_class m o = nat_le o 4 || number_or_none (link_at m (parent_of o)) == 1

-- behind the property list of a class come six bytes of attributes, and the properties of its members
abbrev pub behind_class : MemoryMap → ℕ → ℕ → Option ℕ
behind_class m o end = if is_class m o then list_end m (end + 6) else Some end

abbrev pub end_from : MemoryMap → ℕ → Result ℕ Fault → Option ℕ
end_from m o (Ok list) = option_and_then (behind_class m o) (list_end m list)
end_from m o (Err f) = None

-- the address behind what Inform writes for an object
unfoldable pub table_end : MemoryMap → ℕ → Option ℕ
table_end m o = end_from m o (list_of m o)

-- ---- the class numbers

-- at an address a word was read: 0 behind the last class number, or the number of an object, and then more
abbrev pub end_by_word : ℕ → ℕ → Option ℕ → Result ℕ Fault → Option ℕ
end_by_word objects a rest (Ok w) = if w == 0 then Some (a + 2) else if nat_lt objects w then None else rest
end_by_word objects a rest (Err f) = None

-- the address behind so many words from an address on at most
unfoldable pub class_end : MemoryMap → ℕ → ℕ → ℕ → Option ℕ
class_end m objects zero a = None
class_end m objects (suc n) a = end_by_word objects a (class_end m objects n (a + 2)) (word_at m a)

-- ---- the names

abbrev pub table_by : ℕ → Result ℕ Fault → Option Table
table_by a (Ok n) = if nat_le 1 n && nat_le n 4096 then Some (record { address = a; count = n }) else None
table_by a (Err f) = None

-- a word before the names is one more than there are properties
abbrev pub table_at : MemoryMap → ℕ → Option Table
table_at m a = table_by a (word_at m a)

-- section 12.3
abbrev pub attribute_count : MemoryMap → ℕ
attribute_count m = if nat_lt m.version 4 then 32 else 48

-- an entry of a table, counted from 1
abbrev pub entry_at : MemoryMap → ℕ → ℕ → Naming
entry_at m a number = naming_of_word m (word_at m (a + 2 * number))

abbrev pub not_wrong : Naming → Bool
not_wrong Wrong = false
not_wrong _ = true

-- so many entries of a table, from 1 on, are what Inform would leave there
abbrev pub are_right : MemoryMap → Table → ℕ → Bool
are_right m t n = list_all (λ k. not_wrong (entry_at m t.address k)) (range_with_len 1 n)

-- the table has the names of properties, and then those of attributes
unfoldable pub is_right : MemoryMap → Table → Bool
is_right m t = are_right m t (t.count - 1 + attribute_count m)

abbrev pub right_table : MemoryMap → Table → Option Table
right_table m t = if is_right m t then Some t else None

-- a table behind what Inform writes for the last object
abbrev pub likely_table : MemoryMap → ℕ → Option Table
likely_table m objects =
    option_and_then (table_at m) (option_and_then (class_end m objects (objects + 1)) (table_end m objects))

-- the table of a story that Inform made, if it is right
unfoldable pub names_table : MemoryMap → ℕ → Option Table
names_table m objects =
    if is_by_inform m.file then option_and_then (right_table m) (likely_table m objects) else None
