-- How the object table is laid out (Standard, sections 12.2 and 12.3).
use Rattle.std.specs.Prelude.{ℕ, ◌+◌, ◌*◌, ◌-◌, ◌/◌, Bool, ◌&&◌, Result, Ok, Err, nat_lt, nat_le, min, if◌then◌else◌}
use Rattle.zk_mem.specs.declared.fault.Fault.{Fault}
use Rattle.zk_mem.specs.declared.fault.Fault.TheVariants.{BadObject}
use Rattle.zk_mem.specs.Header.{header_of}
use Rattle.zk_mem.specs.Map.{MemoryMap, readable_end}
use Rattle.zk_tables.specs.declared.layout.Layout.{Layout}

-- up to version 3: 31 default words, 32 attributes, links of a byte (section 12.3.1)
abbrev pub early_layout : Layout
early_layout = record { default_words = 31; attribute_bytes = 4; link_bytes = 1; entry_bytes = 9; most_objects = 255 }

-- from version 4 on: 63 default words, 48 attributes, links of a word (section 12.3.2)
abbrev pub late_layout : Layout
late_layout = record { default_words = 63; attribute_bytes = 6; link_bytes = 2; entry_bytes = 14; most_objects = 65535 }

-- the layout of a version
unfoldable pub layout_of : ℕ → Layout
layout_of version = if nat_lt version 4 then early_layout else late_layout

-- the default words stand first (section 12.2)
abbrev pub default_words_start : MemoryMap → ℕ
default_words_start m = (header_of m.file).objects

-- after them stand the entries, from object 1 on (section 12.3)
abbrev pub first_entry : Layout → ℕ → ℕ
first_entry layout table = table + 2 * layout.default_words

-- an object has an entry where all of it lies below the end of data
unfoldable pub is_entry_in : Layout → ℕ → ℕ → ℕ → Bool
is_entry_in layout table end o =
    nat_lt 0 o && (nat_le o layout.most_objects && nat_le (first_entry layout table + layout.entry_bytes * o) end)

-- whether an object has an entry in data
unfoldable pub is_entry : MemoryMap → ℕ → Bool
is_entry m o = is_entry_in (layout_of m.version) (default_words_start m) (readable_end m) o

-- where the entry of an object begins
unfoldable pub entry_of : MemoryMap → ℕ → Result ℕ Fault
entry_of m o =
    if is_entry m o
    then Ok (first_entry (layout_of m.version) (default_words_start m) + (layout_of m.version).entry_bytes * (o - 1))
    else Err BadObject

-- how many entries fit below the end of data
unfoldable pub entries_in : Layout → ℕ → ℕ → ℕ
entries_in layout table end = min ((end - first_entry layout table) / layout.entry_bytes) layout.most_objects

-- the same, of a story
unfoldable pub entries : MemoryMap → ℕ
entries m = entries_in (layout_of m.version) (default_words_start m) (readable_end m)
