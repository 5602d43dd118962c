-- The properties and the name of an object (Standard, sections 12.2, 12.4 and 15).
use Rattle.std.specs.Prelude.{◌≡◌, ◌≢◌, ◌≤◌, ℕ, List, length, ◌+◌, ◌*◌, ◌-◌, ◌/◌, ◌%◌, Option, Some, None, Result, Ok}
use Rattle.std.specs.Prelude.{Err, nat_lt, ◌==◌, ◌||◌, if◌then◌else◌}
use Rattle.zk_mem.specs.declared.fault.Fault.{Fault}
use Rattle.zk_mem.specs.declared.fault.Fault.TheVariants.{BadProperty}
use Rattle.zk_mem.specs.Results.{◌>>=◌}
use Rattle.zk_mem.specs.Map.{MemoryMap, HasBytes, readable_end, byte_at, word_at, byte_put, word_put}
use Rattle.zk_tables.specs.declared.lists.Property.{Property}
use Rattle.zk_tables.specs.Layout.{layout_of, entry_of, default_words_start}
use Rattle.zk_tables.specs.PropertyList.{IsPropertyList, LeavesData, properties_at, list_byte, long_length, first_with}
use Rattle.zk_tables.specs.PropertyList.{first_number, number_after, found_at, first_number_at, number_after_at}

-- an object's property table; its address follows the links (section 12.3)
unfoldable pub table_of : MemoryMap → ℕ → Result ℕ Fault
table_of m o = do
  entry ← entry_of m o
  word_at m (entry + (layout_of m.version).attribute_bytes + 3 * (layout_of m.version).link_bytes)

-- a table has a count of words, the short name of so many words, and the list (section 12.4)
unfoldable pub list_of : MemoryMap → ℕ → Result ℕ Fault
list_of m o = do
  table ← table_of m o
  words ← list_byte m table
  Ok (table + 1 + 2 * words)

-- the properties of an object, in their order
unfoldable pub properties_of : MemoryMap → ℕ → Result (List Property) Fault
properties_of m o = list_of m o >>= properties_at m

-- the properties of an object are there, and at most half as many as data has bytes, since each takes two
pub record HasShortList (m : MemoryMap) (o : ℕ) : Type 0 where
  pub list : List Property
  pub is : properties_of m o ≡ Ok list
  pub short : 2 * length list ≤ readable_end m

-- the first property of a number that an object has
unfoldable pub property_of : MemoryMap → ℕ → ℕ → Result (Option Property) Fault
property_of m o n = list_of m o >>= λ a. found_at m a n

-- the default value of a property, counted from 1 (section 12.2)
unfoldable pub default_of : MemoryMap → ℕ → Result ℕ Fault
default_of m n =
    if n == 0 || nat_lt (layout_of m.version).default_words n
    then Err BadProperty
    else word_at m (default_words_start m + 2 * (n - 1))

-- the value of a property: its byte, or its first word
abbrev pub value_in : MemoryMap → ℕ → Option Property → Result ℕ Fault
value_in m n None = default_of m n
value_in m n (Some p) = if p.length == 1 then byte_at m p.address else word_at m p.address

-- the value of a property of an object; object 0 has none
unfoldable pub property_value : MemoryMap → ℕ → ℕ → Result ℕ Fault
property_value m o n = if o == 0 then default_of m n else (property_of m o n >>= value_in m n)

-- where the data of a property begins, or 0
abbrev pub address_in : Option Property → ℕ
address_in None = 0
address_in (Some p) = p.address

-- the same, of an object; object 0 has none
unfoldable pub property_address_of : MemoryMap → ℕ → ℕ → Result ℕ Fault
property_address_of m o n = if o == 0 then Ok 0 else (property_of m o n >>= λ p. Ok (address_in p))

-- the number of the next property of an object, and after 0 that of the first; object 0 has none
unfoldable pub next_property_of : MemoryMap → ℕ → ℕ → Result ℕ Fault
next_property_of m o n =
    if o == 0
    then (if n == 0 then Ok 0 else Err BadProperty)
    else (list_of m o >>= λ a. if n == 0 then first_number_at m a else number_after_at m a n)

-- the memory with the value of a property changed: its byte, or its first word
abbrev pub value_put_in : MemoryMap → ℕ → Option Property → Result MemoryMap Fault
value_put_in m v None = Err BadProperty
value_put_in m v (Some p) = if p.length == 1 then byte_put m p.address (v % 256) else word_put m p.address v

-- the memory with the value of a property of an object changed; of object 0 nothing changes
unfoldable pub property_put : MemoryMap → ℕ → ℕ → ℕ → Result MemoryMap Fault
property_put m o n v = if o == 0 then Ok m else (property_of m o n >>= value_put_in m v)

-- the length that the size byte before the data tells (section 12.4.2)
abbrev pub length_by : ℕ → ℕ → ℕ
length_by version size =
    if nat_lt version 4 then size / 32 + 1
    else if nat_lt size 128 then size / 64 + 1
    else long_length size

-- the length of the property whose data begins at a; at 0 there is none (section 15, get_prop_len)
unfoldable pub property_length_of : MemoryMap → ℕ → Result ℕ Fault
property_length_of m a = if a == 0 then Ok 0 else (byte_at m (a - 1) >>= λ size. Ok (length_by m.version size))

-- where the text of an object's short name begins, if it has one; object 0 has none
unfoldable pub name_of : MemoryMap → ℕ → Result (Option ℕ) Fault
name_of m o = if o == 0 then Ok None else do
  table ← table_of m o
  words ← byte_at m table
  if words == 0 then Ok None else Ok (Some (table + 1))

-- ---- a law

-- an object's list answers what is asked of its properties
pub record AnswersByList (m : MemoryMap) (o : ℕ) (ps : List Property) : Type 0 where
  pub value : (n : ℕ) → property_value m o n ≡ value_in m n (first_with n ps)
  pub address : (n : ℕ) → property_address_of m o n ≡ Ok (address_in (first_with n ps))
  pub first : next_property_of m o 0 ≡ Ok (first_number ps)
  pub next : (n : ℕ) → n ≢ 0 → next_property_of m o n ≡ number_after n ps
  pub put : (n v : ℕ) → property_put m o n v ≡ value_put_in m v (first_with n ps)

-- a list that leaves data answers nothing
pub record RefusesAll (m : MemoryMap) (o : ℕ) : Type 0 where
  pub value : (n : ℕ) → property_value m o n ≡ Err BadProperty
  pub address : (n : ℕ) → property_address_of m o n ≡ Err BadProperty
  pub next : (n : ℕ) → next_property_of m o n ≡ Err BadProperty
  pub put : (n v : ℕ) → property_put m o n v ≡ Err BadProperty

-- the list that the bytes of an object's table spell decides each call, and so does one that is cut off
pub record IsDecided (m : MemoryMap) (o a : ℕ) : Type 0 where
  pub listed : (ps : List Property) → IsPropertyList m a ps → AnswersByList m o ps
  pub cut : LeavesData m a → RefusesAll m o

-- of each object with a property table, where memory holds bytes
abbrev pub ListsDecide : Type 0
ListsDecide = (m : MemoryMap) (o a : ℕ) → HasBytes m → o ≢ 0 → list_of m o ≡ Ok a → IsDecided m o a
