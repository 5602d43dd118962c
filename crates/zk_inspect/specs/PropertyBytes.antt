-- The properties of objects with their data (Standard, section 12.4). What a line looks like is zkit's choice.
use Rattle.std.specs.Prelude.{◌≡◌, ℕ, List, [], ◌∷◌, ◌++◌, map, Result, Ok, Err, codes, decimal, unwrap_or}
use Rattle.std.specs.List.{flat_map, range_with_len}
use Rattle.zk_mem.specs.declared.fault.Fault.{Fault}
use Rattle.zk_mem.specs.Faults.{fault_number}
use Rattle.zk_mem.specs.Map.{MemoryMap, cell_at}
use Rattle.zk_tables.specs.Properties.{properties_of}
use Rattle.zk_tables.specs.declared.lists.Property.{Property}
use Rattle.zk_term.specs.Numbers.{address_digits, byte_digits}
use Rattle.zk_inspect.specs.declared.fact.Fact.{Fact}
use Rattle.zk_inspect.specs.declared.fact.Fact.TheVariants as fact
use Rattle.zk_inspect.specs.ObjectTests.{IsCounted}

-- a byte of the story by its two digits
unfoldable pub byte_text : MemoryMap → ℕ → List ℕ
byte_text m a = byte_digits (unwrap_or (cell_at m a) 0)

-- a property of an object: its number, and the address, the length and the bytes of its data
unfoldable pub property_line : MemoryMap → ℕ → Property → List ℕ
property_line m o p =
    decimal o ++ (codes " " ++ decimal p.number) ++ (codes " " ++ address_digits p.address)
    ++ (codes " " ++ decimal p.length) ++ codes " "
    ++ flat_map (byte_text m) (range_with_len p.address p.length)

-- why an object has no property list
unfoldable pub no_properties_line : ℕ → Fault → List ℕ
no_properties_line o f = decimal o ++ codes " " ++ (codes "! F" ++ decimal (fault_number f))

-- each property of a list, or why there is none
unfoldable pub properties_by : ℕ → Result (List Property) Fault → List Fact
properties_by o (Ok ps) = map (fact.Property o) ps
properties_by o (Err f) = fact.NoProperties o f ∷ []

abbrev pub object_properties : MemoryMap → ℕ → List Fact
object_properties m o = properties_by o (properties_of m o)

-- those of the objects that are counted, from 1 on
pub record ArePropertyFacts (m : MemoryMap) (facts : List Fact) : Type 0 where
  pub count : ℕ
  pub counted : IsCounted m count
  pub are : facts ≡ flat_map (object_properties m) (range_with_len 1 count)
