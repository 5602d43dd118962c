-- What is said of an object (Standard, sections 12.3 and 12.4). What a line looks like is zkit's choice.
use Rattle.std.specs.Prelude.{◌≡◌, ℕ, Bool, false, List, [], ◌∷◌, ◌++◌, map, Option, Some, None, Result, Ok, Err, codes}
use Rattle.std.specs.Prelude.{decimal}
use Rattle.std.specs.List.{filter, flat_map, range_with_len}
use Rattle.zk_mem.specs.declared.fault.Fault.{Fault}
use Rattle.zk_mem.specs.Faults.{fault_number}
use Rattle.zk_mem.specs.Map.{MemoryMap}
use Rattle.zk_text.specs.Meaning.{text_units}
use Rattle.zk_tables.specs.Attributes.{attribute_at}
use Rattle.zk_tables.specs.Links.{link_at, parent_of, sibling_of, child_of}
use Rattle.zk_tables.specs.Properties.{name_of, properties_of}
use Rattle.zk_tables.specs.declared.lists.Property.{Property}
use Rattle.zk_inspect.specs.Listing.{units_text}
use Rattle.zk_inspect.specs.declared.fact.Fact.{Fact}
use Rattle.zk_inspect.specs.declared.fact.Fact.TheVariants.{Object}
use Rattle.zk_inspect.specs.ObjectTests.{IsCounted}

-- the short name, nothing between quotes where there is none or its table can't be read
unfoldable pub name_text : MemoryMap → Result (Option ℕ) Fault → List ℕ
name_text m (Ok (Some a)) = units_text m (text_units m a)
name_text m (Ok None) = codes "\"\""
name_text m (Err f) = codes "\"\""

-- an object by its number and its name
unfoldable pub label_text : MemoryMap → ℕ → List ℕ
label_text m o = decimal o ++ codes " " ++ name_text m (name_of m o)

-- the object that a link names, or 0
abbrev pub number_or_none : Result ℕ Fault → ℕ
number_or_none (Ok o) = o
number_or_none (Err f) = 0

-- the three links
unfoldable pub links_text : MemoryMap → ℕ → List ℕ
links_text m o =
    codes " parent " ++ decimal (number_or_none (link_at m (parent_of o)))
    ++ codes " sibling " ++ decimal (number_or_none (link_at m (sibling_of o)))
    ++ codes " child " ++ decimal (number_or_none (link_at m (child_of o)))

-- an attribute that is there is set
abbrev pub is_set : Result Bool Fault → Bool
is_set (Ok b) = b
is_set (Err f) = false

-- the attributes that are set, of the 48 that there may be
unfoldable pub attributes_of : MemoryMap → ℕ → List ℕ
attributes_of m o = filter (λ n. is_set (attribute_at m o n)) (range_with_len 0 48)

-- things with commas between them, or a hyphen where there are none
abbrev pub separated : {A : Type 0} → (A → List ℕ) → List A → List ℕ
separated text [] = codes "-"
separated text (x ∷ xs) = text x ++ flat_map (λ y. codes "," ++ text y) xs

-- a property: its number, and the length of its data
unfoldable pub property_text : Property → List ℕ
property_text p = decimal p.number ++ codes ":" ++ decimal p.length

-- the properties of a list
abbrev pub properties_or_none : Result (List Property) Fault → List Property
properties_or_none (Ok ps) = ps
properties_or_none (Err f) = []

-- the properties, or why there is no list of them
unfoldable pub properties_text : Result (List Property) Fault → List ℕ
properties_text (Ok ps) = separated property_text ps
properties_text (Err f) = codes "! F" ++ decimal (fault_number f)

-- the line of an object
unfoldable pub object_line : MemoryMap → ℕ → List ℕ
object_line m o =
    label_text m o ++ links_text m o
    ++ (codes " attributes " ++ separated decimal (attributes_of m o))
    ++ (codes " properties " ++ properties_text (properties_of m o))

-- the objects that are counted, from 1 on
pub record AreObjectFacts (m : MemoryMap) (facts : List Fact) : Type 0 where
  pub count : ℕ
  pub counted : IsCounted m count
  pub are : facts ≡ map Object (range_with_len 1 count)
