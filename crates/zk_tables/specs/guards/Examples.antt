-- Worked examples of this crate's definitions. Their values come from the Standard by hand, and no definition made
-- them.
use Rattle.std.specs.Prelude.{◌≡◌, ℕ, Bool, List, [], ◌∷◌, ◌++◌, Some, None, Ok, Err, true, false, replicate, codes}
use Rattle.std.specs.Prelude.{◌==◌, if◌then◌else◌}
use Rattle.zk_mem.specs.declared.fault.Fault.TheVariants.{BadAddress, BadDictionary, BadObject, BadProperty, BadTree}
use Rattle.zk_mem.specs.declared.fault.Fault.TheVariants.{ReadOnly}
use Rattle.zk_mem.specs.Fresh.{plain_setup}
use Rattle.zk_mem.specs.Map.{MemoryMap}
use Rattle.zk_tables.specs.declared.dictionary.Dictionary.{Dictionary}
use Rattle.zk_tables.specs.declared.words.Word.{Word}
use Rattle.zk_tables.specs.Dictionaries.{is_above, dictionary_at, found_in, separators_of}
use Rattle.zk_tables.specs.Halves.{found_by_halves, compared_by_halves}
use Rattle.zk_tables.specs.Tokens.{tokens, token}
use Rattle.zk_tables.specs.Parsing.{letters_of, letters_start, words_put}
use Rattle.zk_tables.specs.Layout.{layout_of, is_entry_in, entry_of, entries}
use Rattle.zk_tables.specs.Attributes.{attribute_at, attribute_put}
use Rattle.zk_tables.specs.Links.{parent_of, sibling_of, child_of, walked_link, link_at, link_put}
use Rattle.zk_tables.specs.Chain.{children_of, how_many}
use Rattle.zk_tables.specs.Tree.{removed, inserted}
use Rattle.zk_tables.specs.Properties.{default_of, property_value, property_address_of, next_property_of, property_put}
use Rattle.zk_tables.specs.Properties.{length_by, property_length_of, name_of}

-- memory of a version with these bytes, all of them dynamic; its header has the object table at 4
abbrev pub memory_of : ℕ → List ℕ → MemoryMap
memory_of version bytes = record {
  version = version;
  static_base = 999;
  bytes = bytes;
  file = 0 ∷ 0 ∷ 0 ∷ 0 ∷ 0 ∷ 0 ∷ 0 ∷ 0 ∷ 0 ∷ 0 ∷ 0 ∷ 4 ∷ [];
  setup = plain_setup 0;
}

-- ---- the table (sections 12.2 and 12.3)

-- up to version 3 the first entry stands after 31 default words, at 66, and each has 9 bytes (sections 12.2 and
-- 12.3.1)
abbrev pub EarlyEntriesHaveNineBytes : Type 0
EarlyEntriesHaveNineBytes =
    (entry_of (memory_of 3 (replicate 93 0)) 1 ≡ Ok 66)
    × (entry_of (memory_of 3 (replicate 93 0)) 3 ≡ Ok 84)
    × (entry_of (memory_of 3 (replicate 92 0)) 3 ≡ Err BadObject)
    × (entry_of (memory_of 3 (replicate 93 0)) 0 ≡ Err BadObject)
    × (entries (memory_of 3 (replicate 93 0)) ≡ 3)

-- from version 4 on it stands after 63 default words, at 130, and each has 14 bytes (sections 12.2 and 12.3.2)
abbrev pub LateEntriesHaveFourteenBytes : Type 0
LateEntriesHaveFourteenBytes =
    (entry_of (memory_of 4 (replicate 158 0)) 1 ≡ Ok 130)
    × (entry_of (memory_of 5 (replicate 158 0)) 2 ≡ Ok 144)
    × (entry_of (memory_of 5 (replicate 157 0)) 2 ≡ Err BadObject)
    × (entry_of (memory_of 8 (replicate 158 0)) 3 ≡ Err BadObject)

-- up to version 3 an object's number is a byte: 255 is one and 256 is none (section 12.3.1)
abbrev pub EarlyObjectsAreBytes : Type 0
EarlyObjectsAreBytes =
    (is_entry_in (layout_of 3) 4 9999 255 ≡ true)
    × (is_entry_in (layout_of 3) 4 9999 256 ≡ false)
    × (is_entry_in (layout_of 5) 4 9999 256 ≡ true)

-- ---- attributes (sections 12.3.1 and 12.3.2)

-- object 1 of version 3 with these attribute bytes; a byte 0x80 stands after them
abbrev pub early_attributes : List ℕ → MemoryMap
early_attributes bytes = memory_of 3 (replicate 66 0 ++ bytes ++ 0x80 ∷ 0 ∷ 0 ∷ 0 ∷ 0 ∷ [])

-- object 1 of version 5 with these attribute bytes; a byte 0x80 stands after them
abbrev pub late_attributes : List ℕ → MemoryMap
late_attributes bytes = memory_of 5 (replicate 130 0 ++ bytes ++ 0x80 ∷ 0 ∷ 0 ∷ 0 ∷ 0 ∷ 0 ∷ 0 ∷ 0 ∷ [])

-- attribute 0 is the top bit of the first byte, 15 the lowest of the second and 27 the bit of 16 in the fourth
-- (section 12.3.1)
abbrev pub EarlyAttributesFromTheTopBit : Type 0
EarlyAttributesFromTheTopBit =
    (attribute_at (early_attributes (0x80 ∷ 0x01 ∷ 0 ∷ 0x10 ∷ [])) 1 0 ≡ Ok true)
    × (attribute_at (early_attributes (0x80 ∷ 0x01 ∷ 0 ∷ 0x10 ∷ [])) 1 7 ≡ Ok false)
    × (attribute_at (early_attributes (0x80 ∷ 0x01 ∷ 0 ∷ 0x10 ∷ [])) 1 15 ≡ Ok true)
    × (attribute_at (early_attributes (0x80 ∷ 0x01 ∷ 0 ∷ 0x10 ∷ [])) 1 8 ≡ Ok false)
    × (attribute_at (early_attributes (0x80 ∷ 0x01 ∷ 0 ∷ 0x10 ∷ [])) 1 27 ≡ Ok true)

-- version 3 has attributes up to 31, version 5 up to 47, the lowest bit of the sixth byte; past these none is there
-- (sections 12.3.1 and 12.3.2)
abbrev pub AttributesByVersion : Type 0
AttributesByVersion =
    (attribute_at (early_attributes (0 ∷ 0 ∷ 0 ∷ 1 ∷ [])) 1 31 ≡ Ok true)
    × (attribute_at (early_attributes (0 ∷ 0 ∷ 0 ∷ 1 ∷ [])) 1 32 ≡ Ok false)
    × (attribute_at (late_attributes (0 ∷ 0 ∷ 0 ∷ 0 ∷ 0x80 ∷ 1 ∷ [])) 1 32 ≡ Ok true)
    × (attribute_at (late_attributes (0 ∷ 0 ∷ 0 ∷ 0 ∷ 0x80 ∷ 1 ∷ [])) 1 47 ≡ Ok true)
    × (attribute_at (late_attributes (0 ∷ 0 ∷ 0 ∷ 0 ∷ 0x80 ∷ 1 ∷ [])) 1 48 ≡ Ok false)

-- attribute 1 is given by the bit of 64, and attribute 0 taken by that of 128; the other bits stay (section 15,
-- `set_attr`)
abbrev pub AttributesAreGivenAndTaken : Type 0
AttributesAreGivenAndTaken =
    (attribute_put (early_attributes (0x81 ∷ 0 ∷ 0 ∷ 0 ∷ [])) 1 1 true ≡ Ok (early_attributes (0xc1 ∷ 0 ∷ 0 ∷ 0 ∷ [])))
    × (attribute_put (early_attributes (0x81 ∷ 0 ∷ 0 ∷ 0 ∷ [])) 1 0 false ≡ Ok
    (early_attributes (0x01 ∷ 0 ∷ 0 ∷ 0 ∷ [])))
    × (attribute_put (late_attributes (0 ∷ 0 ∷ 0 ∷ 0 ∷ 0 ∷ 0 ∷ [])) 1 47 true ≡ Ok
    (late_attributes (0 ∷ 0 ∷ 0 ∷ 0 ∷ 0 ∷ 1 ∷ [])))
    × (attribute_put (early_attributes (0 ∷ 0 ∷ 0 ∷ 0 ∷ [])) 1 33 true ≡ Ok (early_attributes (0 ∷ 0 ∷ 0 ∷ 0 ∷ [])))

-- object 0 has no attributes, and none is given to it, a choice of zkit; an object without an entry is a bad one
-- (section 12.3)
abbrev pub ObjectZeroHasNoAttributes : Type 0
ObjectZeroHasNoAttributes =
    (attribute_at (early_attributes (0x80 ∷ 0 ∷ 0 ∷ 0 ∷ [])) 0 0 ≡ Ok false)
    × (attribute_put (early_attributes (0 ∷ 0 ∷ 0 ∷ 0 ∷ [])) 0 0 true ≡ Ok (early_attributes (0 ∷ 0 ∷ 0 ∷ 0 ∷ [])))
    × (attribute_at (early_attributes (0x80 ∷ 0 ∷ 0 ∷ 0 ∷ [])) 2 0 ≡ Err BadObject)

-- ---- links (section 12.3)

-- object 1 of version 3 with these three links
abbrev pub early_links : List ℕ → MemoryMap
early_links links = memory_of 3 (replicate 66 0 ++ 0 ∷ 0 ∷ 0 ∷ 0 ∷ [] ++ links ++ 0 ∷ 0 ∷ [])

-- object 1 of version 5 with these three links, of two bytes each
abbrev pub late_links : List ℕ → MemoryMap
late_links links = memory_of 5 (replicate 130 0 ++ 0 ∷ 0 ∷ 0 ∷ 0 ∷ 0 ∷ 0 ∷ [] ++ links ++ 0 ∷ 0 ∷ [])

-- parent, sibling and child follow the attributes in this order, up to version 3 a byte each (section 12.3.1)
abbrev pub EarlyLinksAreBytes : Type 0
EarlyLinksAreBytes =
    (link_at (early_links (7 ∷ 8 ∷ 9 ∷ [])) (parent_of 1) ≡ Ok 7)
    × (link_at (early_links (7 ∷ 8 ∷ 9 ∷ [])) (sibling_of 1) ≡ Ok 8)
    × (link_at (early_links (7 ∷ 8 ∷ 9 ∷ [])) (child_of 1) ≡ Ok 9)
    × (link_put (early_links (7 ∷ 8 ∷ 9 ∷ [])) (sibling_of 1) 5 ≡ Ok (early_links (7 ∷ 5 ∷ 9 ∷ [])))

-- from version 4 on a word each, high byte first (section 12.3.2)
abbrev pub LateLinksAreWords : Type 0
LateLinksAreWords =
    (link_at (late_links (1 ∷ 2 ∷ 3 ∷ 4 ∷ 5 ∷ 6 ∷ [])) (parent_of 1) ≡ Ok 0x0102)
    × (link_at (late_links (1 ∷ 2 ∷ 3 ∷ 4 ∷ 5 ∷ 6 ∷ [])) (sibling_of 1) ≡ Ok 0x0304)
    × (link_at (late_links (1 ∷ 2 ∷ 3 ∷ 4 ∷ 5 ∷ 6 ∷ [])) (child_of 1) ≡ Ok 0x0506)
    × (link_put (late_links (1 ∷ 2 ∷ 3 ∷ 4 ∷ 5 ∷ 6 ∷ [])) (sibling_of 1) 0x0a0b ≡ Ok
    (late_links (1 ∷ 2 ∷ 0x0a ∷ 0x0b ∷ 5 ∷ 6 ∷ [])))

-- object 0 has no links, a choice of zkit (section 12.3)
abbrev pub ObjectZeroHasNoLinks : Type 0
ObjectZeroHasNoLinks = link_at (early_links (7 ∷ 8 ∷ 9 ∷ [])) (parent_of 0) ≡ Ok 0

-- ---- the tree (sections 12.3, 12.5 and 15), in version 3

-- four objects by their parents, siblings and children
abbrev pub tree_of : List ℕ → List ℕ → List ℕ → List ℕ → MemoryMap
tree_of first second third fourth =
    memory_of 3 (replicate 70 0 ++ first ++ replicate 6 0 ++ second ++ replicate 6 0 ++ third ++ replicate 6 0
    ++ fourth ++ replicate 2 0)

-- object 1 has the children 2, 3 and 4
abbrev pub family : MemoryMap
family = tree_of (0 ∷ 0 ∷ 2 ∷ []) (1 ∷ 3 ∷ 0 ∷ []) (1 ∷ 4 ∷ 0 ∷ []) (1 ∷ 0 ∷ 0 ∷ [])

-- the children begin with the child and go on with the siblings (sections 12.3 and 12.5)
abbrev pub ChildrenFollowSiblings : Type 0
ChildrenFollowSiblings =
    (link_at family (walked_link 1 true) ≡ Ok 2)
    × (link_at family (walked_link 2 false) ≡ Ok 3)
    × (children_of family 1 ≡ Ok (2 ∷ 3 ∷ 4 ∷ []))
    × (how_many (children_of family 1) ≡ Ok 3)
    × (how_many (children_of family 3) ≡ Ok 0)
    × (children_of family 3 ≡ Ok [])
    × (children_of (tree_of (0 ∷ 0 ∷ 2 ∷ []) (1 ∷ 3 ∷ 0 ∷ []) (1 ∷ 2 ∷ 0 ∷ []) (0 ∷ 0 ∷ 0 ∷ [])) 1 ≡ Err BadTree)
    × (children_of (tree_of (0 ∷ 0 ∷ 9 ∷ []) (0 ∷ 0 ∷ 0 ∷ []) (0 ∷ 0 ∷ 0 ∷ []) (0 ∷ 0 ∷ 0 ∷ [])) 1 ≡ Err BadObject)

-- without 2, object 1 has the children 3 and 4; without 3 it has 2 and 4; 1 has no parent, and stays (section 15,
-- `remove_obj`)
abbrev pub RemovesOneChild : Type 0
RemovesOneChild =
    (removed family 2 ≡ Ok (tree_of (0 ∷ 0 ∷ 3 ∷ []) (0 ∷ 0 ∷ 0 ∷ []) (1 ∷ 4 ∷ 0 ∷ []) (1 ∷ 0 ∷ 0 ∷ [])))
    × (removed family 3 ≡ Ok (tree_of (0 ∷ 0 ∷ 2 ∷ []) (1 ∷ 4 ∷ 0 ∷ []) (0 ∷ 0 ∷ 0 ∷ []) (1 ∷ 0 ∷ 0 ∷ [])))
    × (removed family 1 ≡ Ok family)

-- 4 put into 2 is its child, and 3 is the last child of 1; 4 put into 1 again comes before 2 and 3 (section 15,
-- `insert_obj`)
abbrev pub InsertsAsFirstChild : Type 0
InsertsAsFirstChild =
    (inserted family 4 2 ≡ Ok (tree_of (0 ∷ 0 ∷ 2 ∷ []) (1 ∷ 3 ∷ 4 ∷ []) (1 ∷ 0 ∷ 0 ∷ []) (2 ∷ 0 ∷ 0 ∷ [])))
    × (inserted family 4 1 ≡ Ok (tree_of (0 ∷ 0 ∷ 4 ∷ []) (1 ∷ 3 ∷ 0 ∷ []) (1 ∷ 0 ∷ 0 ∷ []) (1 ∷ 2 ∷ 0 ∷ [])))

-- nothing is put into object 0, nor object 0 into another, a choice of zkit (section 15, `insert_obj`)
abbrev pub ObjectZeroStaysOut : Type 0
ObjectZeroStaysOut = (inserted family 4 0 ≡ Ok family) × (inserted family 0 4 ≡ Ok family)

-- ---- properties (sections 12.2 and 12.4)

-- version 3: object 1 has its property table at 75, with a name of one word, and after it from 78 on these properties
abbrev pub early_properties : List ℕ → MemoryMap
early_properties list =
    memory_of 3 (replicate 16 0 ++ 7 ∷ 8 ∷ [] ++ replicate 46 0 ++ 3 ∷ 1 ∷ [] ++ replicate 7 0 ++ 0 ∷ 75 ∷ 1
    ∷ 0x98 ∷ 0xe8 ∷ [] ++ list)

-- property 5 of one byte at 79, property 3 of two bytes at 81, property 2 of four bytes at 84
abbrev pub three_early : MemoryMap
three_early = early_properties (5 ∷ 0x2a ∷ 35 ∷ 1 ∷ 2 ∷ 98 ∷ 9 ∷ 8 ∷ 7 ∷ 6 ∷ 0 ∷ [])

-- version 5: object 1 has its property table at 144, with an empty name, and after it from 145 on: property 5 of one
-- byte at 146, property 6 of two bytes at 148, property 3 of four bytes at 152 and property 2 of 64 bytes at 158
abbrev pub four_late : MemoryMap
four_late =
    memory_of 5 (replicate 142 0 ++ 0 ∷ 144 ∷ 0 ∷ 5 ∷ 0x2a ∷ 70 ∷ 1 ∷ 2 ∷ 0x83 ∷ 0x84 ∷ 9 ∷ 8 ∷ 7 ∷ 6 ∷ 0x82
    ∷ 0x80 ∷ [] ++ replicate 65 0)

-- property 7's default is the seventh word of the table; version 3 has defaults from 1 to 31, version 5 up to 63
-- (section 12.2)
abbrev pub DefaultsCountFromOne : Type 0
DefaultsCountFromOne =
    (default_of three_early 7 ≡ Ok 0x0708)
    × (default_of three_early 31 ≡ Ok 0x0301)
    × (default_of three_early 32 ≡ Err BadProperty)
    × (default_of three_early 0 ≡ Err BadProperty)
    × (default_of four_late 63 ≡ Ok 0)
    × (default_of four_late 64 ≡ Err BadProperty)

-- a byte, a word, of four bytes the first word (a choice of zkit), and where there is none the default (section 15,
-- `get_prop`)
abbrev pub ValuesOfProperties : Type 0
ValuesOfProperties =
    (property_value three_early 1 5 ≡ Ok 0x2a)
    × (property_value three_early 1 3 ≡ Ok 0x0102)
    × (property_value three_early 1 2 ≡ Ok 0x0908)
    × (property_value three_early 1 7 ≡ Ok 0x0708)
    × (property_value four_late 1 5 ≡ Ok 0x2a)
    × (property_value four_late 1 6 ≡ Ok 0x0102)
    × (property_value four_late 1 3 ≡ Ok 0x0908)

-- where the data begins: after one size byte, or two from version 4 on; 0 where there is none (sections 12.4.1 and
-- 12.4.2)
abbrev pub AddressesOfProperties : Type 0
AddressesOfProperties =
    (property_address_of three_early 1 5 ≡ Ok 79)
    × (property_address_of three_early 1 2 ≡ Ok 84)
    × (property_address_of three_early 1 4 ≡ Ok 0)
    × (property_address_of four_late 1 6 ≡ Ok 148)
    × (property_address_of four_late 1 3 ≡ Ok 152)
    × (property_address_of four_late 1 2 ≡ Ok 158)

-- after 0 comes the first number, after each the next, and after the last 0; after one that is not there, a fault
-- (section 15, `get_next_prop`)
abbrev pub NumbersFollow : Type 0
NumbersFollow =
    (next_property_of three_early 1 0 ≡ Ok 5)
    × (next_property_of three_early 1 5 ≡ Ok 3)
    × (next_property_of three_early 1 3 ≡ Ok 2)
    × (next_property_of three_early 1 2 ≡ Ok 0)
    × (next_property_of three_early 1 4 ≡ Err BadProperty)
    × (next_property_of four_late 1 3 ≡ Ok 2)
    × (next_property_of four_late 1 2 ≡ Ok 0)

-- a length by the data's address: 0 at 0, in version 3 one to eight, and from version 4 on 64 where the size byte
-- says 0 (sections 12.4.1, 12.4.2 and 15, `get_prop_len`)
abbrev pub LengthsBeforeTheData : Type 0
LengthsBeforeTheData =
    (property_length_of three_early 0 ≡ Ok 0)
    × (property_length_of three_early 79 ≡ Ok 1)
    × (property_length_of three_early 84 ≡ Ok 4)
    × (property_length_of four_late 146 ≡ Ok 1)
    × (property_length_of four_late 148 ≡ Ok 2)
    × (property_length_of four_late 152 ≡ Ok 4)
    × (property_length_of four_late 158 ≡ Ok 64)
    × (length_by 3 0xff ≡ 8)
    × (length_by 5 0xff ≡ 63)

-- a value goes into one byte, its low one, or into the first word; a property that is not there is a fault (section
-- 15, `put_prop`)
abbrev pub ValuesArePut : Type 0
ValuesArePut =
    (property_put three_early 1 5 0x1234 ≡ Ok (early_properties (5 ∷ 0x34 ∷ 35 ∷ 1 ∷ 2 ∷ 98 ∷ 9 ∷ 8 ∷ 7 ∷ 6 ∷ 0 ∷ [])))
    × (property_put three_early 1 3 0x1234 ≡ Ok
    (early_properties (5 ∷ 0x2a ∷ 35 ∷ 0x12 ∷ 0x34 ∷ 98 ∷ 9 ∷ 8 ∷ 7 ∷ 6 ∷ 0 ∷ [])))
    × (property_put three_early 1 4 0x1234 ≡ Err BadProperty)

-- a name begins after the count of its words, and an empty one is none (section 12.4)
abbrev pub NamesBehindTheirCount : Type 0
NamesBehindTheirCount =
    (name_of three_early 1 ≡ Ok (Some 76)) × (name_of four_late 1 ≡ Ok None) × (name_of three_early 0 ≡ Ok None)

-- the same memory with all of it static from an address on
abbrev pub static_from : ℕ → MemoryMap → MemoryMap
static_from base m = record m { static_base = base }

-- what stands below the static base changes, and what does not is refused (section 1.1.1): attributes at 66, links at
-- 70 to 72, and a property at 79
abbrev pub StaticObjectsStay : Type 0
StaticObjectsStay =
    (attribute_put (static_from 66 (early_attributes (0 ∷ 0 ∷ 0 ∷ 0 ∷ []))) 1 0 true ≡ Err ReadOnly)
    × (attribute_put (static_from 67 (early_attributes (0 ∷ 0 ∷ 0 ∷ 0 ∷ []))) 1 0 true ≡ Ok
    (static_from 67 (early_attributes (0x80 ∷ 0 ∷ 0 ∷ 0 ∷ []))))
    × (link_put (static_from 71 (early_links (7 ∷ 8 ∷ 9 ∷ []))) (sibling_of 1) 5 ≡ Err ReadOnly)
    × (removed (static_from 80 family) 2 ≡ Err ReadOnly)
    × (property_put (static_from 79 three_early) 1 5 0x1234 ≡ Err ReadOnly)

-- ---- dictionaries (sections 13.2 to 13.5)

-- version 3: two separators, entries of 4 bytes, and three of them, the first two with one key
abbrev pub three_entries : ℕ → List ℕ
three_entries high_count =
    2 ∷ 44 ∷ 46 ∷ 4 ∷ high_count ∷ (if high_count == 0 then 3 else 0xfd) ∷ []
    ++ 0x64 ∷ 0xd0 ∷ 0xa8 ∷ 0xa5 ∷ 0x64 ∷ 0xd0 ∷ 0xa8 ∷ 0xa5 ∷ 0x65 ∷ 0xaa ∷ 0x80 ∷ 0xa5 ∷ []

-- where its parts stand
abbrev pub described_three : Bool → Dictionary
described_three is_sorted =
    record { address = 0; separators = 2; entry_length = 4; entries = 3; is_sorted = is_sorted; allows_halves = false }

-- a dictionary is its separators, the length of an entry, a signed count and the entries; a count of -3 is three
-- entries that are not sorted (section 13.2)
abbrev pub DictionariesAreRead : Type 0
DictionariesAreRead =
    (dictionary_at (memory_of 3 (three_entries 0)) 0 ≡ Ok
    (record {
      address = 0;
      separators = 2;
      entry_length = 4;
      entries = 3;
      is_sorted = true;
      allows_halves = false;
    }))
    × (dictionary_at (memory_of 3 (three_entries 0xff)) 0 ≡ Ok
    (record {
      address = 0;
      separators = 2;
      entry_length = 4;
      entries = 3;
      is_sorted = false;
      allows_halves = false;
    }))
    × (dictionary_at (memory_of 3 (7 ∷ 0 ∷ 5 ∷ 0 ∷ 0 ∷ [])) 1 ≡ Ok
    (record {
      address = 1;
      separators = 0;
      entry_length = 5;
      entries = 0;
      is_sorted = true;
      allows_halves = false;
    }))

-- an entry has room for a key: 4 bytes up to version 3, 6 from version 4 on; and all of it lies in data (sections 13.3
-- and 13.4)
abbrev pub DictionariesAreRefused : Type 0
DictionariesAreRefused =
    (dictionary_at (memory_of 3 (0 ∷ 3 ∷ 0 ∷ 0 ∷ [])) 0 ≡ Err BadDictionary)
    × (dictionary_at (memory_of 4 (0 ∷ 5 ∷ 0 ∷ 0 ∷ [])) 0 ≡ Err BadDictionary)
    × (dictionary_at (memory_of 3 (0 ∷ 4 ∷ 0 ∷ 1 ∷ 1 ∷ 2 ∷ 3 ∷ [])) 0 ≡ Err BadDictionary)
    × (dictionary_at (memory_of 3 (0 ∷ 4 ∷ 0 ∷ [])) 0 ≡ Err BadDictionary)

-- the first of two entries with one key is found, at 6; the third stands at 14; another key is not there (section 13.5)
abbrev pub FirstEntriesAreFound : Type 0
FirstEntriesAreFound =
    (found_in (memory_of 3 (three_entries 0)) (described_three true) (0x64 ∷ 0xd0 ∷ 0xa8 ∷ 0xa5 ∷ []) ≡ 6)
    × (found_in (memory_of 3 (three_entries 0xff)) (described_three false) (0x65 ∷ 0xaa ∷ 0x80 ∷ 0xa5 ∷ []) ≡ 14)
    × (found_in (memory_of 3 (three_entries 0)) (described_three true) (0x64 ∷ 0xd0 ∷ 0xa8 ∷ 0xa6 ∷ []) ≡ 0)
    × (separators_of (memory_of 3 (three_entries 0)) (described_three true) ≡ codes ",.")

-- keys are compared from their first byte on, as unsigned numbers (sections 13.3 and 13.5)
abbrev pub KeysAreCompared : Type 0
KeysAreCompared =
    (is_above (0x80 ∷ 0 ∷ []) (0x7f ∷ 0xff ∷ []) ≡ true)
    × (is_above (0x7f ∷ 0xff ∷ []) (0x80 ∷ 0 ∷ []) ≡ false)
    × (is_above (0x32 ∷ 0x85 ∷ []) (0x32 ∷ 0x84 ∷ []) ≡ true)
    × (is_above (0x32 ∷ 0x84 ∷ []) (0x32 ∷ 0x85 ∷ []) ≡ false)
    × (is_above (0x32 ∷ 0x85 ∷ []) (0x32 ∷ 0x85 ∷ []) ≡ false)

-- a memory whose dictionary is at 64, with its static base
abbrev pub dictionary_from : ℕ → ℕ → List ℕ → MemoryMap
dictionary_from version base bytes = static_from base (memory_of version (replicate 64 0 ++ bytes))

-- what is read there, of entries of a length
abbrev pub at_64 : ℕ → ℕ → Bool → Bool → Dictionary
at_64 entry_length entries is_sorted allows_halves = record {
  address = 64;
  separators = 0;
  entry_length = entry_length;
  entries = entries;
  is_sorted = is_sorted;
  allows_halves = allows_halves;
}

-- two entries with one key, and one with a greater one
abbrev pub two_and_one : List ℕ
two_and_one = 0 ∷ 4 ∷ 0 ∷ 3 ∷ 0x64 ∷ 0xd0 ∷ 0xa8 ∷ 0xa5 ∷ 0x64 ∷ 0xd0 ∷ 0xa8 ∷ 0xa5 ∷ 0x65 ∷ 0xaa ∷ 0x80 ∷ 0xa5 ∷ []

-- the same keys, the greatest first, with the bytes of the count
abbrev pub one_and_two : ℕ → ℕ → List ℕ
one_and_two high low =
    0 ∷ 4 ∷ high ∷ low ∷ 0x65 ∷ 0xaa ∷ 0x80 ∷ 0xa5 ∷ 0x64 ∷ 0xd0 ∷ 0xa8 ∷ 0xa5 ∷ 0x64 ∷ 0xd0 ∷ 0xa8 ∷ 0xa5 ∷ []

-- halves are allowed where nothing of the table can be written, its count is not negative and no key is above the one
-- after it; what is after the keys does not count, which are 4 bytes up to version 3 and 6 from version 4 on (sections
-- 13.2 to 13.5)
abbrev pub HalvesAreAllowed : Type 0
HalvesAreAllowed =
    (dictionary_at (dictionary_from 3 64 two_and_one) 64 ≡ Ok (at_64 4 3 true true))
    × (dictionary_at (dictionary_from 3 65 two_and_one) 64 ≡ Ok (at_64 4 3 true false))
    × (dictionary_at (dictionary_from 3 64 (one_and_two 0 3)) 64 ≡ Ok (at_64 4 3 true false))
    × (dictionary_at (dictionary_from 3 64 (one_and_two 0xff 0xfd)) 64 ≡ Ok (at_64 4 3 false false))
    × (dictionary_at (dictionary_from 3 64 (0 ∷ 4 ∷ 0xff ∷ 0xff ∷ 1 ∷ 2 ∷ 3 ∷ 4 ∷ [])) 64 ≡ Ok (at_64 4 1 false false))
    × (dictionary_at (dictionary_from 3 64 (0 ∷ 4 ∷ 0 ∷ 0 ∷ [])) 64 ≡ Ok (at_64 4 0 true true))
    × (dictionary_at (dictionary_from 3 64 (0 ∷ 6 ∷ 0 ∷ 2 ∷ 1 ∷ 2 ∷ 3 ∷ 4 ∷ 5 ∷ 6 ∷ 1 ∷ 2 ∷ 3 ∷ 4 ∷ 5 ∷ 5 ∷ []))
    64 ≡ Ok (at_64 6 2 true true))
    × (dictionary_at (dictionary_from 4 64 (0 ∷ 6 ∷ 0 ∷ 2 ∷ 1 ∷ 2 ∷ 3 ∷ 4 ∷ 5 ∷ 6 ∷ 1 ∷ 2 ∷ 3 ∷ 4 ∷ 5 ∷ 5 ∷ []))
    64 ≡ Ok (at_64 6 2 true false))

-- by halves the first of two entries with one key is found, at 0x44, and the third, at 0x4c; another key is not there.
-- Of three entries that in the middle is compared, then one of the others, and then that which the search came to
-- (section 13.5)
abbrev pub FirstEntriesAreFoundByHalves : Type 0
FirstEntriesAreFoundByHalves =
    (found_by_halves (dictionary_from 3 64 two_and_one) (at_64 4 3 true true) (0x64 ∷ 0xd0 ∷ 0xa8 ∷ 0xa5 ∷ []) ≡ 0x44)
    × (found_by_halves (dictionary_from 3 64 two_and_one) (at_64 4 3 true true) (0x65 ∷ 0xaa ∷ 0x80 ∷ 0xa5 ∷ []) ≡ 0x4c)
    × (found_by_halves (dictionary_from 3 64 two_and_one) (at_64 4 3 true true) (0x64 ∷ 0xd0 ∷ 0xa8 ∷ 0xa6 ∷ []) ≡ 0)
    × (found_in (dictionary_from 3 64 two_and_one) (at_64 4 3 true true) (0x64 ∷ 0xd0 ∷ 0xa8 ∷ 0xa5 ∷ []) ≡ 0x44)
    × (found_in (dictionary_from 3 64 two_and_one) (at_64 4 3 true true) (0x65 ∷ 0xaa ∷ 0x80 ∷ 0xa5 ∷ []) ≡ 0x4c)
    × (found_in (dictionary_from 3 64 two_and_one) (at_64 4 3 true true) (0x64 ∷ 0xd0 ∷ 0xa8 ∷ 0xa6 ∷ []) ≡ 0)
    × (found_in (dictionary_from 3 64 (one_and_two 0 3)) (at_64 4 3 true false) (0x64 ∷ 0xd0 ∷ 0xa8 ∷ 0xa5 ∷ []) ≡ 0x48)
    × (found_in (dictionary_from 3 64 (one_and_two 0xff 0xfd)) (at_64 4 3 false false)
    (0x64 ∷ 0xd0 ∷ 0xa8 ∷ 0xa5 ∷ []) ≡ 0x48)

-- how many keys are compared: after the last entry there is none to come to
abbrev pub ComparisonsAreCounted : Type 0
ComparisonsAreCounted =
    (compared_by_halves (dictionary_from 3 64 two_and_one) (at_64 4 3 true true) (0x64 ∷ 0xd0 ∷ 0xa8 ∷ 0xa5 ∷ []) ≡ 3)
    × (compared_by_halves (dictionary_from 3 64 two_and_one) (at_64 4 3 true true) (0x64 ∷ 0xd0 ∷ 0xa8 ∷ 0xa6 ∷ []) ≡ 3)
    × (compared_by_halves (dictionary_from 3 64 two_and_one) (at_64 4 3 true true) (0x66 ∷ 0 ∷ 0 ∷ 0 ∷ []) ≡ 2)
    × (compared_by_halves (dictionary_from 3 64 (0 ∷ 4 ∷ 0 ∷ 0 ∷ [])) (at_64 4 0 true true) (0x66 ∷ 0 ∷ 0 ∷ 0 ∷ []) ≡ 0)

-- one entry in version 5
abbrev pub one_of_six : List ℕ
one_of_six = 0 ∷ 6 ∷ 0 ∷ 1 ∷ 0x64 ∷ 0xd0 ∷ 0xa8 ∷ 0x14 ∷ 0x94 ∷ 0xa5 ∷ []

-- a key of 3 or 5 bytes in version 3 and one of 4 bytes in version 5 are no entry's, though an entry begins with them,
-- and are compared with none (sections 13.3 to 13.5)
abbrev pub OtherLengthsAreNotFound : Type 0
OtherLengthsAreNotFound =
    (found_in (memory_of 3 (three_entries 0)) (described_three true) (0x64 ∷ 0xd0 ∷ 0xa8 ∷ []) ≡ 0)
    × (found_in (memory_of 3 (three_entries 0)) (described_three true) (0x64 ∷ 0xd0 ∷ 0xa8 ∷ 0xa5 ∷ 0x64 ∷ []) ≡ 0)
    × (found_in (dictionary_from 5 64 one_of_six) (at_64 6 1 true true)
    (0x64 ∷ 0xd0 ∷ 0xa8 ∷ 0x14 ∷ 0x94 ∷ 0xa5 ∷ []) ≡ 0x44)
    × (found_in (dictionary_from 5 64 one_of_six) (at_64 6 1 true true) (0x64 ∷ 0xd0 ∷ 0xa8 ∷ 0x14 ∷ []) ≡ 0)
    × (found_by_halves (dictionary_from 5 64 one_of_six) (at_64 6 1 true true) (0x64 ∷ 0xd0 ∷ 0xa8 ∷ 0x14 ∷ []) ≡ 0)
    × (compared_by_halves (dictionary_from 5 64 one_of_six) (at_64 6 1 true true) (0x64 ∷ 0xd0 ∷ 0xa8 ∷ 0x14 ∷ []) ≡ 0)
    × (compared_by_halves (dictionary_from 3 64 two_and_one) (at_64 4 3 true true)
    (0x64 ∷ 0xd0 ∷ 0xa8 ∷ 0xa5 ∷ 0x64 ∷ []) ≡ 0)

-- ---- words (sections 13.6 and 15)

-- `fred,go fishing` has four words: a separator is one, and a space is none, also where it is listed (section 13.6.1)
abbrev pub WordsOfATextAreDivided : Type 0
WordsOfATextAreDivided =
    (tokens (codes ",.") (codes "fred,go fishing") ≡ token 0 4 ∷ token 4 1 ∷ token 5 2 ∷ token 8 7 ∷ [])
    × (tokens (codes " ,") (codes " a  ,,b ") ≡ token 1 1 ∷ token 4 1 ∷ token 5 1 ∷ token 6 1 ∷ [])
    × (tokens (codes ",") (codes "") ≡ [])

-- up to version 4 the letters of a text buffer begin at byte 1 and end before a zero, from version 5 on byte 1 counts
-- them and they begin at byte 2 (section 15, `read`)
abbrev pub LettersByVersion : Type 0
LettersByVersion =
    (letters_of (memory_of 3 (9 ∷ 97 ∷ 98 ∷ 0 ∷ 99 ∷ [])) 0 ≡ Ok (codes "ab"))
    × (letters_of (memory_of 4 (9 ∷ 0 ∷ [])) 0 ≡ Ok [])
    × (letters_of (memory_of 5 (9 ∷ 2 ∷ 98 ∷ 0 ∷ 99 ∷ [])) 0 ≡ Ok (98 ∷ 0 ∷ []))
    × (letters_of (memory_of 5 (9 ∷ 4 ∷ 98 ∷ 0 ∷ 99 ∷ [])) 0 ≡ Err BadAddress)
    × (letters_of (memory_of 3 (9 ∷ 97 ∷ 98 ∷ [])) 0 ≡ Err BadAddress)

-- a word of a parse buffer
abbrev pub word : ℕ → ℕ → ℕ → Word
word entry length position = record { entry = entry; length = length; position = position }

-- a parse buffer: its room, how many words there are, and four bytes for each: the entry or 0, the length, the place in
-- the text buffer, which counts from its byte 0 (section 15, `read`)
abbrev pub WordsAreStored : Type 0
WordsAreStored =
    (words_put (memory_of 3 (1 ∷ 9 ∷ 9 ∷ 9 ∷ 9 ∷ 9 ∷ 9 ∷ [])) 0 false (word 0x0102 3 4 ∷ word 5 6 7 ∷ []) ≡ Ok
    (memory_of 3 (1 ∷ 1 ∷ 1 ∷ 2 ∷ 3 ∷ 4 ∷ 9 ∷ [])))
    × (words_put (memory_of 3 (2 ∷ 9 ∷ 9 ∷ 9 ∷ 9 ∷ 9 ∷ [])) 0 true (word 0 3 4 ∷ []) ≡ Ok
    (memory_of 3 (2 ∷ 1 ∷ 9 ∷ 9 ∷ 9 ∷ 9 ∷ [])))
    × (words_put (memory_of 3 (2 ∷ 9 ∷ 9 ∷ 9 ∷ 9 ∷ 9 ∷ [])) 0 false (word 0 3 4 ∷ []) ≡ Ok
    (memory_of 3 (2 ∷ 1 ∷ 0 ∷ 0 ∷ 3 ∷ 4 ∷ [])))
    × (words_put (memory_of 3 (2 ∷ 9 ∷ 9 ∷ 9 ∷ 9 ∷ [])) 0 false (word 0 3 4 ∷ []) ≡ Err BadAddress)

-- the word at place 0 of the letters has position 1 in version 3, and 2 in version 5 (section 15, `read`)
abbrev pub PositionsByVersion : Type 0
PositionsByVersion =
    (letters_start 3 ≡ 1) × (letters_start 4 ≡ 1) × (letters_start 5 ≡ 2) × (letters_start 8 ≡ 2)
