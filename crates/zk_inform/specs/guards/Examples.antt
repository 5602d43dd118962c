-- Worked examples of the names that a story has itself, by hand from the Standard's sections 3, 11 and 12 and from what
-- Inform 6 writes.
use Rattle.std.specs.Prelude.{◌≡◌, ℕ, zero, suc, ◌+◌, true, false, List, [], ◌∷◌, ◌++◌, Option, Some, None, codes}
use Rattle.zk_mem.specs.Fresh.{plain_setup}
use Rattle.zk_mem.specs.Map.{MemoryMap}
use Rattle.zk_text.specs.declared.unit.Unit.TheVariants.{Code, Character}
use Rattle.zk_inform.specs.declared.naming.Naming.TheVariants.{Unnamed, Named, Wrong}
use Rattle.zk_inform.specs.declared.table.Table.{Table}
use Rattle.zk_inform.specs.Documents.{document_text, object_item, table_items}
use Rattle.zk_inform.specs.Markup.{markup}
use Rattle.zk_inform.specs.Names.{is_name_unit, naming_if, object_naming, shown_if, spelled}
use Rattle.zk_inform.specs.Tables.{attribute_count, class_end, is_by_inform, list_end, names_table, table_at, table_end}

abbrev pub zeros : ℕ → List ℕ
zeros zero = []
zeros (suc n) = 0 ∷ zeros n

-- ---- the compiler

-- a digit, a full stop and two digits at $3C to $3F of a header
abbrev pub CompilersAreNamed : Type 0
CompilersAreNamed =
    (is_by_inform (zeros 60 ++ codes "6.41") ≡ true)
    × (is_by_inform (zeros 60 ++ codes "9.09") ≡ true)
    × (is_by_inform (zeros 60 ++ codes "6,41") ≡ false)
    × (is_by_inform (zeros 60 ++ codes "6.4a") ≡ false)
    × (is_by_inform (zeros 60 ++ codes "6./1") ≡ false)
    × (is_by_inform (zeros 60 ++ codes ":.41") ≡ false)
    × (is_by_inform (zeros 59 ++ codes "6.41") ≡ false)
    × (is_by_inform (zeros 61 ++ codes "6.41") ≡ false)
    × (is_by_inform (zeros 64) ≡ false)

-- ---- texts as names

-- letters, digits, the underscore and the stroke, and none of the codes beside them
abbrev pub NamesHaveLetters : Type 0
NamesHaveLetters =
    (is_name_unit (Code 97) ≡ true)
    × (is_name_unit (Code 122) ≡ true)
    × (is_name_unit (Code 65) ≡ true)
    × (is_name_unit (Code 90) ≡ true)
    × (is_name_unit (Code 48) ≡ true)
    × (is_name_unit (Code 57) ≡ true)
    × (is_name_unit (Code 95) ≡ true)
    × (is_name_unit (Code 47) ≡ true)
    × (is_name_unit (Code 96) ≡ false)
    × (is_name_unit (Code 123) ≡ false)
    × (is_name_unit (Code 64) ≡ false)
    × (is_name_unit (Code 91) ≡ false)
    × (is_name_unit (Code 46) ≡ false)
    × (is_name_unit (Code 58) ≡ false)
    × (is_name_unit (Code 32) ≡ false)
    × (is_name_unit (Character 97) ≡ false)

-- a text that begins with `<` stands for no name; another one is a name of an identifier as a whole, or is wrong
abbrev pub TextsAreNames : Type 0
TextsAreNames =
    (naming_if 7 (Some (spelled (Code 97 ∷ []))) ≡ Named 7)
    × (naming_if 7 (Some (spelled (Code 60 ∷ Code 32 ∷ []))) ≡ Unnamed)
    × (naming_if 7 (Some (spelled (Code 97 ∷ Code 60 ∷ []))) ≡ Wrong)
    × (naming_if 7 (Some (spelled (Code 97 ∷ Code 32 ∷ Code 97 ∷ []))) ≡ Wrong)
    × (naming_if 7 (Some (spelled (Code 32 ∷ Code 97 ∷ []))) ≡ Wrong)
    × (naming_if 7 (Some (spelled [])) ≡ Wrong)
    × (naming_if 7 None ≡ Wrong)

-- a short name may have any units, but is none where there are none
abbrev pub TextsAreShortNames : Type 0
TextsAreShortNames =
    (shown_if 7 (Some (spelled (Code 97 ∷ Code 32 ∷ []))) ≡ Named 7)
    × (shown_if 7 (Some (spelled (Code 60 ∷ []))) ≡ Named 7)
    × (shown_if 7 (Some (spelled [])) ≡ Unnamed)
    × (shown_if 7 None ≡ Unnamed)

-- characters that XML does not have in a text are entities, a space or a question mark
abbrev pub CharactersAreMarked : Type 0
CharactersAreMarked =
    (markup 38 ≡ codes "&amp;")
    × (markup 60 ≡ codes "&lt;")
    × (markup 62 ≡ codes "&gt;")
    × (markup 34 ≡ codes "&quot;")
    × (markup 39 ≡ codes "'")
    × (markup 97 ≡ codes "a")
    × (markup 10 ≡ codes " ")
    × (markup 0xe9 ≡ 0xc3 ∷ 0xa9 ∷ [])
    × (markup 0xfffd ≡ 0xef ∷ 0xbf ∷ 0xbd ∷ [])
    × (markup 0xfffe ≡ codes "?")
    × (markup 0xffff ≡ codes "?")

-- ---- where lists end

abbrev pub memory_of : ℕ → List ℕ → MemoryMap
memory_of version bytes =
    record { version = version; static_base = 999; bytes = bytes; file = []; setup = plain_setup 0 }

-- behind the byte 0 that ends a list (section 12.4); a list without it has no end
abbrev pub ListsEnd : Type 0
ListsEnd =
    (list_end (memory_of 3 (0x41 ∷ 7 ∷ 7 ∷ 7 ∷ 0 ∷ 9 ∷ [])) 0 ≡ Some 5)
    × (list_end (memory_of 3 (9 ∷ 0 ∷ 9 ∷ [])) 1 ≡ Some 2)
    × (list_end (memory_of 5 (0x41 ∷ 7 ∷ 7 ∷ 0x82 ∷ 3 ∷ 0 ∷ 0 ∷ 0 ∷ 0 ∷ 9 ∷ [])) 0 ≡ Some 9)
    × (list_end (memory_of 3 (0x41 ∷ 7 ∷ 7 ∷ 7 ∷ [])) 0 ≡ None)

-- class numbers are words that are numbers of objects, up to a word 0
abbrev pub ClassNumbersEnd : Type 0
ClassNumbersEnd =
    (class_end (memory_of 3 (0 ∷ 1 ∷ 0 ∷ 5 ∷ 0 ∷ 0 ∷ 9 ∷ [])) 5 6 0 ≡ Some 6)
    × (class_end (memory_of 3 (0 ∷ 0 ∷ 0 ∷ 0 ∷ [])) 5 6 0 ≡ Some 2)
    × (class_end (memory_of 3 (0 ∷ 1 ∷ 0 ∷ 6 ∷ 0 ∷ 0 ∷ [])) 5 6 0 ≡ None)
    × (class_end (memory_of 3 (0 ∷ 1 ∷ 0 ∷ 5 ∷ 0 ∷ [])) 5 6 0 ≡ None)
    × (class_end (memory_of 3 (0 ∷ 1 ∷ 0 ∷ 1 ∷ 0 ∷ 0 ∷ [])) 1 2 0 ≡ None)

abbrev pub table : ℕ → ℕ → Option Table
table address count = Some (record { address = address; count = count })

-- 1 to 4,096 stand before the names
abbrev pub TablesHaveCounts : Type 0
TablesHaveCounts =
    (table_at (memory_of 3 (9 ∷ 0 ∷ 1 ∷ [])) 1 ≡ table 1 1)
    × (table_at (memory_of 3 (0x10 ∷ 0 ∷ [])) 0 ≡ table 0 4096)
    × (table_at (memory_of 3 (0x10 ∷ 1 ∷ [])) 0 ≡ None)
    × (table_at (memory_of 3 (0 ∷ 0 ∷ [])) 0 ≡ None)
    × (table_at (memory_of 3 (0 ∷ [])) 0 ≡ None)

-- section 12.3
abbrev pub AttributesByVersion : Type 0
AttributesByVersion =
    (attribute_count (memory_of 3 []) ≡ 32) × (attribute_count (memory_of 4 []) ≡ 48)
    × (attribute_count (memory_of 8 []) ≡ 48)

-- ---- stories

-- a story of version 3 by Inform, with its object table at 0: object 5 has a parent, and its property table stands at
-- 107 and is the first thing of what is given
abbrev pub with_object : ℕ → List ℕ → MemoryMap
with_object parent rest = record {
  version = 3;
  static_base = 999;
  bytes = zeros 102 ++ (parent ∷ 0 ∷ 0 ∷ 0 ∷ 107 ∷ rest);
  file = zeros 60 ++ codes "6.41";
  setup = plain_setup 0;
}

-- an object without a short name, with the two bytes of a property
abbrev pub one_property : List ℕ
one_property = 0 ∷ 0x21 ∷ 7 ∷ 7 ∷ 0 ∷ []

-- behind a class stand six bytes more, and the properties of its members
abbrev pub of_class : List ℕ
of_class = 1 ∷ 2 ∷ 3 ∷ 4 ∷ 5 ∷ 6 ∷ 0x02 ∷ 9 ∷ 0 ∷ []

-- a class is an object in object 1, or one of the first four; here object 4 has its table at 0, where a byte 0 ends it
abbrev pub ClassesAreLonger : Type 0
ClassesAreLonger =
    (table_end (with_object 1 (one_property ++ of_class)) 5 ≡ Some 121)
    × (table_end (with_object 2 (one_property ++ of_class)) 5 ≡ Some 112)
    × (table_end (with_object 0 (one_property ++ of_class)) 5 ≡ Some 112)
    × (table_end (with_object 1 one_property) 5 ≡ None)
    × (table_end (with_object 1 (one_property ++ of_class)) 4 ≡ Some 9)
    × (table_end (with_object 1 (one_property ++ of_class)) 0 ≡ None)

-- the same story, where behind the object stand class numbers, a count, and the words of the property 1, which is
-- given, of 2, which has no name, and of the attributes: 0 is "b", 1 is "<", and the others have none. Behind them
-- stand the texts "a" at 186, "<" at 188 and "b" at 192, which are 93, 94 and 96 as packed addresses
abbrev pub named : List ℕ → ℕ → ℕ → MemoryMap
named classes count first = with_object 0 (one_property ++ classes
    ++ (0 ∷ count ∷ 0 ∷ first ∷ 0 ∷ 0 ∷ 0 ∷ 96 ∷ 0 ∷ 94 ∷ [])
    ++ zeros 60 ++ (0x98 ∷ 0xa5 ∷ 0x14 ∷ 0xc1 ∷ 0xf0 ∷ 0xa5 ∷ 0x9c ∷ 0xa5 ∷ []))

abbrev pub five : List ℕ
five = 0 ∷ 5 ∷ 0 ∷ 0 ∷ []

-- the table stands behind the class numbers, and is none where a class number, its count or a name can't be right
abbrev pub TablesAreRight : Type 0
TablesAreRight =
    (names_table (named five 3 93) 5 ≡ table 116 3)
    × (names_table (named five 3 94) 5 ≡ table 116 3)
    × (names_table (named five 3 0) 5 ≡ table 116 3)
    × (names_table (named five 3 200) 5 ≡ None)
    × (names_table (named five 0 93) 5 ≡ None)
    × (names_table (named five 4 93) 5 ≡ None)
    × (names_table (named (0 ∷ 6 ∷ 0 ∷ 0 ∷ []) 3 93) 5 ≡ None)
    × (names_table (record (named five 3 93) { file = zeros 64 }) 5 ≡ None)

-- properties are counted from 1, and attributes from 0
abbrev pub NamesHaveNumbers : Type 0
NamesHaveNumbers =
    (table_items (named five 3 93) (table 116 3) ≡
    codes "<property><identifier>\"a\"</identifier><value>1</value></property>"
    ++ codes "<attribute><identifier>\"b\"</identifier><value>0</value></attribute>")
    × (table_items (named five 3 94) (table 116 3) ≡
    codes "<attribute><identifier>\"b\"</identifier><value>0</value></attribute>")

-- a short name is the text behind the first byte of a property table (section 12.4); one that has no units, no end or
-- too many words is none
abbrev pub ObjectsHaveNames : Type 0
ObjectsHaveNames =
    (object_item (with_object 0 (1 ∷ 0x98 ∷ 0xa5 ∷ 0 ∷ [])) 5 ≡
    codes "<object><identifier>\"a\"</identifier><value>5</value></object>")
    × (object_naming (with_object 0 (0 ∷ 0x98 ∷ 0xa5 ∷ 0 ∷ [])) 5 ≡ Unnamed)
    × (object_naming (with_object 0 (1 ∷ 0x94 ∷ 0xa5 ∷ 0 ∷ [])) 5 ≡ Unnamed)
    × (object_naming (with_object 0 (1 ∷ 0x18 ∷ 0xa5 ∷ 0 ∷ [])) 5 ≡ Unnamed)

-- a text of so many words and one more
abbrev pub long_text : ℕ → List ℕ
long_text zero = 0x98 ∷ 0xa5 ∷ []
long_text (suc n) = 0x18 ∷ 0xa5 ∷ long_text n

-- a short name has 255 words at most, which is what the byte before it can count
abbrev pub NamesHaveFewWords : Type 0
NamesHaveFewWords =
    (object_naming (with_object 0 (255 ∷ long_text 254)) 5 ≡ Named 108)
    × (object_naming (with_object 0 (255 ∷ long_text 255)) 5 ≡ Unnamed)

-- the whole document
abbrev pub DocumentsAreWhole : Type 0
DocumentsAreWhole =
    document_text (named five 3 93) (codes "QQ==") 5 ≡
    codes "<?xml version=\"1.0\" encoding=\"UTF-8\"?><inform-story-file version=\"1.0\" "
    ++ codes "content-creator=\"Inform\" content-creator-version=\"zkit\">"
    ++ codes "<story-file-prefix>QQ==</story-file-prefix>"
    ++ codes "<property><identifier>\"a\"</identifier><value>1</value></property>"
    ++ codes "<attribute><identifier>\"b\"</identifier><value>0</value></attribute></inform-story-file>"
