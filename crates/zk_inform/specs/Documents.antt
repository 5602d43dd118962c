-- The names that a story has itself, in the form of Inform's debugging information.
use Rattle.std.specs.Prelude.{◌≡◌, ℕ, ◌+◌, ◌-◌, List, [], ◌++◌, Option, Some, None, codes, decimal, take}
use Rattle.std.specs.List.{flat_map, range_with_len}
use Rattle.base64.specs.Engines.{standard}
use Rattle.base64.specs.GeneralPurpose.{encode_of}
use Rattle.zk_mem.specs.Map.{MemoryMap}
use Rattle.zk_inspect.specs.ObjectTests.{IsCounted}
use Rattle.zk_inform.specs.declared.naming.Naming.{Naming}
use Rattle.zk_inform.specs.declared.naming.Naming.TheVariants.{Named}
use Rattle.zk_inform.specs.declared.table.Table.{Table}
use Rattle.zk_inform.specs.Markup.{text_of}
use Rattle.zk_inform.specs.Names.{object_naming}
use Rattle.zk_inform.specs.Tables.{attribute_count, entry_at, names_table}

-- what stands before the name of a thing of a kind, and behind its number
abbrev pub start_text : List ℕ → List ℕ
start_text kind = codes "<" ++ kind ++ codes "><identifier>\""

abbrev pub end_text : List ℕ → List ℕ
end_text kind = codes "</value></" ++ kind ++ codes ">"

-- a thing of a kind and a number, by the address of its name's text, which stands in quotation marks
unfoldable pub element : MemoryMap → List ℕ → ℕ → ℕ → List ℕ
element m kind n a =
    start_text kind ++ text_of m a ++ (codes "\"</identifier><value>" ++ decimal n) ++ end_text kind

-- the same, where there is a name
abbrev pub item : MemoryMap → List ℕ → ℕ → Naming → List ℕ
item m kind n (Named a) = element m kind n a
item m kind n _ = []

abbrev pub object_item : MemoryMap → ℕ → List ℕ
object_item m o = item m (codes "object") o (object_naming m o)

-- a property is an entry of the table by its number
abbrev pub property_item : MemoryMap → Table → ℕ → List ℕ
property_item m t n = item m (codes "property") n (entry_at m t.address n)

-- behind the properties stand the attributes, from 0 on
abbrev pub attribute_item : MemoryMap → Table → ℕ → List ℕ
attribute_item m t n = item m (codes "attribute") n (entry_at m t.address (t.count + n))

-- the properties, from 1 on, and the attributes
abbrev pub table_items : MemoryMap → Option Table → List ℕ
table_items m None = []
table_items m (Some t) =
    flat_map (property_item m t) (range_with_len 1 (t.count - 1))
    ++ flat_map (attribute_item m t) (range_with_len 0 (attribute_count m))

-- what stands before the items
abbrev pub head_text : List ℕ → List ℕ
head_text prefix =
    codes "<?xml version=\"1.0\" encoding=\"UTF-8\"?><inform-story-file version=\"1.0\" "
    ++ codes "content-creator=\"Inform\" content-creator-version=\"zkit\"><story-file-prefix>" ++ prefix
    ++ codes "</story-file-prefix>"

-- the document of a story of so many objects
unfoldable pub document_text : MemoryMap → List ℕ → ℕ → List ℕ
document_text m prefix objects =
    head_text prefix ++ flat_map (object_item m) (range_with_len 1 objects)
    ++ table_items m (names_table m objects) ++ codes "</inform-story-file>"

-- the document of a story, with the first 64 bytes of its file
pub record IsNamesDocument (m : MemoryMap) (bytes : List ℕ) : Type 0 where
  pub objects : ℕ
  pub counted : IsCounted m objects
  pub is : bytes ≡ document_text m (encode_of standard (take 64 m.file)) objects
