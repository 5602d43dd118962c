-- The sections in which tables are listed. Their names are zkit's choice.
use Rattle.std.specs.Prelude.{ℕ, List, [], ◌∷◌, codes}
use Rattle.zk_inspect.specs.declared.section.Section.{Section}
use Rattle.zk_inspect.specs.declared.section.Section.TheVariants as section

abbrev pub section_name : Section → List ℕ
section_name section.Header = codes "header"
section_name section.Map = codes "map"
section_name section.Abbreviations = codes "abbreviations"
section_name section.Dictionary = codes "dictionary"
section_name section.Objects = codes "objects"
section_name section.Tree = codes "tree"
section_name section.Ifid = codes "ifid"
section_name section.Strings = codes "strings"
section_name section.Properties = codes "properties"
section_name section.Globals = codes "globals"
section_name section.Alphabets = codes "alphabets"
section_name section.Extension = codes "extension"

-- what a section has, as help says it
abbrev pub section_help : Section → List ℕ
section_help section.Header = codes "Lists the header"
section_help section.Map = codes "Lists where the parts of the story begin"
section_help section.Abbreviations = codes "Lists the abbreviations"
section_help section.Dictionary = codes "Lists the words of the dictionary"
section_help section.Objects = codes "Lists the objects with their properties"
section_help section.Tree = codes "Lists the tree of objects"
section_help section.Ifid = codes "Lists the IFID, by which catalogues name the story"
section_help section.Strings = codes "Lists the strings in high memory"
section_help section.Properties = codes "Lists the properties of the objects with their bytes"
section_help section.Globals = codes "Lists the global variables with their first values"
section_help section.Alphabets = codes "Lists the letters of the alphabets, and the extra characters"
section_help section.Extension = codes "Lists the header extension table"

-- all sections, in the order in which they are shown
abbrev pub all_sections : List Section
all_sections =
    section.Header ∷ section.Map ∷ section.Abbreviations ∷ section.Dictionary ∷ section.Objects ∷ section.Tree
    ∷ section.Ifid ∷ section.Strings
    ∷ section.Properties ∷ section.Globals ∷ section.Alphabets ∷ section.Extension ∷ []
