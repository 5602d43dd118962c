-- Which facts a section has.
use Rattle.std.specs.Prelude.{◌≡◌, List, [], ◌∷◌}
use Rattle.zk_mem.specs.Map.{MemoryMap}
use Rattle.zk_inspect.specs.AbbreviationLines.{abbreviation_facts}
use Rattle.zk_inspect.specs.AlphabetLines.{alphabet_facts}
use Rattle.zk_inspect.specs.DictionaryLines.{dictionary_facts}
use Rattle.zk_inspect.specs.ExtensionLines.{extension_facts}
use Rattle.zk_inspect.specs.Facts.{AreNone}
use Rattle.zk_inspect.specs.GlobalLines.{global_facts}
use Rattle.zk_inspect.specs.HeaderLines.{header_facts}
use Rattle.zk_inspect.specs.LyingTexts.{AreTextFacts}
use Rattle.zk_inspect.specs.MapLines.{map_facts}
use Rattle.zk_inspect.specs.ObjectLines.{AreObjectFacts}
use Rattle.zk_inspect.specs.PropertyBytes.{ArePropertyFacts}
use Rattle.zk_inspect.specs.TreeLines.{AreSomeRows, AreTreeRows}
use Rattle.zk_inspect.specs.declared.fact.Fact.{Fact}
use Rattle.zk_inspect.specs.declared.fact.Fact.TheVariants.{Ifid}
use Rattle.zk_inspect.specs.declared.section.Section.{Section}
use Rattle.zk_inspect.specs.declared.section.Section.TheVariants as section

-- facts are those of a section
abbrev pub AreOfSection : Section → MemoryMap → List Fact → Type 0
AreOfSection section.Header m facts = facts ≡ header_facts m
AreOfSection section.Map m facts = facts ≡ map_facts m
AreOfSection section.Abbreviations m facts = facts ≡ abbreviation_facts m
AreOfSection section.Dictionary m facts = facts ≡ dictionary_facts m
AreOfSection section.Objects m facts = AreObjectFacts m facts
AreOfSection section.Tree m facts = AreTreeRows m facts
AreOfSection section.Ifid m facts = facts ≡ Ifid ∷ []
AreOfSection section.Strings m facts = AreTextFacts m facts
AreOfSection section.Properties m facts = ArePropertyFacts m facts
AreOfSection section.Globals m facts = facts ≡ global_facts m
AreOfSection section.Alphabets m facts = facts ≡ alphabet_facts
AreOfSection section.Extension m facts = facts ≡ extension_facts m

-- facts are those that a section has where there is no memory for more: some rows of the tree, and else none
abbrev pub AreSomeOfSection : Section → MemoryMap → List Fact → Type 0
AreSomeOfSection section.Tree m facts = AreSomeRows m facts
AreSomeOfSection s m facts = AreNone facts
