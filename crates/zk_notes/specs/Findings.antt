-- Findings with what they mean.
use Rattle.std.specs.Prelude.{ℕ, List, [], ◌++◌, false, Option, Some, None, codes, decimal}
use Rattle.zk_mem.specs.Map.{MemoryMap}
use Rattle.zk_inspect.specs.FindingLines.{finding_meaning}
use Rattle.zk_inspect.specs.Lines.{fact_line}
use Rattle.zk_inspect.specs.declared.fact.Fact.{Fact}
use Rattle.zk_inspect.specs.declared.fact.Fact.TheVariants as fact
use Rattle.zk_facts.specs.Objects.{object_of}

-- the words for an object
abbrev pub object_words : Option ℕ → List ℕ
object_words None = []
object_words (Some n) = codes "object " ++ decimal n ++ codes ": "

-- what a finding means, and of which object
abbrev pub note_of : MemoryMap → Fact → List ℕ
note_of m (fact.Finding f) = codes "  ; " ++ object_words (object_of m f) ++ finding_meaning f.number
note_of m _ = []

-- the line of a fact with that
abbrev pub explained : MemoryMap → Fact → List ℕ
explained m f = fact_line false m f ++ note_of m f ++ codes "\n"
