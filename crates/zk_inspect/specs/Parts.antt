-- What a check has at hand, and what it has found of a number.
use Rattle.std.specs.Prelude.{◌≡◌, ℕ, List, [], ◌∷◌, ◌++◌, map}
use Rattle.zk_mem.specs.Map.{MemoryMap}
use Rattle.zk_code.specs.Ends.{KnowsEnds}
use Rattle.zk_inspect.specs.declared.check.Parts.{Parts}
use Rattle.zk_inspect.specs.declared.check.finding.Finding.{Finding}
use Rattle.zk_inspect.specs.declared.check.finding.Number.{Number}
use Rattle.zk_inspect.specs.Codes.{IsCodeOf}
use Rattle.zk_inspect.specs.Findings.{Finds, at_address}
use Rattle.zk_inspect.specs.Lists.{IsListOf}
use Rattle.zk_inspect.specs.ObjectTests.{AreObjects}
use Rattle.zk_inspect.specs.TextTests.{AreFailing}

-- the ends of texts, the code, the objects and the texts with a fault of a story
pub record AreParts (m : MemoryMap) (parts : Parts) : Type 0 where
  pub ends : KnowsEnds m parts.ends
  pub code : IsCodeOf m parts.code
  pub objects : AreObjects m parts.objects
  pub texts : AreFailing m parts.texts

-- all findings of a number stand after others
pub record Adds (m : MemoryMap) (n : Number) (old new : List Finding) : Type 0 where
  pub addresses : List ℕ
  pub exact : IsListOf (Finds m n) addresses
  pub joined : new ≡ old ++ map (at_address n) addresses

-- all findings of some numbers stand after others, one number after another
pub data AddsAll (m : MemoryMap) : List Number → List Finding → List Finding → Type 0 where
  none : {fs : List Finding} → AddsAll m [] fs fs
  more : {n : Number} {ns : List Number} {old between new : List Finding} → Adds m n old between
      → AddsAll m ns between new → AddsAll m (n ∷ ns) old new
