-- What the findings of a story are, all together.
use Rattle.std.specs.Prelude.{◌≡◌, ◌⊎◌, ◌↔◌, ℕ, ◌<◌, List, [], ◌∷◌, ◌++◌}
use Rattle.std.specs.List.{Contains}
use Rattle.zk_mem.specs.Map.{MemoryMap}
use Rattle.zk_inspect.specs.declared.check.finding.Finding.{Finding}
use Rattle.zk_inspect.specs.declared.check.finding.Number.{Number}
use Rattle.zk_inspect.specs.FindingLines.{finding_number}
use Rattle.zk_inspect.specs.Findings.{AreFindings, Finds, at_address}

-- a finding comes before another: by its number, then by its address
abbrev pub Precedes : Finding → Finding → Type 0
Precedes f g = (finding_number f.number < finding_number g.number) ⊎ ((f.number ≡ g.number) × (f.address < g.address))

-- the findings are all that is wrong, each comes before those after it, and there are none where nothing is wrong
pub record AreAllFindings (m : MemoryMap) (fs : List Finding) : Type 0 where
  pub exact : (n : Number) (a : ℕ) → Contains fs (at_address n a) ↔ Finds m n a
  pub ascending : (before between behind : List Finding) (f g : Finding) → fs ≡ before ++ f
      ∷ (between ++ g ∷ behind) → Precedes f g
  pub none : (fs ≡ []) ↔ ((n : Number) (a : ℕ) → Finds m n a → ⊥)

-- of each story
abbrev pub FindingsAreAll : Type 0
FindingsAreAll = (m : MemoryMap) (fs : List Finding) → AreFindings m fs → AreAllFindings m fs

-- a story has one list of them
abbrev pub OneListOfFindings : Type 0
OneListOfFindings = (m : MemoryMap) (fs gs : List Finding) → AreFindings m fs → AreFindings m gs → fs ≡ gs
