-- The name in the status line (Standard, section 8.2).
use Rattle.std.specs.Prelude.{◌≡◌, ℕ, List, [], Option, Some, None, Result, Ok, Err, IsOk, take, nat_lt}
use Rattle.std.specs.Prelude.{if◌then◌else◌}
use Rattle.zk_mem.specs.declared.fault.Fault.{Fault}
use Rattle.zk_mem.specs.declared.fault.Fault.TheVariants.{BadObject}
use Rattle.zk_mem.specs.Map.{MemoryMap}
use Rattle.zk_text.specs.declared.unit.Unit.{Unit as TextUnit}
use Rattle.zk_text.specs.Extra.{own_characters}
use Rattle.zk_text.specs.Shown.{shown_all}
use Rattle.zk_text.specs.Walked.{words_walked}
use Rattle.zk_tables.specs.Properties.{name_of}
use Rattle.zk_step.specs.declared.output.status.StatusLine.{StatusLine}
use Rattle.zk_step.specs.Status.{named}
use Rattle.zk_host.specs.declared.collected.Collected.{Collected}
use Rattle.zk_host.specs.Collecting.{CollectsTexts, nothing_collected}

-- the first 1,000 units of the text at an address, or none where it has more than 65,536 words, with those of the
-- abbreviations that it uses
abbrev pub first_units : MemoryMap → ℕ → List TextUnit → List TextUnit
first_units m a units = if nat_lt 65536 (words_walked m a) then [] else take 1000 units

-- and of an object's short name
abbrev pub first_named : MemoryMap → Option ℕ → List TextUnit → List TextUnit
first_named m None units = []
first_named m (Some a) units = first_units m a units

-- the first units of an object's short name were collected
abbrev pub IsNameOf : MemoryMap → Option ℕ → Collected → Type 0
IsNameOf m name c = (units : List TextUnit) → named m name ≡ Ok units
    → CollectsTexts nothing_collected c (shown_all (own_characters m) (first_named m name units)) []

-- the name in a status line can be read
abbrev pub IsNamed : MemoryMap → Option StatusLine → Type 0
IsNamed m None = Unit {0}
IsNamed m (Some s) = IsOk (named m s.name)

-- the name in a status line was collected; without one there is none
abbrev pub HasName : MemoryMap → Option StatusLine → Collected → Type 0
HasName m None c = c ≡ nothing_collected
HasName m (Some s) c = IsNameOf m s.name c

-- where the text of an object's short name begins, if it has one (section 12.4)
abbrev pub object_name : MemoryMap → ℕ → Result (Option ℕ) Fault
object_name m o = if nat_lt o 65536 then name_of m o else Err BadObject

-- the first units of a short name were collected; nothing, where it can't be read
abbrev pub IsNameBy : MemoryMap → Option ℕ → Result (List TextUnit) Fault → Collected → Type 0
IsNameBy m name (Ok units) c = IsNameOf m name c
IsNameBy m name (Err e) c = c ≡ nothing_collected

abbrev pub IsNameIn : MemoryMap → Result (Option ℕ) Fault → Collected → Type 0
IsNameIn m (Ok name) c = IsNameBy m name (named m name) c
IsNameIn m (Err e) c = c ≡ nothing_collected

-- the short name of an object was collected
abbrev pub IsObjectName : MemoryMap → ℕ → Collected → Type 0
IsObjectName m o c = IsNameIn m (object_name m o) c
