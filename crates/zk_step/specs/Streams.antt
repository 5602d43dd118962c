-- The output streams (Standard, section 7.1).
use Rattle.std.specs.Prelude.{◌≡◌, Bool, true, ℕ, ◌+◌, List, [], ◌∷◌, length, Option, Some, None, Result, Ok, Err}
use Rattle.std.specs.Prelude.{nat_le, if◌then◌else◌}
use Rattle.zk_mem.specs.declared.fault.Fault.{Fault}
use Rattle.zk_mem.specs.declared.fault.Fault.TheVariants.{StreamDepth}
use Rattle.zk_step.specs.declared.output.streams.OpenTable.{OpenTable}

-- whether stream 1, the screen, is on, and the tables of stream 3 that are open, the newest first
pub record OutputStreams : Type 0 where
  pub screen : Bool
  pub tables : List OpenTable

-- at the start stream 1 is on alone (section 7.1.1)
abbrev pub first_streams : OutputStreams
first_streams = record { screen = true; tables = [] }

-- stream 1 is turned on or off
abbrev pub with_screen : Bool → OutputStreams → OutputStreams
with_screen on s = record s { screen = on }

-- a table is opened, up to 16 deep (section 7.1.2.1.1)
unfoldable pub opened : OutputStreams → ℕ → Result OutputStreams Fault
opened s address = if nat_le 16 (length s.tables) then Err StreamDepth else Ok
    (record s { tables = record { address = address; count = 0 } ∷ s.tables })

-- tables of which the newest got so many codes more
unfoldable pub counted : ℕ → List OpenTable → List OpenTable
counted n [] = []
counted n (t ∷ ts) = record { address = t.address; count = t.count + n } ∷ ts

-- the newest of the open tables
unfoldable pub newest_of : List OpenTable → Option OpenTable
newest_of [] = None
newest_of (t ∷ ts) = Some t

-- the open tables without the newest
unfoldable pub tables_below : List OpenTable → List OpenTable
tables_below [] = []
tables_below (t ∷ ts) = ts

-- the newest table is closed
abbrev pub closed : OutputStreams → OutputStreams
closed s = record s { tables = tables_below s.tables }

-- ---- the newest table apart from those below it

-- all open tables
abbrev pub tables_of : Option OpenTable → List OpenTable → List OpenTable
tables_of None below = []
tables_of (Some t) below = t ∷ below

-- where there is no newest table there is none below it
abbrev pub NewestIsFirst : Option OpenTable → List OpenTable → Type 0
NewestIsFirst None below = below ≡ []
NewestIsFirst (Some t) below = Unit {0}
