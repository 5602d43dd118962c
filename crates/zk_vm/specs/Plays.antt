-- A story is played: its reads are answered by the lines of an input, and its saved games by a slot.
use Rattle.std.specs.Prelude.{◌≡◌, ◌⊎◌, ℕ, Bool, true, false, List, [], ◌∷◌, ◌++◌, Option, Some, None, Result, Ok, Err}
use Rattle.zk_text.specs.Extra.{ExtraTable, own_characters}
use Rattle.zk_save.specs.declared.restore.RestoreError.{RestoreError}
use Rattle.zk_save.specs.declared.restore.RestoreError.TheVariants as restore_error
use Rattle.zk_save.specs.Loading.{restored}
use Rattle.zk_save.specs.Quetzal.{saved}
use Rattle.zk_term.specs.declared.lines.InputEnd.{InputEnd}
use Rattle.zk_term.specs.declared.lines.InputEnd.TheVariants.{End, Failed}
use Rattle.zk_term.specs.Characters.{line_codes}
use Rattle.zk_term.specs.Devices.{HasJust}
use Rattle.zk_term.specs.Lines.{GaveLines, Heard, heard, ended_lines, MeetsBound, Reading}
use Rattle.zk_step.specs.declared.state.ending.Event.{Event}
use Rattle.zk_vm.specs.declared.stop.Stop.{Stop}
use Rattle.zk_vm.specs.declared.stop.Stop.TheVariants.{EndOfInput, Read}
use Rattle.zk_vm.specs.declared.waiting.Waiting.{Waiting}
use Rattle.zk_vm.specs.Halts.{event_waited}
use Rattle.zk_vm.specs.Sessions.{Session}
use Rattle.zk_vm.specs.Step.{is_read, saved_pc}

-- ---- answers

-- the codes of a line, by the extra characters in force where it is read
abbrev pub codes_read : Session → List ℕ → List ℕ
codes_read s line = line_codes (own_characters s.state.game.memory) line

-- the saved game of a machine that waits for it to be kept
abbrev pub image_by : Session → Option Waiting → List ℕ
image_by s None = []
image_by s (Some w) = saved s.state.game.memory s.state.game.frames (saved_pc s.state w.instruction)

-- the same by what the machine waits for
abbrev pub image_of : Session → List ℕ
image_of s = image_by s s.waiting

-- a machine waits for a line or a character
abbrev pub AsksForLine : Session → Type 0
AsksForLine s = (event : Event) × ((event_waited s.waiting ≡ Some event) × (is_read event ≡ true))

-- a machine waits for a saved game, to keep it or to restore it
abbrev pub AsksForFile : Session → Type 0
AsksForFile s = (event : Event) × ((event_waited s.waiting ≡ Some event) × (is_read event ≡ false))

-- what a slot tells of itself: the file that it holds, and whether it will keep one, where it tells these; and what led
-- from one state of it to another: that it was asked to keep a file, that it was asked for the one that it has, and
-- that it was told why that is refused
pub record SlotTells (K : Type 0) : Type 1 where
  pub held : K → Option (Option (List ℕ))
  pub keeps : K → List ℕ → Option Bool
  pub puts : K → K → List ℕ → Bool → Type 0
  pub gets : K → K → Option (List ℕ) → Type 0
  pub hears : K → K → RestoreError → Type 0

abbrev pub slot_tells : {K : Type 0} → (K → Option (Option (List ℕ))) → (K → List ℕ → Option Bool)
    → (K → K → List ℕ → Bool → Type 0) → (K → K → Option (List ℕ) → Type 0) → (K → K → RestoreError → Type 0)
    → SlotTells K
slot_tells {K} held keeps puts gets hears =
    record { held = held; keeps = keeps; puts = puts; gets = gets; hears = hears }

-- why a machine refuses a saved game; one with too many frames or words is a limit
abbrev pub refused_in : {A : Type 0} → Result A RestoreError → Option RestoreError
refused_in {A} (Ok a) = None
refused_in {A} (Err (restore_error.Limit limit)) = None
refused_in {A} (Err e) = Some e

abbrev pub refusal_of : Session → Option (List ℕ) → Option RestoreError
refusal_of s None = None
refusal_of s (Some file) = refused_in (restored file s.state.game.memory s.state.game.frames)

-- a slot was told why its file is refused, if it is
abbrev pub IsTold : {K : Type 0} → (K → K → RestoreError → Type 0) → K → K → Option RestoreError → Type 0
IsTold {K} hears before after None = after ≡ before
IsTold {K} hears before after (Some e) = hears before after e

-- what the screen and the transcript's target took, where they tell it
pub record Taken : Type 0 where
  pub screen : Option (List ℕ)
  pub script : Option (List ℕ)

abbrev pub taken_by : Option (List ℕ) → Option (List ℕ) → Taken
taken_by screen script = record { screen = screen; script = script }

-- why a read finds no answer
abbrev pub stop_behind : InputEnd → Stop
stop_behind End = EndOfInput
stop_behind Failed = Read

-- ---- on a source, whether it tells its bytes or not

-- what a source tells of itself: that a read found the end, failed or gave bytes, and whether one has failed
pub record SourceTells (R : Type 0) : Type 1 where
  pub ends : R → R → Type 0
  pub fails : R → R → Type 0
  pub gives : R → R → List ℕ → Type 0
  pub failed : R → Bool

abbrev pub source_tells : {R : Type 0} → (R → R → Type 0) → (R → R → Type 0) → (R → R → List ℕ → Type 0)
    → (R → Bool) → SourceTells R
source_tells {R} ends fails gives failed = record { ends = ends; fails = fails; gives = gives; failed = failed }

-- reads took lines, one after the other, each the codes of its line by the extra characters in force, and these are
-- left
abbrev pub TookLines : List (ExtraTable × List ℕ) → List (List ℕ) → List (List ℕ) → Type 0
TookLines [] lines left = lines ≡ left
TookLines (read ∷ reads) [] left = ⊥
TookLines (read ∷ reads) (line ∷ lines) left = (read.1 ≡ line_codes read.0 line) × TookLines reads lines left

-- the next line of a source is too long: it has given the lines that reads took, and then 65,536 bytes were taken, none
-- a new line, and it was not asked for more
pub record HasMetBound {R : Type 0} (gives : R → R → List ℕ → Type 0) (before after : R)
    (reads : List (ExtraTable × List ℕ)) : Type 0 where
  pub lines : List (List ℕ)
  pub took : TookLines reads lines []
  pub start : R
  pub old : Reading
  pub new : Reading
  pub gave : GaveLines gives before start lines old.ahead
  pub bound : MeetsBound gives start after old new

-- the last read of a source found no line: it found the end, or it failed, or too many bytes had come without a new
-- line
abbrev pub FoundNoLine : {R : Type 0} → SourceTells R → R → R → List (ExtraTable × List ℕ) → InputEnd → Type 0
FoundNoLine {R} r before after reads End = HasJust r.ends after × (r.failed after ≡ false)
FoundNoLine {R} r before after reads Failed = (HasJust r.fails after × (r.failed after ≡ true))
    ⊎ ((r.failed after ≡ false) × HasMetBound r.gives before after reads)

-- ---- on the bytes of an input

-- what is heard of an input, where these bytes are left of it in the end, and the lines that are left: the lines of all
-- of its bytes; where a read of the source has failed, those that are complete in the bytes that had left it, and none
-- is left
abbrev pub IsHeard : List ℕ → List ℕ → Bool → Heard → List (List ℕ) → Type 0
IsHeard bytes later false h left = h ≡ heard bytes
IsHeard bytes later true h left =
    (gone : List ℕ) × ((bytes ≡ gone ++ later) × (h ≡ record { lines = ended_lines gone; over = Failed }) × (left ≡ []))
