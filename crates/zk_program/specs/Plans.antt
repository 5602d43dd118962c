-- What the program decides on before it does something.
use Rattle.std.specs.Prelude.{◌≡◌, ◌≢◌, ◌⊎◌, ℕ, ◌-◌, ◌==◌, ◌&&◌, ◌||◌, Bool, true, false, List, codes, Option, Some}
use Rattle.std.specs.Prelude.{None}
use Rattle.std.specs.Prelude.{Result, Ok, Err, nat_le, nat_lt, if◌then◌else◌, max}
use Rattle.std.specs.IoError.{error_kind}
use Rattle.std.specs.List.{ends_with}
use Rattle.std.specs.Global.{Vec}
use Rattle.std.specs.declared.io.Error.{Error}
use Rattle.std.specs.declared.io.ErrorKind.TheVariants as kind
use Rattle.zk_command.specs.declared.settings.Amount.{Amount}
use Rattle.zk_command.specs.declared.settings.Amount.TheVariants.{Number, Found}
use Rattle.zk_step.specs.declared.state.ending.Event.{Event}
use Rattle.zk_step.specs.declared.state.ending.Event.TheVariants.{Char}
use Rattle.zk_program.specs.declared.listed.Listed.{Listed}
use Rattle.zk_program.specs.declared.suite.TranscriptPlan.{TranscriptPlan}
use Rattle.zk_program.specs.declared.suite.TranscriptPlan.TheVariants.{Compare, Write, Pass, Missing, Unread}

-- after how many lines a play waits, by its option and by the lines of a terminal that shows what is typed: never
-- without an option, or where there is no such terminal; a line is left for what asks
abbrev pub page_lines : Option Amount → Option ℕ → Option ℕ
page_lines (Some (Number page)) (Some lines) = Some page
page_lines (Some Found) (Some lines) = Some (lines - 1)
page_lines page lines = None

-- the height of the window that a read makes a menu: that of one character does
abbrev pub menu_height : Event → ℕ → ℕ
menu_height Char height = height
menu_height event height = 0

-- how many rows stand above a prompt: those of the window, and where it was higher since the last read those too,
-- unless they are the rows of a menu, which is no box
abbrev pub shown_rows : ℕ → ℕ → ℕ → ℕ
shown_rows height tallest menu = if nat_le tallest menu then height else tallest

-- how listings went that were made one after another: the greater status, and an end where one of them met it
abbrev pub listed_after : Listed → Listed → Listed
listed_after one next = record { status = max one.status next.status; ends = one.ends || next.ends }

-- the status of a suite, by how many of its walkthroughs have passed and failed, and whether all could be found
abbrev pub status_of_suite : ℕ → ℕ → Bool → ℕ
status_of_suite passed failed all = if (failed == 0) && nat_lt 0 passed && all then 0 else 1

-- ---- walkthroughs

-- a check holds where its text occurs in the answer, or where it must not and does not
abbrev pub IsHeld : Bool → Type 0 → Type 0
IsHeld true occurs = occurs
IsHeld false occurs = occurs → ⊥

-- a path ends as those of walkthroughs do
abbrev pub is_walkthrough : List ℕ → Bool
is_walkthrough path = ends_with ◌==◌ path (codes ".walkthrough")

-- What is done about the transcript of a walkthrough whose checks hold, by what its file gave, by whether there are
-- checks, and by whether one is to be written: one that is there is compared, or written anew; one that is not is
-- written where that is asked for and no check stands in its place.
abbrev pub IsPlanFor : Result (Vec ℕ) Error → Bool → Bool → TranscriptPlan → Type 0
IsPlanFor (Ok text) checks bless plan = plan ≡ (if bless then Write else Compare)
IsPlanFor (Err error) checks bless plan =
    ((error_kind error ≢ kind.NotFound) × (plan ≡ Unread))
    ⊎ ((error_kind error ≡ kind.NotFound) × (plan ≡ (if checks then Pass else if bless then Write else Missing)))
