-- The lines of summaries, and the records of trace files.
use Rattle.std.specs.Prelude.{ℕ, ◌+◌, ◌-◌, ◌==◌, Bool, true, false, List, [], ◌∷◌, ◌++◌, length, codes, decimal}
use Rattle.std.specs.Prelude.{replicate, if◌then◌else◌}
use Rattle.std.specs.Fmt.{digits}
use Rattle.zk_coverage.specs.Coverage.{addresses_in, addresses_share, bound_of, texts_in, texts_share}
use Rattle.zk_coverage.specs.Lines.{is_ran}
use Rattle.zk_coverage.specs.declared.lines.LineState.{LineState}
use Rattle.zk_coverage.specs.declared.lines.LineState.TheVariants as state
use Rattle.zk_coverage.specs.declared.ran.Ran.{Ran}
use Rattle.zk_coverage.specs.declared.ran.Share.{Share}
use Rattle.zk_coverage.specs.declared.ran.Span.{Span}
use Rattle.zk_coverage.specs.declared.ran.Text.{Text}
use Rattle.zk_coverage.specs.declared.summary.RoutineTally.{RoutineTally}
use Rattle.zk_coverage.specs.declared.tally.Tally.{Tally}

-- how many of what is listed ran, and a text behind it
abbrev pub share_of : Share → List ℕ → List ℕ
share_of s text = decimal s.ran ++ codes " of " ++ decimal s.listed ++ text

-- an address: five hexadecimal digits at least
abbrev pub filled : List ℕ → List ℕ
filled ds = replicate (5 - length ds) 48 ++ ds

abbrev pub address_digits : ℕ → List ℕ
address_digits a = filled (digits 16 false a)

-- what a summary says of a part of the source, and of a routine
unfoldable pub tally_line : Tally → List ℕ
tally_line t =
    share_of t.lines (codes " lines, ") ++ share_of t.routines (codes " routines, ")
    ++ share_of t.texts (codes " texts\n")

unfoldable pub routine_line : List ℕ → ℕ → RoutineTally → List ℕ
routine_line name line t =
    codes "  " ++ name ++ codes " at line " ++ decimal line ++ codes ": "
    ++ share_of t.lines (codes " lines, ") ++ share_of t.texts (codes " texts\n")

-- and of the instructions and the texts in a span of addresses
unfoldable pub span_line : Ran → Span → List ℕ
span_line ran s =
    share_of (addresses_share ran.covered.now (addresses_in s ran.instructions.now)) (codes " instructions, ")
    ++ share_of (texts_share ran.covered.now (texts_in s ran.texts.now)) (codes " texts\n")

-- the line of the instructions before the first routine, if there are any
abbrev pub start_share : Ran → Share
start_share ran = addresses_share ran.covered.now
    (addresses_in (record { low = 0; high = bound_of ran.routines.now }) ran.instructions.now)

abbrev pub start_line : Ran → List ℕ
start_line ran =
    if (start_share ran).listed == 0 then []
    else codes "start: " ++ span_line ran (record { low = 0; high = bound_of ran.routines.now })

-- the lines of routines, by their addresses
abbrev pub address_line : Ran → ℕ → List ℕ → List ℕ
address_line ran r rest =
    codes "routine " ++ (address_digits r
    ++ (codes ": " ++ span_line ran (record { low = r + 1; high = bound_of rest })))

abbrev pub address_lines : Ran → List ℕ → List ℕ
address_lines ran [] = []
address_lines ran (r ∷ rest) = address_line ran r rest ++ address_lines ran rest

-- how many of the texts that lie apart from code were printed, if there are any
abbrev pub strings_of : Ran → List Text → List ℕ
strings_of ran [] = []
strings_of ran strings = codes "strings: " ++ share_of (texts_share ran.covered.now strings) (codes " texts\n")

unfoldable pub strings_line : Ran → List ℕ
strings_line ran = strings_of ran ran.strings.now

-- the summary of a story whose source is not known
unfoldable pub summary_by_address : Ran → List ℕ
summary_by_address ran =
    start_line ran ++ address_lines ran ran.routines.now
    ++ codes "all: " ++ share_of (texts_share ran.covered.now ran.texts.now) (codes " texts\n") ++ strings_line ran

-- 1 for what ran, and 0 for what did not
abbrev pub count_of : Bool → ℕ
count_of true = 1
count_of false = 0

-- the records of a routine (geninfo, FN and FNDA)
unfoldable pub function_records : ℕ → List ℕ → Bool → List ℕ
function_records line name entered =
    codes "FN:" ++ decimal line ++ codes "," ++ name ++ codes "\nFNDA:" ++ decimal (count_of entered) ++ codes ","
    ++ name ++ codes "\n"

-- the record of a line, by its number (DA)
abbrev pub line_record : ℕ → LineState → List ℕ
line_record line state.NoCode = []
line_record line s =
    codes "DA:" ++ decimal line ++ codes "," ++ decimal (count_of (is_ran s)) ++ codes "\n"

-- the records of lines, the first of which has a number
abbrev pub lines_records : ℕ → List LineState → List ℕ
lines_records line [] = []
lines_records line (s ∷ states) = line_record line s ++ lines_records (line + 1) states

-- how many there are, and how many ran (FNF and FNH, LF and LH)
abbrev pub count_records : List ℕ → List ℕ → Share → List ℕ
count_records found hit s = found ++ decimal s.listed ++ codes "\n" ++ hit ++ decimal s.ran ++ codes "\n"

-- a byte of a name in a record, where a comma and a line end have a meaning of their own
abbrev pub record_byte : ℕ → ℕ
record_byte b = if b == 44 then 59 else if b == 10 then 32 else if b == 13 then 32 else b
