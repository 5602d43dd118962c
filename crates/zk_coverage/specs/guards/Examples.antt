-- Worked examples of what ran, by hand.
use Rattle.std.specs.Prelude.{◌≡◌, true, false, List, [], ◌∷◌, codes, Some, None}
use Rattle.zk_coverage.specs.Coverage.{addresses_in, addresses_share, bound_of, first_ran, is_of}
use Rattle.zk_coverage.specs.Lines.{index_in, line_state, lines_share, lowest_line, numbers, with_point}
use Rattle.zk_coverage.specs.Page.{cell, escaped, line_row}
use Rattle.zk_coverage.specs.Reports.{address_digits, count_records, function_records, lines_records, record_byte}
use Rattle.zk_coverage.specs.Reports.{routine_line, share_of, tally_line}
use Rattle.zk_coverage.specs.declared.lines.LineState.TheVariants as state
use Rattle.zk_names.specs.declared.names.Point.{Point}

-- two sequence points on line 3 of file 0, one on line 4, and one on line 3 of file 1
abbrev pub points : List Point
points =
    record { address = 10; place = record { file = 0; line = 3 } }
    ∷ record { address = 14; place = record { file = 0; line = 4 } }
    ∷ record { address = 17; place = record { file = 0; line = 3 } }
    ∷ record { address = 20; place = record { file = 1; line = 3 } }
    ∷ []

-- a line ran if one of its sequence points did
abbrev pub OnePointIsEnough : Type 0
OnePointIsEnough =
    (line_state (12 ∷ 17 ∷ []) points 0 3 ≡ state.Ran)
    × (line_state (12 ∷ 17 ∷ []) points 0 4 ≡ state.Missed)
    × (line_state (12 ∷ 17 ∷ []) points 1 3 ≡ state.Missed)
    × (line_state (12 ∷ 17 ∷ []) points 0 5 ≡ state.NoCode)
    × (line_state [] points 0 3 ≡ state.Missed)

-- lines have the numbers from the first on, up to 1000000
abbrev pub LinesAreBounded : Type 0
LinesAreBounded =
    (index_in (record { file = 0; first = 1 }) (record { file = 0; line = 1 }) ≡ Some 0)
    × (index_in (record { file = 0; first = 1 }) (record { file = 0; line = 0 }) ≡ None)
    × (index_in (record { file = 0; first = 7 }) (record { file = 0; line = 1000000 }) ≡ Some 999993)
    × (index_in (record { file = 0; first = 7 }) (record { file = 0; line = 1000001 }) ≡ None)
    × (index_in (record { file = 0; first = 1 }) (record { file = 1; line = 1 }) ≡ None)
    × (numbers 3 2 ≡ 3 ∷ 4 ∷ [])
    × (lowest_line points ≡ 3)
    × (with_point state.NoCode false ≡ state.Missed)
    × (with_point state.Ran false ≡ state.Ran)

-- code was entered if its first instruction ran: that at the low end of a span is in it, that at the high end is not
abbrev pub FirstInstructionsCount : Type 0
FirstInstructionsCount =
    (addresses_in (record { low = 11; high = 20 }) (10 ∷ 11 ∷ 19 ∷ 20 ∷ []) ≡ 11 ∷ 19 ∷ [])
    × (first_ran (11 ∷ []) (11 ∷ 19 ∷ []) ≡ true)
    × (first_ran (19 ∷ []) (11 ∷ 19 ∷ []) ≡ false)
    × (first_ran (19 ∷ []) [] ≡ false)
    × (addresses_share (11 ∷ 30 ∷ []) (11 ∷ 19 ∷ []) ≡ record { ran = 1; listed = 2 })
    × (bound_of (40 ∷ 50 ∷ []) ≡ 40)
    × (bound_of [] ≡ 0x100000000)
    × (is_of None None ≡ true)
    × (is_of (Some 1) (Some (record { file = 1; line = 9 })) ≡ true)
    × (is_of (Some 1) (Some (record { file = 2; line = 9 })) ≡ false)
    × (is_of (Some 1) None ≡ false)
    × (is_of None (Some (record { file = 1; line = 9 })) ≡ false)

-- what is HTML's own is escaped
abbrev pub TextsAreEscaped : Type 0
TextsAreEscaped = escaped (codes "<a & 'b' \">") ≡ codes "&lt;a &amp; &#39;b&#39; &quot;&gt;"

-- rows of listings, and cells of tables
abbrev pub RowsAreWritten : Type 0
RowsAreWritten =
    (line_row 0 12 state.Ran (codes "a;") ≡ codes "<div class=\"ran\" id=\"f0-12\"><span>12</span><b>+</b>a;</div>\n")
    × (line_row 3 7 state.Missed [] ≡ codes "<div class=\"missed\" id=\"f3-7\"><span>7</span><b>-</b></div>\n")
    × (line_row 0 1 state.NoCode (codes "<") ≡ codes "<div id=\"f0-1\"><span>1</span><b> </b>&lt;</div>\n")
    × (cell (record { ran = 3; listed = 12 }) ≡ codes "<td><meter value=\"3\" max=\"12\"></meter>3 of 12</td>")
    × (cell (record { ran = 0; listed = 0 }) ≡ codes "<td><meter value=\"0\" max=\"0\"></meter>0 of 0</td>")

-- lines of summaries
abbrev pub SummariesAreWritten : Type 0
SummariesAreWritten =
    (share_of (record { ran = 3; listed = 12 }) (codes " lines") ≡ codes "3 of 12 lines")
    × (address_digits 0x15d8 ≡ codes "015d8")
    × (address_digits 0x123456 ≡ codes "123456")
    × (tally_line (record {
      lines = record { ran = 210; listed = 302 };
      routines = record { ran = 70; listed = 104 };
      texts = record { ran = 77; listed = 130 };
    }) ≡ codes "210 of 302 lines, 70 of 104 routines, 77 of 130 texts\n")
    × (routine_line (codes "letter.before") 68 (record {
      lines = record { ran = 3; listed = 3 };
      texts = record { ran = 0; listed = 1 };
    }) ≡ codes "  letter.before at line 68: 3 of 3 lines, 0 of 1 texts\n")

-- records of trace files: lines without code have none
abbrev pub RecordsAreWritten : Type 0
RecordsAreWritten =
    (function_records 68 (codes "f") true ≡ codes "FN:68,f\nFNDA:1,f\n")
    × (function_records 7 (codes "g") false ≡ codes "FN:7,g\nFNDA:0,g\n")
    × (lines_records 1 (state.NoCode ∷ state.Missed ∷ state.Ran ∷ []) ≡ codes "DA:2,0\nDA:3,1\n")
    × (lines_share (state.NoCode ∷ state.Missed ∷ state.Ran ∷ []) ≡ record { ran = 1; listed = 2 })
    × (count_records (codes "LF:") (codes "LH:") (record { ran = 1; listed = 2 }) ≡ codes "LF:2\nLH:1\n")
    × (record_byte 44 ≡ 59)
    × (record_byte 10 ≡ 32)
    × (record_byte 13 ≡ 32)
    × (record_byte 65 ≡ 65)
