-- The page of what ran.
use Rattle.std.specs.Prelude.{ℕ, List, [], ◌∷◌, ◌++◌, codes, decimal, nat_eq, if◌then◌else◌}
use Rattle.std.specs.List.{flat_map}
use Rattle.zk_coverage.specs.Reports.{share_of}
use Rattle.zk_coverage.specs.declared.lines.LineState.{LineState}
use Rattle.zk_coverage.specs.declared.lines.LineState.TheVariants as state
use Rattle.zk_coverage.specs.declared.ran.Share.{Share}

-- a byte of a text in a page (HTML, sections 13.1.2.3 and 13.1.2.6: these begin tags and character references, and end
-- the values of attributes)
abbrev pub byte_text : ℕ → List ℕ
byte_text b =
    if nat_eq b 38 then codes "&amp;"
    else if nat_eq b 60 then codes "&lt;"
    else if nat_eq b 62 then codes "&gt;"
    else if nat_eq b 34 then codes "&quot;"
    else if nat_eq b 39 then codes "&#39;"
    else b ∷ []

abbrev pub escaped : List ℕ → List ℕ
escaped text = flat_map byte_text text

-- how much ran, as a bar and in numbers
unfoldable pub cell : Share → List ℕ
cell s =
    codes "<td><meter value=\"" ++ decimal s.ran ++ codes "\" max=\"" ++ decimal s.listed
    ++ codes "\"></meter>" ++ share_of s (codes "</td>")

-- how the row of a line begins, and the sign of its state
abbrev pub row_start : LineState → List ℕ
row_start state.NoCode = codes "<div id=\"f"
row_start state.Missed = codes "<div class=\"missed\" id=\"f"
row_start state.Ran = codes "<div class=\"ran\" id=\"f"

abbrev pub row_sign : LineState → List ℕ
row_sign state.NoCode = codes " "
row_sign state.Missed = codes "-"
row_sign state.Ran = codes "+"

-- a line of a listing: its number, its sign and its text
unfoldable pub line_row : ℕ → ℕ → LineState → List ℕ → List ℕ
line_row file number s line =
    row_start s ++ decimal file ++ codes "-" ++ decimal number ++ codes "\"><span>" ++ decimal number
    ++ codes "</span><b>" ++ row_sign s ++ codes "</b>" ++ escaped line ++ codes "</div>\n"
