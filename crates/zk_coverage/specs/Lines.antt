-- The lines of a file that have code, and those that ran.
use Rattle.std.specs.Prelude.{ℕ, zero, suc, ◌-◌, ◌==◌, ◌&&◌, Bool, true, false, List, [], ◌∷◌, nat_le}
use Rattle.std.specs.Prelude.{count_by, fold, if◌then◌else◌, min}
use Rattle.std.specs.Prelude.{Option, Some, None}
use Rattle.std.specs.List.{list_any, slice_index_or}
use Rattle.zk_names.specs.declared.names.Place.{Place}
use Rattle.zk_names.specs.declared.names.Point.{Point}
use Rattle.zk_coverage.specs.Coverage.{has_run}
use Rattle.zk_coverage.specs.declared.lines.LineState.{LineState}
use Rattle.zk_coverage.specs.declared.lines.LineState.TheVariants as state
use Rattle.zk_coverage.specs.declared.lines.Lines.{Lines}
use Rattle.zk_coverage.specs.declared.ran.Share.{Share}

-- a sequence point is on a line of a file
abbrev pub is_on : ℕ → ℕ → Point → Bool
is_on file line p = p.place.file == file && p.place.line == line

-- a line of a file ran if a sequence point on it ran; without one it has no code
abbrev pub line_state : List ℕ → List Point → ℕ → ℕ → LineState
line_state covered points file line =
    if list_any (λ p. is_on file line p && has_run covered p.address) points then state.Ran
    else if list_any (is_on file line) points then state.Missed
    else state.NoCode

-- the state that a list has for a line, which has no code if it is not there
abbrev pub state_at : List LineState → ℕ → LineState
state_at states k = slice_index_or states k state.NoCode

-- the state of a line with one sequence point more
abbrev pub with_point : LineState → Bool → LineState
with_point s true = state.Ran
with_point state.Ran false = state.Ran
with_point s false = state.Missed

-- how many lines before a place there are, if it is on one of these lines; lines above 1000000 do not count
abbrev pub index_in : Lines → Place → Option ℕ
index_in l p =
    if p.file == l.file && (nat_le l.first p.line && nat_le p.line 1000000) then Some (p.line - l.first) else None

abbrev pub is_ran : LineState → Bool
is_ran state.Ran = true
is_ran _ = false

abbrev pub has_code : LineState → Bool
has_code state.NoCode = false
has_code _ = true

-- how many of the lines that have code ran
abbrev pub lines_share : List LineState → Share
lines_share states = record { ran = count_by is_ran states; listed = count_by has_code states }

-- so many numbers, from one on
unfoldable pub numbers : ℕ → ℕ → List ℕ
numbers first zero = []
numbers first (suc n) = first ∷ numbers (suc first) n

-- how many of the lines of a file that have code ran, from a first line up to line 1000000
abbrev pub file_share : List ℕ → List Point → Lines → Share
file_share covered points l = record {
  ran = count_by (λ n. is_ran (line_state covered points l.file n)) (numbers l.first (1000001 - l.first));
  listed = count_by (λ n. has_code (line_state covered points l.file n)) (numbers l.first (1000001 - l.first));
}

-- the lowest line of sequence points, and of a number
abbrev pub lowest_of : ℕ → List Point → ℕ
lowest_of n points = fold (λ lowest p. min lowest p.place.line) n points

abbrev pub lowest_line : List Point → ℕ
lowest_line points = lowest_of 4294967295 points
