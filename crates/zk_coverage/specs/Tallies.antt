-- What ran of the parts of a source.
use Rattle.std.specs.Prelude.{ℕ, ◌==◌, ◌&&◌, Bool, List, ◌++◌, codes, None, Some}
use Rattle.zk_names.specs.Places.{points_of}
use Rattle.zk_names.specs.declared.names.Names.{Names}
use Rattle.zk_names.specs.declared.names.Routine.{Routine}
use Rattle.zk_coverage.specs.Coverage.{all_routines, placed_share, routines_share, texts_share}
use Rattle.zk_coverage.specs.Lines.{file_share, lowest_line}
use Rattle.zk_coverage.specs.Reports.{share_of}
use Rattle.zk_coverage.specs.declared.ran.Ran.{Ran}
use Rattle.zk_coverage.specs.declared.ran.Share.{Share}
use Rattle.zk_coverage.specs.declared.tally.PlacedText.{PlacedText}
use Rattle.zk_coverage.specs.declared.tally.Tally.{Tally}

-- what ran of a file
abbrev pub file_tally : Ran → Names → List PlacedText → ℕ → Tally
file_tally ran names texts file = record {
  lines = file_share ran.covered.now names.points.items (record { file = file; first = 1 });
  routines = routines_share ran (Some file) names.routines.items;
  texts = placed_share ran.covered.now (Some file) texts;
}

-- and of all, by what ran of its lines
abbrev pub all_tally : Ran → Names → Share → Tally
all_tally ran names lines = record {
  lines = lines;
  routines = all_routines ran names.routines.items;
  texts = texts_share ran.covered.now ran.texts.now;
}

-- how many of the lines of a routine ran
abbrev pub routine_share : Ran → Names → Routine → ℕ → Share
routine_share ran names r file =
    file_share ran.covered.now (points_of names r) (record { file = file; first = lowest_line (points_of names r) })

-- a part has no lines with code and no routines
abbrev pub is_empty : Tally → Bool
is_empty t = t.lines.listed == 0 && t.routines.listed == 0

-- the line of what has no place in the source
unfoldable pub rest_line : Ran → Names → List PlacedText → List ℕ
rest_line ran names texts =
    codes "without a source: "
    ++ (share_of (routines_share ran None names.routines.items) (codes " routines, ")
    ++ share_of (placed_share ran.covered.now None texts) (codes " texts\n"))
