use Rattle.std.proofs.Common.{◌≡◌, ◌++◌, ◌+◌, drop}
use Rattle.zk_coverage.specs.Reports.{lines_records}
use Rattle.zk_coverage.proofs.lcov.push_lines.Given as goal

-- what is left of the lines, added from here, makes the whole
abbrev pub invariant-loop-index : goal.invariant-loop-index
invariant-loop-index l =
    l.out.items ++ lines_records (l.index + 1) (drop l.index l.states) ≡ l.fn.out.items ++ lines_records 1 l.states
