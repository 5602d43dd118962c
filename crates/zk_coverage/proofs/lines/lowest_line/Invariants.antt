use Rattle.std.proofs.Common.{◌≡◌, take}
use Rattle.zk_coverage.specs.Lines.{lowest_of}
use Rattle.zk_coverage.proofs.lines.lowest_line.Given as goal

-- what is left of the points leads from here to the whole
abbrev pub invariant-loop-point : goal.invariant-loop-point
invariant-loop-point l = l.lowest ≡ lowest_of 4294967295 (take l.point-index l.points)
