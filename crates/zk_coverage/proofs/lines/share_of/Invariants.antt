use Rattle.std.proofs.Common.{◌≡◌, ◌≤◌, take, count_by}
use Rattle.zk_coverage.specs.Lines.{has_code, is_ran}
use Rattle.zk_coverage.proofs.lines.share_of.Given as goal

abbrev pub invariant-loop-state : goal.invariant-loop-state
invariant-loop-state l = record {
  ran_bound : l.ran ≤ l.state-index;
  listed_bound : l.listed ≤ l.state-index;
  ran_is : l.ran ≡ count_by is_ran (take l.state-index l.states);
  listed_is : l.listed ≡ count_by has_code (take l.state-index l.states);
}
