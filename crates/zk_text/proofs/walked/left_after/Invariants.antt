use Rattle.std.proofs.Common.{◌≡◌, ◌+◌, ◌-◌, ◌≤◌}
use Rattle.zk_text.specs.Walked.{run_at, words_walked}
use Rattle.zk_text.proofs.Walking.{left_from}
use Rattle.zk_text.proofs.walked.left_after.Given as goal

abbrev pub invariant-loop-i : goal.invariant-loop-i
invariant-loop-i l = record {
  rest : l.most - words_walked l.memory l.address ≡ left_from l.memory l.held (run_at l.memory l.at) l.left;
  fewer : l.left + l._i ≤ l.most;
}
