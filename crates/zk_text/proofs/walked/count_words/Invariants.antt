use Rattle.std.proofs.Common.{◌≡◌, ◌+◌, length}
use Rattle.zk_text.specs.Walked.{run_at}
use Rattle.zk_text.proofs.walked.count_words.Given as goal

abbrev pub invariant-loop-count : goal.invariant-loop-count
invariant-loop-count l = length (run_at l.memory l.address) ≡ l.count + length (run_at l.memory l.at)
