use Rattle.std.proofs.Common.{◌≡◌}
use Rattle.zk_mem.specs.Words.{text_end_at}
use Rattle.zk_code.proofs.ends.text_end.Given as goal

abbrev pub invariant-loop-i : goal.invariant-loop-i
invariant-loop-i l = text_end_at l.memory l.at ≡ text_end_at l.memory l.address
