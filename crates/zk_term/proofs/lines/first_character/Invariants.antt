use Rattle.zk_term.proofs.Spelling.{NoneBefore}
use Rattle.zk_term.proofs.lines.first_character.Given as goal

abbrev pub invariant-loop-count : goal.invariant-loop-count
invariant-loop-count l = NoneBefore l.bytes l.count
