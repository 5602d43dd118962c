use Rattle.zk_step.proofs.Keys.{Seen}
use Rattle.zk_step.proofs.opcodes.words.read_letters.Given as goal

abbrev pub invariant-loop-i : goal.invariant-loop-i
invariant-loop-i l = record {
  so_far : Seen l.memory l.address l.count l.i l.letters.items;
}
