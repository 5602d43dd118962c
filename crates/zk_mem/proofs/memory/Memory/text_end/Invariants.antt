use Rattle.std.proofs.Common.{◌≡◌, ◌+◌, ◌*◌}
use Rattle.zk_mem.specs.Words.{text_end_at}
use Rattle.zk_mem.proofs.memory.Memory.text_end.Given as goal

abbrev pub invariant-loop-i : goal.invariant-loop-i
invariant-loop-i l = record {
  rest : text_end_at l.self l.at ≡ text_end_at l.self l.address;
  place : l.at ≡ l.address + 2 * l._i;
}
