use Rattle.std.proofs.Common.{◌≡◌, length, take, map}
use Rattle.zk_text.specs.Extra.{own_characters, lower_code}
use Rattle.zk_step.proofs.input.text_buffers.take_letters.Given as goal

abbrev pub invariant-loop-i : goal.invariant-loop-i
invariant-loop-i l = record {
  so_far : l.letters.items ≡ map (lower_code (own_characters l.memory)) (take l.i l.line);
  room : length l.letters.items ≡ l.i;
}
