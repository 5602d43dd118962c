use Rattle.std.proofs.Common.{◌≡◌, ◌*◌, take, length}
use Rattle.zk_save.specs.Reading.{words_of}
use Rattle.zk_save.proofs.writes.words_at_front.Given as goal

abbrev pub invariant-loop-i : goal.invariant-loop-i
invariant-loop-i l = record {
  front : take l.i l.words ≡ words_of (take (2 * l.i) l.bytes);
  long : length l.words ≡ 15;
}
