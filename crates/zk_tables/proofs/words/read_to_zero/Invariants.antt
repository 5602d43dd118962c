use Rattle.std.proofs.Common.{◌≡◌, ◌+◌, ◌-◌, length}
use Rattle.zk_tables.specs.Parsing.{letters_to_zero}
use Rattle.zk_tables.proofs.Dividing.{after}
use Rattle.zk_tables.proofs.words.read_to_zero.Given as goal

abbrev pub invariant-loop-i : goal.invariant-loop-i
invariant-loop-i l = record {
  so_far : letters_to_zero l.memory l.address 254 ≡ after l.letters.items
      (letters_to_zero l.memory (l.address + l.i) (254 - l.i));
  room : length l.letters.items ≡ l.i;
}
