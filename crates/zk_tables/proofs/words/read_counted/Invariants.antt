use Rattle.std.proofs.Common.{◌≡◌, ◌+◌, ◌-◌, length}
use Rattle.zk_tables.specs.Parsing.{letters_counted}
use Rattle.zk_tables.proofs.Dividing.{after}
use Rattle.zk_tables.proofs.words.read_counted.Given as goal

abbrev pub invariant-loop-i : goal.invariant-loop-i
invariant-loop-i l = record {
  so_far : letters_counted l.memory l.address l.count ≡ after l.letters.items
      (letters_counted l.memory (l.address + l.i) (l.count - l.i));
  room : length l.letters.items ≡ l.i;
}
