use Rattle.std.proofs.Common.{◌≡◌, ◌+◌, ◌-◌, ◌++◌, length}
use Rattle.zk_tables.specs.Dictionaries.{bytes_from}
use Rattle.zk_tables.proofs.words.read_separators.Given as goal

abbrev pub invariant-loop-i : goal.invariant-loop-i
invariant-loop-i l = record {
  so_far : l.separators.items ++ bytes_from l.memory (l.dictionary.address + 1 + l.i)
      (l.dictionary.separators - l.i) ≡ bytes_from l.memory (l.dictionary.address + 1) l.dictionary.separators;
  room : length l.separators.items ≡ l.i;
}
