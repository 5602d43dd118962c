use Rattle.std.proofs.Common.{◌≡◌, ◌≤◌, ◌++◌, length}
use Rattle.zk_tables.specs.Parsing.{words_of}
use Rattle.zk_tables.proofs.Dividing.{words_from}
use Rattle.zk_tables.proofs.words.find_words.Given as goal

abbrev pub invariant-loop-position : goal.invariant-loop-position
invariant-loop-position l = record {
  so_far : l.words.items ++ words_from l.memory l.dictionary l.letters l.position l.inside ≡ words_of l.memory
      l.dictionary l.letters;
  room : length l.words.items ≤ l.position;
}
