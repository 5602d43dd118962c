use Rattle.std.proofs.Common.{map, take}
use Rattle.std.specs.List.{range_with_len}
use Rattle.zk_inspect.specs.DictionaryLines.{word_of}
use Rattle.zk_inspect.proofs.listing.dictionary_lines.list_words.Given as goal

abbrev pub invariant-loop-index : goal.invariant-loop-index
invariant-loop-index g l =
    g.F.FactWriter.wrote l.fn.facts l.facts
    (map (word_of l.dictionary) (take l.index (range_with_len 0 l.dictionary.entries)))
