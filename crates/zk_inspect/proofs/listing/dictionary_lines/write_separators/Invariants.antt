use Rattle.std.proofs.Common.{take}
use Rattle.std.specs.List.{flat_map, range_with_len}
use Rattle.zk_inspect.specs.DictionaryLines.{separator_text}
use Rattle.zk_inspect.proofs.listing.dictionary_lines.write_separators.Given as goal

abbrev pub invariant-loop-index : goal.invariant-loop-index
invariant-loop-index g l =
    g.P.LineWriter.wrote l.fn.writer l.writer (flat_map (separator_text l.memory l.dictionary)
    (take l.index (range_with_len 0 l.dictionary.separators)))
