use Rattle.std.proofs.Common.{take}
use Rattle.std.specs.List.{flat_map, range_with_len}
use Rattle.zk_inspect.specs.AlphabetLines.{letter_text}
use Rattle.zk_inspect.proofs.listing.alphabet_lines.write_letters.Given as goal

abbrev pub invariant-loop-before : goal.invariant-loop-before
invariant-loop-before g l =
    g.P.LineWriter.wrote l.fn.writer l.writer (flat_map (letter_text l.memory l.row)
    (take l.before (range_with_len l.first l.count)))
