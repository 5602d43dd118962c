use Rattle.std.proofs.Common.{take, codes}
use Rattle.std.specs.List.{flat_map, range_with_len}
use Rattle.zk_inspect.proofs.listing.tree_lines.write_indent.Given as goal

abbrev pub invariant-loop-level : goal.invariant-loop-level
invariant-loop-level g l =
    g.P.LineWriter.wrote l.fn.writer l.writer (flat_map (λ i. codes "  ") (take l._level (range_with_len 0 l.level)))
