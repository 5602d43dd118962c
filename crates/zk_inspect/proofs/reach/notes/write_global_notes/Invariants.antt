use Rattle.std.proofs.Common.{take}
use Rattle.std.specs.List.{flat_map, range_with_len}
use Rattle.zk_inspect.specs.Notes.{global_note}
use Rattle.zk_inspect.proofs.reach.notes.write_global_notes.Given as goal

abbrev pub invariant-loop-number : goal.invariant-loop-number
invariant-loop-number g l =
    g.P.LineWriter.wrote l.fn.writer l.writer (flat_map (global_note l.memory l.instr)
    (take l.number (range_with_len 0 240)))
