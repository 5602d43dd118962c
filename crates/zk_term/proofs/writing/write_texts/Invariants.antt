use Rattle.std.proofs.Common.{take}
use Rattle.std.specs.List.{flat_map}
use Rattle.zk_term.proofs.writing.write_texts.Given as goal

abbrev pub invariant-loop-text : goal.invariant-loop-text
invariant-loop-text g l = g.P.LineWriter.wrote l.fn.writer l.writer (flat_map (λ t. t.now) (take l.text-index l.texts))
