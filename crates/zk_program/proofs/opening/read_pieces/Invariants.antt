use Rattle.zk_program.proofs.Readings.{ReadBehind}
use Rattle.zk_program.proofs.opening.read_pieces.Given as goal

abbrev pub invariant-loop-k : goal.invariant-loop-k
invariant-loop-k g l =
    ReadBehind (g.R.Read.remaining l.fn.reader) (g.R.Read.remaining l.reader) l.fn.bytes.items l.bytes.items
