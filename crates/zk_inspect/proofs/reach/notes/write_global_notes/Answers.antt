use Rattle.std.proofs.Common.{arith}
use Rattle.zk_inspect.specs.Notes.{global_note}
use Rattle.zk_inspect.proofs.Numbered.{numbered_all, numbered_more}
use Rattle.zk_inspect.proofs.reach.notes.write_global_notes.Goals as goal

pub loop-number-preserved : goal.loop-number-preserved
loop-number-preserved g c = numbered_more g.P.LineWriter.wrote g.met.P.LineWriter.twice _ _ _
    (global_note c.args.memory.now c.args.instr.now) 0 240 c.loop-number.number _ (omega arith) (omega arith)
    c.loop-number.invariant c.write_global_note.ensures

pub returns : goal.returns
returns g c = numbered_all g.P.LineWriter.wrote _ _ (global_note c.args.memory.now c.args.instr.now) 0 240
    c.loop-number.number (omega arith) c.loop-number.invariant
