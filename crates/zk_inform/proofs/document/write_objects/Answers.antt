use Rattle.std.proofs.Common.{arith}
use Rattle.zk_inspect.proofs.Numbered.{numbered_all, numbered_more}
use Rattle.zk_inform.specs.Documents.{object_item}
use Rattle.zk_inform.proofs.document.write_objects.Goals as goal

pub loop-before-preserved : goal.loop-before-preserved
loop-before-preserved g c = numbered_more g.P.LineWriter.wrote g.met.P.LineWriter.twice _ _ _
    (object_item c.args.memory.now) 1 c.args.objects c.loop-before.before _ (omega arith) (omega arith)
    c.loop-before.invariant c.write_object.ensures

pub returns : goal.returns
returns g c = numbered_all g.P.LineWriter.wrote _ _ (object_item c.args.memory.now) 1 c.args.objects
    c.loop-before.before (omega arith) c.loop-before.invariant
