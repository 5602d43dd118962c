use Rattle.std.proofs.Common.{arith}
use Rattle.zk_inspect.specs.PropertyBytes.{object_properties}
use Rattle.zk_inspect.proofs.Numbered.{numbered_all, numbered_more}
use Rattle.zk_inspect.proofs.listing.property_lines.list_first_properties.Goals as goal

pub loop-before-preserved : goal.loop-before-preserved
loop-before-preserved g c = numbered_more g.F.FactWriter.wrote g.met.F.FactWriter.twice _ _ _
    (object_properties c.args.memory.now) 1 c.args.count c.loop-before.before _ (omega arith) (omega arith)
    c.loop-before.invariant c.list_object_properties.ensures

pub returns : goal.returns
returns g c = numbered_all g.F.FactWriter.wrote _ _ (object_properties c.args.memory.now) 1 c.args.count
    c.loop-before.before (omega arith) c.loop-before.invariant
