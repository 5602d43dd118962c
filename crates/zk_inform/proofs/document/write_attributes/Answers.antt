use Rattle.std.proofs.Common.{arith}
use Rattle.zk_inspect.proofs.Numbered.{numbered_all, numbered_more}
use Rattle.zk_inform.specs.Documents.{attribute_item}
use Rattle.zk_inform.specs.Tables.{attribute_count}
use Rattle.zk_inform.proofs.document.write_attributes.Goals as goal

pub loop-attribute-preserved : goal.loop-attribute-preserved
loop-attribute-preserved g c = numbered_more g.P.LineWriter.wrote g.met.P.LineWriter.twice _ _ _
    (attribute_item c.args.memory.now c.args.table) 0 (attribute_count c.args.memory.now) c.loop-attribute.attribute _
    (omega (arith, c.attribute_count-attribute-end.ensures.value)) (omega arith) c.loop-attribute.invariant
    c.write_attribute.ensures

pub returns : goal.returns
returns g c = numbered_all g.P.LineWriter.wrote _ _ (attribute_item c.args.memory.now c.args.table) 0
    (attribute_count c.args.memory.now) c.loop-attribute.attribute
    (omega (arith, c.attribute_count-attribute-end.ensures.value)) c.loop-attribute.invariant
