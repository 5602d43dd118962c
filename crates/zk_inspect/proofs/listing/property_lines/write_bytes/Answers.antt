use Rattle.std.proofs.Common.{arith}
use Rattle.zk_inspect.specs.PropertyBytes.{byte_text}
use Rattle.zk_inspect.proofs.Numbered.{numbered_all, numbered_more}
use Rattle.zk_inspect.proofs.listing.property_lines.write_bytes.Goals as goal

pub loop-before-preserved : goal.loop-before-preserved
loop-before-preserved g c = numbered_more g.P.LineWriter.wrote g.met.P.LineWriter.twice _ _ _
    (byte_text c.args.memory.now) c.args.address c.args.count c.loop-before.before _ (omega arith) (omega arith)
    c.loop-before.invariant c.write_byte_after.ensures

pub returns : goal.returns
returns g c = numbered_all g.P.LineWriter.wrote _ _ (byte_text c.args.memory.now) c.args.address c.args.count
    c.loop-before.before (omega arith) c.loop-before.invariant
