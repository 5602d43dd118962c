use Rattle.std.proofs.Common.{rules, arith, ◌≡◌, ◌-◌, ◌+◌, Ok, Err, Some, None, sym, subst, ℕ}
use Rattle.std.specs.List.{flat_map}
use Rattle.zk_tables.specs.PropertyList.{properties_from, property_at}
use Rattle.zk_inspect.specs.ObjectLines.{properties_or_none}
use Rattle.zk_inspect.proofs.PropertyLines.{IsWritten, behind_comma, begun, written_more, written_all, never_faulty}
use Rattle.zk_inspect.proofs.PropertyLines.{never_without_end}
use Rattle.zk_inspect.proofs.listing.object_lines.write_further_properties.Goals as goal

pub loop-i-init : goal.loop-i-init
loop-i-init g c = begun g.P.LineWriter.wrote behind_comma c.args.memory.now c.args.writer.now c.args.most _
    c.args.address (g.met.P.LineWriter.nothing c.args.writer.now) (omega arith) c.requires

pub loop-i-preserved : goal.loop-i-preserved
loop-i-preserved g c =
    let m = c.args.memory.now in
    let there : property_at m c.loop-i.at ≡ Ok (Some c.in-Ok-Some.property) = search rules in
    let all = flat_map behind_comma (properties_or_none (properties_from m c.args.most c.args.address)) in
    let k = c.args.most - (c.loop-i._i + 1) in
    subst (λ (a : ℕ). IsWritten g.P.LineWriter.wrote behind_comma m c.args.writer.now c.write_property.new.writer
    all k a) (sym c.end-at.ensures)
    (written_more g.P.LineWriter.wrote g.met.P.LineWriter.twice behind_comma m c.args.writer.now _ _ all
    (c.args.most - c.loop-i._i) k c.loop-i.at c.in-Ok-Some.property (omega arith) there c.loop-i.invariant
    c.write_property.ensures)

pub returns-in-Ok-None : goal.returns-in-Ok-None
returns-in-Ok-None g c =
    let m = c.args.memory.now in
    let there : property_at m c.loop-i.at ≡ Ok None = search rules in
    written_all g.P.LineWriter.wrote behind_comma m c.args.writer.now _ _ (c.args.most - c.loop-i._i)
    (c.args.most - (c.loop-i._i + 1)) c.loop-i.at (omega arith) there c.loop-i.invariant

pub returns-in-Err : goal.returns-in-Err
returns-in-Err g c =
    let m = c.args.memory.now in
    let there : property_at m c.loop-i.at ≡ Err c.in-Err.field-0 = search rules in
    absurd (never_faulty g.P.LineWriter.wrote behind_comma m c.args.writer.now _ _ (c.args.most - c.loop-i._i)
    (c.args.most - (c.loop-i._i + 1)) c.loop-i.at c.in-Err.field-0 (omega arith) there c.loop-i.invariant)

pub returns : goal.returns
returns g c =
    absurd (never_without_end g.P.LineWriter.wrote behind_comma c.args.memory.now c.args.writer.now _ _
    (c.args.most - c.loop-i._i) c.loop-i.at (omega arith) c.loop-i.invariant)
