use Rattle.std.proofs.Common.{rules, arith, ◌≡◌, ◌-◌, ◌+◌, Ok, Err, Some, None, sym, subst, ℕ}
use Rattle.std.specs.List.{flat_map}
use Rattle.zk_tables.specs.PropertyList.{properties_from, property_at}
use Rattle.zk_inspect.specs.ObjectLines.{properties_or_none}
use Rattle.zk_inspect.proofs.PropertyLines.{one_property, IsWritten, begun, written_more, written_all, never_faulty}
use Rattle.zk_inspect.proofs.PropertyLines.{never_without_end, each_property}
use Rattle.zk_inspect.proofs.listing.property_lines.list_properties_from.Goals as goal

pub loop-i-init : goal.loop-i-init
loop-i-init g c = begun g.F.FactWriter.wrote (one_property c.args.object) c.args.memory.now c.args.facts.now
    c.args.most _ c.args.address (g.met.F.FactWriter.nothing c.args.facts.now) (omega arith) c.requires

pub loop-i-preserved : goal.loop-i-preserved
loop-i-preserved g c =
    let m = c.args.memory.now in
    let f = one_property c.args.object in
    let there : property_at m c.loop-i.at ≡ Ok (Some c.in-Ok-Some.property) = search rules in
    let all = flat_map f (properties_or_none (properties_from m c.args.most c.args.address)) in
    let k = c.args.most - (c.loop-i._i + 1) in
    subst (λ (a : ℕ). IsWritten g.F.FactWriter.wrote f m c.args.facts.now c.write.new.self all k a)
    (sym c.end-at.ensures)
    (written_more g.F.FactWriter.wrote g.met.F.FactWriter.twice f m c.args.facts.now _ _ all
    (c.args.most - c.loop-i._i) k c.loop-i.at c.in-Ok-Some.property (omega arith) there c.loop-i.invariant
    c.write.ensures)

pub returns-in-Ok-None : goal.returns-in-Ok-None
returns-in-Ok-None g c =
    let m = c.args.memory.now in
    let there : property_at m c.loop-i.at ≡ Ok None = search rules in
    rw (sym (each_property c.args.object (properties_or_none (properties_from m c.args.most c.args.address))))
    (written_all g.F.FactWriter.wrote (one_property c.args.object) m c.args.facts.now _ _
    (c.args.most - c.loop-i._i) (c.args.most - (c.loop-i._i + 1)) c.loop-i.at (omega arith) there
    c.loop-i.invariant)

pub returns-in-Err : goal.returns-in-Err
returns-in-Err g c =
    let m = c.args.memory.now in
    let there : property_at m c.loop-i.at ≡ Err c.in-Err.field-0 = search rules in
    absurd (never_faulty g.F.FactWriter.wrote (one_property c.args.object) m c.args.facts.now _ _
    (c.args.most - c.loop-i._i) (c.args.most - (c.loop-i._i + 1)) c.loop-i.at c.in-Err.field-0 (omega arith)
    there c.loop-i.invariant)

pub returns : goal.returns
returns g c =
    absurd (never_without_end g.F.FactWriter.wrote (one_property c.args.object) c.args.memory.now c.args.facts.now _
    _ (c.args.most - c.loop-i._i) c.loop-i.at (omega arith) c.loop-i.invariant)
