use Rattle.std.proofs.Common.{Ok, sym, ap, ◌∙◌}
use Rattle.zk_tables.proofs.Moves.{moved_forwards}
use Rattle.zk_tables.proofs.arrays.copying.copy_in_order.Goals as goal

pub returns-then-lie_inside : goal.returns-then-lie_inside
returns-then-lie_inside c =
    let inside = c.if-lie_inside.true in
    moved_forwards c.args.memory.now c.args.first c.args.second c.args.size
    (c.reads_before_stores.ensures c.if-reads_before_stores.true) (c.lie_inside.ensures.readable inside)
    (c.lie_inside.ensures.writable inside) ∙ ap Ok (sym c.move_bytes.ensures)
