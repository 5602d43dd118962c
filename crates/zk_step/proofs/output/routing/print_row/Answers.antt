use Rattle.zk_tables.proofs.Rows.{row_readable}
use Rattle.zk_tables.proofs.Units.{was_ok}
use Rattle.zk_step.proofs.output.routing.print_row.Goals as goal

pub unreachable-requires : goal.unreachable-requires
unreachable-requires c =
    let row = was_ok _ (row_readable c.args.memory.now c.args.rectangle c.args.row c.requires.stands
    c.requires.within) in
    c.in-Err.ensures.err row.0 row.1
