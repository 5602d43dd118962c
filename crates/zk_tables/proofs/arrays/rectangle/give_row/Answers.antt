use Rattle.std.proofs.lemmas.Result.{on_err_weaker}
use Rattle.std.proofs.lemmas.List.{append-nil}
use Rattle.std.proofs.Common.{[]}
use Rattle.zk_tables.specs.Rectangles.{row_at}
use Rattle.zk_tables.proofs.Rows.{row_bytes, row_places, row_readable}
use Rattle.zk_tables.proofs.arrays.rectangle.give_row.Goals as goal

pub give_bytes-requires : goal.give_bytes-requires
unfolding row_at
give_bytes-requires g c =
    row_bytes c.args.memory.now c.row_address.result _ c.args.rectangle.width c.row_address.ensures
    (row_readable c.args.memory.now c.args.rectangle c.args.row c.requires.stands c.requires.within)

pub returns-clause-err : goal.returns-clause-err
unfolding row_at
returns-clause-err g c =
    on_err_weaker c.give_bytes.result (λ refuses codes h.
    let all = refuses codes []
    (rw (row_places c.row_address.result _ c.args.rectangle.width c.row_address.ensures) h) in
    rw append-nil at all) c.give_bytes.ensures.err
