use Rattle.std.proofs.Common.{◌≡◌, ◌+◌, [], arith}
use Rattle.zk_step.proofs.Viewing.{on_screen-append, rows_more, row_line}
use Rattle.zk_step.specs.View.{rows_shown}
use Rattle.zk_step.proofs.output.view.show_rows.Goals as goal

pub loop-row-preserved : goal.loop-row-preserved
loop-row-preserved g c =
    let next : 1 + c.loop-row.row ≡ c.loop-row.row + 1 = omega arith in
    rw (
      rows_more c.args.windows.now c.loop-row.row 1,
      next,
      on_screen-append (rows_shown c.args.windows.now 1 c.loop-row.row)
          (row_line c.args.windows.now (c.loop-row.row + 1)),
    ) (g.met.S.Screen.twice _ _ _ _ _ c.loop-row.invariant c.show_row.ensures)
