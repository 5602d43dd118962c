use Rattle.std.proofs.Common.{◌≡◌, ◌∙◌, ◌<◌, ◌+◌, [], length, get_or, arith, ap}
use Rattle.zk_text.specs.Extra.{own_characters}
use Rattle.zk_text.specs.Shown.{shown_all}
use Rattle.zk_tables.specs.Rectangles.{rows_of, row_units}
use Rattle.zk_tables.proofs.Rows.{rows_length, row_is}
use Rattle.zk_step.specs.Halves.{rest_rows, upper_rows}
use Rattle.zk_step.specs.Routing.{printed_if}
use Rattle.zk_step.proofs.HalfRows.{upper_first, upper_next}
use Rattle.zk_step.proofs.UpperRows.{ready_rows}
use Rattle.zk_step.proofs.output.parts.print_some_rows.Goals as goal
use Rattle.zk_step.proofs.output.parts.print_some_rows.Goals.{then-row-gt0, else-row-gt0}

pub loop-i-preserved : goal.loop-i-preserved
loop-i-preserved c =
    let m = c.args.memory.now in
    let r = ready_rows (rows_of m c.args.rectangle) c.requires.stands in
    let row = c.loop-i.row in
    let t = own_characters m in
    let size = rows_length m c.args.rectangle r.0 r.1 in
    let below : row < length r.0 = omega (arith, size, c.if-row-rectangle.false) in
    let here = c.print_row_if.ensures (get_or r.0 row [])
    (row_is m c.args.rectangle row r.0 r.1 (omega (arith, c.if-row-rectangle.false))) in
    let step : upper_rows c.args.on t c.args.column (row + 1) (rest_rows m c.args.rectangle (row + 1))
    c.print_row_if.new.windows ≡ upper_rows c.args.on t c.args.column row (rest_rows m c.args.rectangle row)
    c.loop-i.windows =
    elim c.if-row-gt0.branch [
      | then-row-gt0 w ↦ rw r.2 (upper_next c.args.on t c.args.column row r.0 c.loop-i.windows
          c.print_row_if.new.windows (omega (arith, w.if-row-gt0.true)) below
          (here ∙ ap (printed_if c.args.on (shown_all t (row_units (get_or r.0 row []))))
          (w.windows-is ∙ w.start_row.ensures)))
      | else-row-gt0 w ↦
          let zero : row ≡ 0 = omega (arith, w.if-row-gt0.false) in
          let first = rw zero at (here ∙ ap (printed_if c.args.on (shown_all t (row_units (get_or r.0 row []))))
          w.windows-is) in
          rw (r.2, zero) (upper_first c.args.on t c.args.column r.0 c.loop-i.windows c.print_row_if.new.windows
          (omega (arith, below)) first)
    ] in
    record {
      value = step ∙ c.loop-i.invariant.value;
      within = omega (arith, c.if-row-rectangle.false);
      passed = omega (arith, c.loop-i.invariant.passed);
    }
