use Rattle.std.proofs.Common.{◌≡◌, ◌∙◌, ◌<◌, [], length, get_or, arith, sym, rules, ap}
use Rattle.zk_text.specs.Extra.{own_characters}
use Rattle.zk_text.specs.Shown.{shown_all}
use Rattle.zk_tables.specs.Rectangles.{rows_of, row_units}
use Rattle.zk_tables.proofs.Rows.{rows_length, row_is}
use Rattle.zk_step.specs.Routing.{printed_if}
use Rattle.zk_step.proofs.UpperRows.{row_on, rows_end, rows_begin, no_rows, ready_rows}
use Rattle.zk_step.proofs.output.routing.print_rows.Goals as goal

pub returns-then-rectangle-eq0 : goal.returns-then-rectangle-eq0
returns-then-rectangle-eq0 c =
    let r = ready_rows (rows_of c.args.memory.now c.args.rectangle) c.requires in
    let long = rows_length c.args.memory.now c.args.rectangle r.0 r.1 in
    let none : c.args.rectangle.height ≡ 0 = search rules in
    rw r.2 (no_rows c.args.on (own_characters c.args.memory.now) r.0 c.args.windows.now (long ∙ none))

pub loop-row-init : goal.loop-row-init
loop-row-init c =
    record {
      from = omega arith;
      so_far = λ rows h.
          let long = rows_length c.args.memory.now c.args.rectangle rows h in
          let some : 0 < c.args.rectangle.height = search rules in
          rw c.cursor-column.ensures.column (rows_begin c.args.on (own_characters c.args.memory.now) rows
          c.args.windows.now c.print_row_if.new.windows (omega (arith, long, some))
          (c.print_row_if.ensures (get_or rows 0 []) (row_is c.args.memory.now c.args.rectangle 0 rows h some)));
    }

pub loop-row-preserved : goal.loop-row-preserved
loop-row-preserved c =
    let row = c.loop-row.row in
    let t = own_characters c.args.memory.now in
    record {
      from = omega arith;
      so_far = λ rows h.
          let long = rows_length c.args.memory.now c.args.rectangle rows h in
          let below : row < length rows = omega (arith, long, c.loop-row-test.true) in
          let is = c.print_row_if-in-loop-row.ensures (get_or rows row [])
          (row_is c.args.memory.now c.args.rectangle row rows h c.loop-row-test.true)
          ∙ ap (printed_if c.args.on (shown_all t (row_units (get_or rows row [])))) c.start_row.ensures in
          sym (row_on c.args.on t c.cursor-column.result.1 row rows c.loop-row.windows
          c.print_row_if-in-loop-row.new.windows below is) ∙ c.loop-row.invariant.so_far rows h;
    }

pub returns : goal.returns
returns c =
    let r = ready_rows (rows_of c.args.memory.now c.args.rectangle) c.requires in
    let long = rows_length c.args.memory.now c.args.rectangle r.0 r.1 in
    rw r.2 (sym (rows_end c.args.on (own_characters c.args.memory.now) c.cursor-column.result.1 c.loop-row.row r.0
    c.loop-row.windows (omega (arith, long, c.loop-row-test.false))) ∙ c.loop-row.invariant.so_far r.0 r.1)
