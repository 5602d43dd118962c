use Rattle.std.proofs.Common.{◌≡◌, ◌∙◌, ◌+◌, ◌-◌, ◌≤◌, arith, ap, sym, take, drop, map, List}
use Rattle.zk_term.specs.declared.windows.Cell.{Cell}
use Rattle.zk_term.specs.Grid.{is_blank}
use Rattle.zk_term.specs.Places.{cells_of}
use Rattle.zk_term.specs.Windows.{character_of, is_space, whole_row, without_last}
use Rattle.zk_term.proofs.Rows.{row_items, no_row_text, no_row_cells, none_left}
use Rattle.zk_term.proofs.windows.row_of.Goals as goal

pub returns-then-height-row-clause-text : goal.returns-then-height-row-clause-text
returns-then-height-row-clause-text c =
    none_left is_space ∙ sym (no_row_text c.args.cells.now c.args.height c.args.row c.requires.blank
    c.if-height-row.true)

pub returns-then-height-row-clause-cells : goal.returns-then-height-row-clause-cells
returns-then-height-row-clause-cells c =
    none_left is_blank ∙ sym (no_row_cells c.args.cells.now c.args.height c.args.row c.requires.blank
    c.if-height-row.true)

pub returns-clause-text : goal.returns-clause-text
returns-clause-text c =
    let items = c.args.cells.now in
    let start = c.place-start.result in
    let to : c.args.row ≤ 255 = omega arith in
    let width : start + 255 - start ≡ 255 = omega arith in
    let slice : take (start + 255 - start) (drop start items) ≡ whole_row (cells_of items) c.args.row =
    rw width (row_items items c.args.row start (omega (arith, c.requires.shown)) c.requires.row to
    c.place-start.ensures) in
    ap (λ (l : List Cell). without_last is_space (map character_of l)) slice

pub returns-clause-cells : goal.returns-clause-cells
returns-clause-cells c =
    let items = c.args.cells.now in
    let start = c.place-start.result in
    let to : c.args.row ≤ 255 = omega arith in
    let width : start + 255 - start ≡ 255 = omega arith in
    let slice : take (start + 255 - start) (drop start items) ≡ whole_row (cells_of items) c.args.row =
    rw width (row_items items c.args.row start (omega (arith, c.requires.shown)) c.requires.row to
    c.place-start.ensures) in
    ap (without_last is_blank) slice
