use Rattle.std.specs.Prelude.{⊤}
use Rattle.zk_term.specs.Grid.{on_grid, no_cells, emptied, cell_put}
use Rattle.zk_term.specs.Windows.{first_windows, split, window_selected, cursor_set, printed, character_printed}
use Rattle.zk_term.specs.Windows.{next_row, row_text, columns_from, without_last, cleared, unsplit, line_erased}
use Rattle.zk_term.specs.Windows.{forgotten, tallest_height, tallest_row_text, row_cells, tallest_row_cells}

-- the definitions that are opened in examples
unfoldable pub examples : ⊤
unfolding on_grid no_cells emptied cell_put first_windows split window_selected cursor_set printed
    character_printed next_row row_text columns_from without_last cleared unsplit line_erased forgotten
    tallest_height tallest_row_text row_cells tallest_row_cells
examples = tt
