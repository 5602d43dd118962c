-- Rectangles of ZSCII codes in memory (Standard, section 15, `print_table`).
use Rattle.std.specs.Prelude.{ℕ, zero, suc, ◌+◌, ◌*◌, List, [], ◌∷◌, ◌++◌, map, Result, Ok}
use Rattle.zk_mem.specs.declared.fault.Fault.{Fault}
use Rattle.zk_mem.specs.Map.{MemoryMap}
use Rattle.zk_mem.specs.Results.{◌>>=◌}
use Rattle.zk_text.specs.declared.unit.Unit as text
use Rattle.zk_text.specs.declared.unit.Unit.TheVariants.{Code}
use Rattle.zk_tables.specs.declared.arrays.rectangle.Rectangle.{Rectangle}
use Rattle.zk_tables.specs.Runs.{places, bytes_read}

-- the codes of a row; the skipped bytes stand between two rows
unfoldable pub row_at : MemoryMap → Rectangle → ℕ → Result (List ℕ) Fault
row_at m r row = bytes_read m (places (r.text + row * (r.width + r.skip)) r.width)

-- the codes of so many rows, from a row on
unfoldable pub rows_from : MemoryMap → Rectangle → ℕ → ℕ → Result (List (List ℕ)) Fault
rows_from m r row zero = Ok []
rows_from m r row (suc n) = row_at m r row >>= λ codes. rows_from m r (row + 1) n >>= λ rows. Ok (codes ∷ rows)

-- the codes of a rectangle, row by row, where all can be read
unfoldable pub rows_of : MemoryMap → Rectangle → Result (List (List ℕ)) Fault
rows_of m r = rows_from m r 0 r.height

-- the units of a row
abbrev pub row_units : List ℕ → List text.Unit
row_units codes = map (λ (c : ℕ). Code c) codes

-- further rows, with a new line before each
unfoldable pub more_rows : List (List ℕ) → List text.Unit
more_rows [] = []
more_rows (codes ∷ rows) = Code 13 ∷ row_units codes ++ more_rows rows

-- rows, with a new line between two
unfoldable pub joined_rows : List (List ℕ) → List text.Unit
joined_rows [] = []
joined_rows (codes ∷ rows) = row_units codes ++ more_rows rows
