-- The lines of a source file, from 1.
use Rattle.std.specs.Prelude.{ℕ, zero, suc, List, Option, None, slice_get}

abbrev pub line_at : {L : Type 0} → List L → ℕ → Option L
line_at {L} lines zero = None
line_at {L} lines (suc n) = slice_get lines n
