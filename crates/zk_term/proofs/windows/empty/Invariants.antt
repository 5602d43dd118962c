use Rattle.std.proofs.Common.{◌≡◌, ◌≤◌, ◌&&◌, ℕ, if◌then◌else◌, length, nat_le, nat_lt, slice_index_or, vec_capacity}
use Rattle.zk_term.specs.Grid.{blank}
use Rattle.zk_term.proofs.windows.empty.Given as goal

abbrev pub invariant-loop-k : goal.invariant-loop-k
invariant-loop-k l = record {
  len : length l.cells.items ≡ length l.fn.cells.items;
  room : vec_capacity l.cells ≡ vec_capacity l.fn.cells;
  none : l.end ≤ l.from → l.k ≡ l.from;
  value : (j : ℕ) → slice_index_or l.cells.items j blank ≡ (if nat_le l.from j && nat_lt j l.k then blank
      else slice_index_or l.fn.cells.items j blank);
}
