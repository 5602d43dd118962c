use Rattle.std.proofs.Common.{◌≡◌, ◌-◌, IsOk, Err}
use Rattle.zk_mem.specs.declared.fault.Fault.{Fault}
use Rattle.zk_tables.specs.Rectangles.{rows_from, rows_of}
use Rattle.zk_tables.proofs.arrays.rectangle.check_rectangle.Given as goal

abbrev pub invariant-loop-row : goal.invariant-loop-row
invariant-loop-row l = record {
  readable : IsOk (rows_from l.memory l.rectangle l.row (l.rectangle.height - l.row))
      → IsOk (rows_of l.memory l.rectangle);
  fault : (f : Fault) → rows_from l.memory l.rectangle l.row (l.rectangle.height - l.row) ≡ Err f
      → rows_of l.memory l.rectangle ≡ Err f;
}
