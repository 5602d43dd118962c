use Rattle.std.proofs.Common.{◌≡◌, ◌++◌, take}
use Rattle.std.specs.List.{flat_map}
use Rattle.zk_snapshot.specs.Snapshots.{table_bytes}
use Rattle.zk_snapshot.proofs.writing.put_tables.Given as goal

abbrev pub invariant-loop-table : goal.invariant-loop-table
invariant-loop-table l = l.out.items ≡ l.fn.out.items ++ flat_map table_bytes (take l.table-index l.tables)
