use Rattle.std.proofs.Common.{◌≡◌, ◌++◌}
use Rattle.zk_snapshot.specs.Snapshots.{rows_bytes}
use Rattle.zk_snapshot.proofs.writing.put_rows.Given as goal

abbrev pub invariant-loop-number : goal.invariant-loop-number
invariant-loop-number l = l.out.items ≡ l.fn.out.items ++ rows_bytes l.number l.windows
