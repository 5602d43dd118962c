use Rattle.std.specs.List.{find}
use Rattle.std.proofs.Common.{◌≡◌}
use Rattle.zk_blorb.specs.Blorb.{is_executable, rows_of}
use Rattle.zk_blorb.proofs.Rows.{first_from}
use Rattle.zk_blorb.proofs.index.executable_in.Given as goal

abbrev pub invariant-loop-k : goal.invariant-loop-k
invariant-loop-k l = first_from l.rows l.k-end l.k ≡ find is_executable (rows_of l.rows)
