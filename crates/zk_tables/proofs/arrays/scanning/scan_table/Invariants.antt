use Rattle.std.proofs.Common.{◌≡◌, ◌-◌}
use Rattle.zk_tables.specs.Scanning.{scanned}
use Rattle.zk_tables.proofs.arrays.scanning.scan_table.Given as goal

abbrev pub invariant-loop-i : goal.invariant-loop-i
invariant-loop-i l = record {
  so_far : scanned l.memory l.value l.address l.form (l.length - l._i) ≡ scanned l.memory l.value l.table
      l.form l.length;
}
