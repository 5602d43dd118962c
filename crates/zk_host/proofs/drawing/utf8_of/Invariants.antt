use Rattle.std.specs.Prelude.{encode_utf8_all}
use Rattle.std.proofs.Common.{◌≡◌, ◌≤◌, ◌*◌, length, map, take}
use Rattle.zk_term.specs.Windows.{character_of}
use Rattle.zk_host.proofs.drawing.utf8_of.Given as goal

abbrev pub invariant-loop-cell : goal.invariant-loop-cell
invariant-loop-cell l = record {
  bytes : l.bytes.items ≡ encode_utf8_all (take l.cell-index (map character_of l.cells));
  few : length l.bytes.items ≤ 4 * l.cell-index;
}
