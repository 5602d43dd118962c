use Rattle.std.proofs.Common.{◌≡◌, drop}
use Rattle.zk_host.proofs.text.Text.pass.Given as goal

abbrev pub invariant-loop-i : goal.invariant-loop-i
invariant-loop-i l = record {
  items : l.self-inside.bytes.items ≡ drop l._i l.fn.self.bytes;
  failed : l.self-inside.failed ≡ l.fn.self.failed;
}
