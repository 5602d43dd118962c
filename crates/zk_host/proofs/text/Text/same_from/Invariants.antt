use Rattle.std.proofs.Common.{◌≡◌, ◌≤◌, ◌+◌, ◌-◌, drop, length}
use Rattle.zk_host.specs.Marks.{so_marked}
use Rattle.zk_host.proofs.text.Text.same_from.Given as goal

abbrev pub invariant-loop-count : goal.invariant-loop-count
invariant-loop-count l = record {
  within : l.from + l.count ≤ length l.self.bytes;
  same : so_marked l.byte (drop l.from l.self.bytes) ≡ l.count + so_marked l.byte
      (drop (l.from + l.count) l.self.bytes);
}

abbrev pub decreases-loop-count : goal.decreases-loop-count
decreases-loop-count l = length l.self.bytes - (l.from + l.count)
