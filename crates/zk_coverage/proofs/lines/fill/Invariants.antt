use Rattle.std.proofs.Common.{◌≡◌, ◌≤◌, ℕ, length, max}
use Rattle.zk_coverage.specs.Lines.{state_at}
use Rattle.zk_coverage.proofs.lines.fill.Given as goal

abbrev pub invariant-loop : goal.invariant-loop
invariant-loop l = record {
  top : l.counter ≤ max (length l.fn.states.items) l.count;
  bound : length l.states.items ≤ max (length l.fn.states.items) l.counter;
  long : l.counter ≤ length l.states.items;
  same : (k : ℕ) → state_at l.states.items k ≡ state_at l.fn.states.items k;
}
