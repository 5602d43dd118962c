use Rattle.std.proofs.Common.{◌≡◌, ◌+◌, ◌-◌, length}
use Rattle.zk_state.proofs.Unwinding.{without_newest}
use Rattle.zk_state.proofs.frames.Frames.unwind.Given as goal

abbrev pub invariant-loop-i : goal.invariant-loop-i
invariant-loop-i l = record {
  same : without_newest (l.depth - l._i) l.self ≡ without_newest (l.depth - l.number) l.fn.self;
  long : length l.self.callers ≡ l.number + (l.depth - l._i);
}
