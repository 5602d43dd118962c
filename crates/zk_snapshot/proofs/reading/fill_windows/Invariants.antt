use Rattle.zk_snapshot.specs.Opening.{NothingGone}
use Rattle.zk_snapshot.proofs.reading.fill_windows.Given as goal

abbrev pub invariant-loop-number : goal.invariant-loop-number
invariant-loop-number l = NothingGone l.windows
