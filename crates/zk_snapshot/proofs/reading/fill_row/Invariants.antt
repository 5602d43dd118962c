use Rattle.zk_snapshot.specs.Opening.{NothingGone}
use Rattle.zk_snapshot.proofs.reading.fill_row.Given as goal

abbrev pub invariant-loop-i : goal.invariant-loop-i
invariant-loop-i l = NothingGone l.fn.windows → NothingGone l.windows
