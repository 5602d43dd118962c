use Rattle.zk_term.proofs.guards.WrappedLines.{lines_are_full, lines_are_within, lines_are_wrapped_one_by_one}
use Rattle.zk_term.proofs.guards.WrappedLines.{rows_stay}
use Rattle.zk_term.proofs.laws.lines_are_wrapped.Goals as goal

pub returns : goal.returns
returns c =
    record { each = lines_are_wrapped_one_by_one; rows = rows_stay; within = lines_are_within; full = lines_are_full }
