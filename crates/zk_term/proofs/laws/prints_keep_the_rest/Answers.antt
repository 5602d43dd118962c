use Rattle.zk_term.proofs.guards.PrintedRows.{prints_keep_the_split, prints_keep_the_rows_below}
use Rattle.zk_term.proofs.guards.PrintedRows.{prints_follow_one_another}
use Rattle.zk_term.proofs.laws.prints_keep_the_rest.Goals as goal

pub returns : goal.returns
returns c =
    record { split = prints_keep_the_split; rows = prints_keep_the_rows_below; together = prints_follow_one_another }
