use Rattle.zk_term.proofs.guards.KeptCursors.{spaces_at_the_end_go, cleared_rows_have_no_text}
use Rattle.zk_term.proofs.laws.rows_have_texts.Goals as goal

pub returns : goal.returns
returns c = record { spaces = spaces_at_the_end_go; cleared = cleared_rows_have_no_text }
