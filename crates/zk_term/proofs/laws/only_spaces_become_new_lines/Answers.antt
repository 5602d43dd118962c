use Rattle.zk_term.proofs.guards.WrappedLines.{only_spaces_become_new_lines}
use Rattle.zk_term.proofs.laws.only_spaces_become_new_lines.Goals as goal

pub returns : goal.returns
returns c = only_spaces_become_new_lines
