use Rattle.std.specs.Bool.{⊤}
use Rattle.zk_page.proofs.page.split_at_piece.Given as goal

abbrev pub invariant-loop-at : goal.invariant-loop-at
invariant-loop-at l = ⊤
