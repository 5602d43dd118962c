use Rattle.std.proofs.Common.{◌≡◌, None}
use Rattle.zk_term.proofs.Taking.{Taken, TakesKept}
use Rattle.zk_term.proofs.lines.Lines.take_line.Given as goal

abbrev pub invariant-loop-taken : goal.invariant-loop-taken
invariant-loop-taken g l = record {
  taken : Taken l.fn.self (g.S.Source.left l.fn.source) l.self (g.S.Source.left l.source) l.taken l.line.items;
  kept : TakesKept g.S.Source.gives l.fn.source l.source l.fn.self.ahead l.self.ahead l.taken l.line.items;
  over : l.self.over ≡ None;
  sound : g.S.Source.failed l.source ≡ g.S.Source.failed l.fn.source;
}
