use Rattle.std.proofs.Common.{◌≡◌, arith, false}
use Rattle.std.proofs.lemmas.Bool.Decides.{nat_tests}
use Rattle.zk_term.specs.Lines.{is_new_line}
use Rattle.zk_term.proofs.Wraps.{line_ends, line_goes_on}
use Rattle.zk_term.proofs.open_line.Line.take.Goals as goal

pub returns-then-byte-eq10-clause-taken : goal.returns-then-byte-eq10-clause-taken
returns-then-byte-eq10-clause-taken g c =
    rw c.if-byte-eq10.true (line_ends g.P.LineWriter.wrote _ _ _ _ c.take_new_line.ensures)

pub returns-else-byte-eq10-clause-taken : goal.returns-else-byte-eq10-clause-taken
returns-else-byte-eq10-clause-taken g c =
    let other : is_new_line c.args.byte ≡ false = grind (arith, nat_tests) in
    line_goes_on g.P.LineWriter.wrote _ _ _ _ c.args.byte other c.take_in_line.ensures.taken
