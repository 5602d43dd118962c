use Rattle.std.proofs.Common.{◌∙◌, sym}
use Rattle.std.proofs.lemmas.Result.{err_from_is_err_and}
use Rattle.zk_tables.proofs.Passes.{forwards_fault}
use Rattle.zk_tables.proofs.arrays.copying.copy_forwards.Goals as goal

pub returns-in_err-copy_byte : goal.returns-in_err-copy_byte
returns-in_err-copy_byte c =
    let p = err_from_is_err_and c.from_residual.result c.from_residual.ensures.1 in
    rw (p.1, p.2) (sym c.loop-i.invariant.so_far ∙ forwards_fault c.loop-i.memory c.args.first c.args.second
    c.loop-i.i c.args.size _ c.loop-i-test.true c.in_err-copy_byte.ensures)
