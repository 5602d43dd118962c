use Rattle.std.proofs.Common.{◌∙◌, sym}
use Rattle.std.proofs.lemmas.Result.{err_from_is_err_and}
use Rattle.zk_tables.proofs.Passes.{cleared_fault}
use Rattle.zk_tables.proofs.arrays.copying.clear.Goals as goal

pub returns-in_err-set_byte : goal.returns-in_err-set_byte
returns-in_err-set_byte c =
    let p = err_from_is_err_and c.from_residual.result c.from_residual.ensures.1 in
    rw (p.1, p.2) (sym c.loop-i.invariant.so_far ∙ cleared_fault c.loop-i.memory c.args.table c.loop-i.i
    c.args.size _ c.loop-i-test.true (rw c.place.ensures at c.in_err-set_byte.ensures.0))
