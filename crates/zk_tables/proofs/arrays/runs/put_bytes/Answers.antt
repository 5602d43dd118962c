use Rattle.std.proofs.Common.{◌∙◌, sym}
use Rattle.std.proofs.lemmas.Result.{err_from_is_err_and}
use Rattle.zk_tables.proofs.Stored.{put_fault}
use Rattle.zk_tables.proofs.arrays.runs.put_bytes.Goals as goal

pub returns-in_err-set_byte : goal.returns-in_err-set_byte
returns-in_err-set_byte c =
    let p = err_from_is_err_and c.from_residual.result c.from_residual.ensures.1 in
    rw (p.1, p.2) (sym c.loop-i.invariant.so_far ∙ put_fault c.loop-i.memory c.args.address c.loop-i.i
    c.args.bytes.now _ c.loop-i-test.true c.in_err-set_byte.ensures.0)
