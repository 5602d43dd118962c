use Rattle.std.proofs.Common.{◌∙◌, sym}
use Rattle.std.proofs.lemmas.Result.{err_from_is_err_and}
use Rattle.zk_tables.proofs.Storing.{blocks_fault}
use Rattle.zk_tables.proofs.parsing.put_blocks.Goals as goal

pub returns-in_err-put_block-clause-value : goal.returns-in_err-put_block-clause-value
returns-in_err-put_block-clause-value c =
    let p = err_from_is_err_and c.from_residual.result c.from_residual.ensures.1 in
    rw (p.1, p.2) (sym c.loop-i.invariant.so_far ∙ blocks_fault c.loop-i.memory c.args.address c.loop-i.i
    c.args.leaves_unknown c.args.words.now _ _ c.loop-i-test.true c.in_err-put_block.ensures.value)
