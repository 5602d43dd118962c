use Rattle.std.proofs.Common.{sym}
use Rattle.std.proofs.lemmas.Result.{err_from_is_err_and}
use Rattle.zk_step.proofs.Keys.{seen_faults, seen_all}
use Rattle.zk_step.proofs.opcodes.words.read_letters.Goals as goal

pub returns-in_err-code : goal.returns-in_err-code
returns-in_err-code c =
    let p = err_from_is_err_and c.from_residual.result c.from_residual.ensures.1 in
    rw (p.1, p.2) (seen_faults c.args.memory.now c.args.address c.args.count c.loop-i.i c.loop-i.letters.items _
    c.loop-i-test.true (sym c.in_err-code.ensures) c.loop-i.invariant.so_far)

pub returns : goal.returns
returns c = seen_all c.args.memory.now c.args.address c.args.count c.loop-i.i c.loop-i.letters.items
    c.loop-i-test.false c.loop-i.invariant.so_far
