use Rattle.std.proofs.Common.{arith, Ok, sym, ap, ◌∙◌}
use Rattle.std.proofs.lemmas.Result.{err_from_is_err_and}
use Rattle.zk_tables.proofs.Moves.{moved}
use Rattle.zk_tables.proofs.Passes.{at_once_refused, at_once_can, at_once_forwards}
use Rattle.zk_tables.proofs.arrays.copying.copy_at_once.Goals as goal

pub returns-then-lie_inside : goal.returns-then-lie_inside
returns-then-lie_inside c =
    let inside = c.if-lie_inside.true in
    moved c.args.memory.now c.args.first c.args.second c.args.size (c.lie_inside.ensures.readable inside)
    (c.lie_inside.ensures.writable inside) ∙ ap Ok (sym c.move_bytes.ensures)

pub returns-in_err-check_stores : goal.returns-in_err-check_stores
returns-in_err-check_stores c =
    let p = err_from_is_err_and c.from_residual-in_err-check_stores.result
    c.from_residual-in_err-check_stores.ensures.1 in
    rw (p.1, p.2) (at_once_refused c.args.memory.now c.args.first c.args.second c.args.size _
    c.in_ok-check_bytes.ensures c.in_err-check_stores.ensures.err)

pub copy_backwards-requires-clause-can : goal.copy_backwards-requires-clause-can
copy_backwards-requires-clause-can c =
    at_once_can c.args.memory.now c.args.first c.args.second c.args.size c.in_ok-check_bytes.ensures
    c.in_ok-check_stores.ensures.ok

pub returns : goal.returns
returns c =
    at_once_forwards c.copy_forwards.result c.args.memory.now c.copy_forwards.new.memory c.args.first
    c.args.second c.args.size c.requires (omega arith) (omega arith)
    (at_once_can c.args.memory.now c.args.first c.args.second c.args.size c.in_ok-check_bytes.ensures
    c.in_ok-check_stores.ensures.ok) c.copy_forwards.ensures
