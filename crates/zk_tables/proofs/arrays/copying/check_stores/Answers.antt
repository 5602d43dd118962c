use Rattle.std.proofs.Common.{◌≡◌, arith, sym, ap, ◌∙◌}
use Rattle.zk_tables.proofs.Puts.{stores_read_only, stores_past}
use Rattle.zk_tables.proofs.arrays.copying.check_stores.Goals as goal

pub returns-then-refused-end-clause-err : goal.returns-then-refused-end-clause-err
returns-then-refused-end-clause-err c = λ bytes size.
    let base : c.args.memory.now.static_base ≡ c.header.result.static_base = c.is_of_file.ensures.static_base
    ∙ ap (λ h. h.static_base) (sym c.header.ensures) in
    stores_read_only c.args.memory.now c.args.table c.args.size bytes (omega arith) (omega arith) (omega arith)
    (omega arith) (omega arith) (omega arith) size

pub returns-else-refused-end-clause-err : goal.returns-else-refused-end-clause-err
returns-else-refused-end-clause-err c = λ bytes size.
    let base : c.args.memory.now.static_base ≡ c.header.result.static_base = c.is_of_file.ensures.static_base
    ∙ ap (λ h. h.static_base) (sym c.header.ensures) in
    stores_past c.args.memory.now c.args.table c.args.size bytes (omega arith) (omega arith) (omega arith)
    (omega arith) (λ below. omega arith) size
