use Rattle.std.proofs.Common.{◌∙◌, sym, ap, arith, Ok, ◌≡◌}
use Rattle.std.proofs.lemmas.Result.{err_from_is_err_and}
use Rattle.zk_tables.specs.Scanning.{field_at}
use Rattle.zk_tables.proofs.Scans.{scan_found, scan_end, scan_fault}
use Rattle.zk_tables.proofs.arrays.scanning.scan_table.Goals as goal

pub returns-in_err-field : goal.returns-in_err-field
returns-in_err-field c =
    let p = err_from_is_err_and c.from_residual.result c.from_residual.ensures.1 in
    rw (p.1, p.2) (sym (scan_fault c.args.memory.now c.args.value c.loop-i.address c.args.form c.loop-i._i
    c.args.length c.in_err-field.field-0.0 (omega arith) c.loop-i-test.true (sym c.in_err-field.ensures))
    ∙ c.loop-i.invariant.so_far)

pub returns-then-branch-value : goal.returns-then-branch-value
returns-then-branch-value c =
    let here : field_at c.args.memory.now c.args.form c.loop-i.address ≡ Ok
    c.args.value = sym c.in_ok-field.ensures ∙ ap Ok c.if-branch-value.true in
    sym (scan_found c.args.memory.now c.args.value c.loop-i.address c.args.form c.loop-i._i c.args.length
    (omega arith) c.loop-i-test.true here) ∙ c.loop-i.invariant.so_far

pub returns : goal.returns
returns c =
    sym (scan_end c.args.memory.now c.args.value c.loop-i.address c.args.form c.loop-i._i c.args.length
    c.loop-i-test.false) ∙ c.loop-i.invariant.so_far
