use Rattle.std.proofs.Common.{◌≡◌, ◌∙◌, ◌-◌, ◌+◌, ◌*◌, true, false, take, drop, sym, arith, rules}
use Rattle.zk_blorb.specs.Blorb.{is_executable}
use Rattle.zk_blorb.proofs.Rows.{found_here, found_on, starts_here, starts_nowhere}
use Rattle.zk_blorb.proofs.index.executable_in.Goals as goal

pub returns-then-starts_with-clause-value : goal.returns-then-starts_with-clause-value
returns-then-starts_with-clause-value c =
    let k = c.loop-k.k in
    let rows = c.args.rows.now in
    let executable : is_executable (take (12 * k + 12 - 12 * k) (drop (12 * k) rows)) ≡ true = search rules in
    starts_here rows _ c.number.result (sym c.loop-k.invariant ∙ found_here rows _ k _ c.loop-k-test.true
    (omega arith) executable) c.number.ensures.value

pub loop-k-preserved : goal.loop-k-preserved
loop-k-preserved c =
    let k = c.loop-k.k in
    let rows = c.args.rows.now in
    let other : is_executable (take (12 * k + 12 - 12 * k) (drop (12 * k) rows)) ≡ false = search rules in
    sym (found_on rows _ k _ c.loop-k-test.true (omega arith) other) ∙ c.loop-k.invariant

pub returns-clause-value : goal.returns-clause-value
returns-clause-value c = starts_nowhere c.args.rows.now _ c.loop-k.k c.loop-k-test.false c.loop-k.invariant
