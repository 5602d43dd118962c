use Rattle.std.proofs.Common.{◌∙◌, ◌+◌, arith, ap, sym, subst}
use Rattle.zk_mem.specs.declared.header.Header.{Header}
use Rattle.zk_inspect.proofs.Entries.{Counting, count_begins, count_ends, count_full, count_meets, count_whole}
use Rattle.zk_inspect.proofs.Entries.{none_listed, one_more}
use Rattle.zk_inspect.proofs.objects.count_objects.Goals as goal

pub returns-then-header-eq0-clause-listed : goal.returns-then-header-eq0-clause-listed
returns-then-header-eq0-clause-listed c =
    none_listed c.args.memory.now (sym (ap (λ (h : Header). h.objects) c.header.ensures) ∙ c.if-header-eq0.true)

pub loop-before-init : goal.loop-before-init
loop-before-init c =
    count_begins c.args.memory.now (λ e. c.if-header-eq0.false (ap (λ (h : Header). h.objects) c.header.ensures ∙ e))

pub returns-then-entry-lowest-clause-listed : goal.returns-then-entry-lowest-clause-listed
returns-then-entry-lowest-clause-listed c =
    count_meets c.args.memory.now c.loop-before.before c.loop-before.lowest _ c.loop-before.invariant
    (sym c.in-Ok.ensures.value) c.if-entry-lowest.true

pub returns-then-entry-lowest-clause-whole : goal.returns-then-entry-lowest-clause-whole
returns-then-entry-lowest-clause-whole c =
    count_whole c.args.memory.now c.loop-before.before c.loop-before.lowest c.loop-before.invariant

pub returns-in-Err-clause-listed : goal.returns-in-Err-clause-listed
returns-in-Err-clause-listed c = count_ends c.args.memory.now c.loop-before.before c.loop-before.lowest _
    c.loop-before.invariant (sym c.in-Err.ensures.value)

pub returns-in-Err-clause-whole : goal.returns-in-Err-clause-whole
returns-in-Err-clause-whole c =
    count_whole c.args.memory.now c.loop-before.before c.loop-before.lowest c.loop-before.invariant

pub loop-before-preserved : goal.loop-before-preserved
loop-before-preserved c = subst (λ x. Counting c.args.memory.now (c.loop-before.before + 1) x)
    (sym c.lower_table-lowest.ensures) (one_more c.args.memory.now c.loop-before.before c.loop-before.lowest _
    c.loop-before.invariant (sym c.in-Ok.ensures.value) c.if-entry-lowest.false)

pub returns-clause-listed : goal.returns-clause-listed
returns-clause-listed c =
    count_full c.args.memory.now c.loop-before.lowest
    (subst (λ n. Counting c.args.memory.now n c.loop-before.lowest) (let a = c.loop-before-test.false in
    let b = c.loop-before.auto.before-end in omega arith) c.loop-before.invariant)

pub returns-clause-whole : goal.returns-clause-whole
returns-clause-whole c =
    count_whole c.args.memory.now 65535 c.loop-before.lowest
    (subst (λ n. Counting c.args.memory.now n c.loop-before.lowest) (let a = c.loop-before-test.false in
    let b = c.loop-before.auto.before-end in omega arith) c.loop-before.invariant)
