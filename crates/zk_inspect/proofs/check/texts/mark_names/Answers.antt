use Rattle.std.proofs.Common.{◌≡◌, subst, arith}
use Rattle.zk_inspect.specs.TextTests.{NamesMarked}
use Rattle.zk_inspect.proofs.TextMarks.{names_begin}
use Rattle.zk_inspect.proofs.check.texts.mark_names.Goals as goal

pub loop-before-init : goal.loop-before-init
loop-before-init c = record { marks = c.requires.marks; names = names_begin c.args.memory.now c.args.marks.now }

pub loop-before-preserved : goal.loop-before-preserved
loop-before-preserved c = record { marks = c.mark_name.ensures.marks; names = c.mark_name.ensures.names }

pub returns-clause-names : goal.returns-clause-names
returns-clause-names c =
    let a = c.loop-before-test.false in
    let b = c.loop-before.auto.before-end in
    let e : c.loop-before.before ≡ c.args.count = omega arith in
    subst (λ n. NamesMarked c.args.memory.now n c.loop-before.marks) e c.loop-before.invariant.names
