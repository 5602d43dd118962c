use Rattle.std.proofs.Common.{sym, arith}
use Rattle.zk_tables.proofs.ListEnds.{ends_early, ends_short, ends_long}
use Rattle.zk_tables.proofs.lists.end_of.Goals as goal

pub returns-then-version-lt4 : goal.returns-then-version-lt4
returns-then-version-lt4 c = ends_early c.args.memory.now c.args.address c.args.first _ c.requires.more
    (let lt = c.if-version-lt4.true in let v = c.requires.version in omega arith) (omega arith)

pub returns-then-first-lt128 : goal.returns-then-first-lt128
returns-then-first-lt128 c = ends_short c.args.memory.now c.args.address c.args.first _ c.requires.more
    (let ge = c.if-version-lt4.false in let v = c.requires.version in omega arith) c.if-first-lt128.true (omega arith)

pub returns : goal.returns
returns c = ends_long c.args.memory.now c.args.address c.args.first c.in_ok-second.second _ c.requires.more
    (let ge = c.if-version-lt4.false in let v = c.requires.version in omega arith) c.if-first-lt128.false
    (sym c.in_ok-second.ensures.value) (let l = c.length_in.ensures.value in omega arith)
