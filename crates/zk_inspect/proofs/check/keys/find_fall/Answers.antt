use Rattle.std.proofs.Common.{◌+◌, ◌<◌, arith}
use Rattle.zk_inspect.proofs.Falling.{fall_here, fall_more}
use Rattle.zk_inspect.proofs.check.keys.find_fall.Goals as goal

pub returns-then-not-is_key_above : goal.returns-then-not-is_key_above
returns-then-not-is_key_above c =
    let lt : c.loop-index.index + 1 < c.args.dictionary.entries = omega (
      arith,
      c.loop-index-test.true,
      c.saturating_sub-index-end.ensures,
    ) in (
      fall_here c.args.memory.now c.args.dictionary c.loop-index.index c.is_key_above.result c.requires lt
          c.is_key_above.ensures c.if-not-is_key_above.true,
      c.loop-index.invariant,
    )

pub loop-index-preserved : goal.loop-index-preserved
loop-index-preserved c =
    let lt : c.loop-index.index + 1 < c.args.dictionary.entries = omega (
      arith,
      c.loop-index-test.true,
      c.saturating_sub-index-end.ensures,
    ) in
    fall_more c.args.memory.now c.args.dictionary c.loop-index.index c.is_key_above.result c.requires lt
    c.is_key_above.ensures c.if-not-is_key_above.false c.loop-index.invariant

pub returns : goal.returns
returns c i f =
    c.loop-index.invariant i (let lt = f.0 in
    omega (arith, c.loop-index-test.false, c.saturating_sub-index-end.ensures)) f
