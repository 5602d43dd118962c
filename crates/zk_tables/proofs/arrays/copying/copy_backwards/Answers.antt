use Rattle.std.proofs.Common.{◌∙◌, sym, arith, IsOk}
use Rattle.zk_tables.specs.Runs.{places}
use Rattle.zk_tables.specs.Copying.{copied_at_once}
use Rattle.zk_tables.proofs.Passes.{can_be, backwards_can, backwards_on, backwards_end}
use Rattle.zk_tables.proofs.arrays.copying.copy_backwards.Goals as goal

pub unwrap-requires : goal.unwrap-requires
unwrap-requires c =
    let can : IsOk (copied_at_once c.loop-i.memory (places c.args.first c.loop-i.i)
    (places c.args.second c.loop-i.i)) = rw c.loop-i.invariant.so_far c.requires.can in
    (can_be c.copy_byte.result _ _ c.copy_byte.ensures (backwards_can c.loop-i.memory c.args.first c.args.second
    c.loop-i.i (omega arith) (omega arith) can)).0

pub loop-i-preserved : goal.loop-i-preserved
loop-i-preserved c =
    let can : IsOk (copied_at_once c.loop-i.memory (places c.args.first c.loop-i.i)
    (places c.args.second c.loop-i.i)) = rw c.loop-i.invariant.so_far c.requires.can in
    let copied = (can_be c.copy_byte.result _ _ c.copy_byte.ensures
    (backwards_can c.loop-i.memory c.args.first c.args.second c.loop-i.i (omega arith) (omega arith) can)).1 in
    record {
      so_far = backwards_on c.loop-i.memory c.copy_byte.new.memory c.args.first c.args.second c.loop-i.i
          c.args.size (omega arith) (omega arith) c.requires.small (omega arith) c.requires.above can copied
          ∙ c.loop-i.invariant.so_far;
    }

pub returns : goal.returns
returns c =
    sym c.loop-i.invariant.so_far ∙ backwards_end c.loop-i.memory c.args.first c.args.second c.loop-i.i (omega arith)
