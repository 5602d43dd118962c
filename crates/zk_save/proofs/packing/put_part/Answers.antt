use Rattle.std.proofs.Common.{◌≡◌, ◌∙◌, ◌<◌, ℕ, List, length, arith}
use Rattle.zk_save.specs.Unpacking.{xored}
use Rattle.zk_save.proofs.Packs.{pack_step, length-xored, get_or-xored}
use Rattle.zk_save.proofs.packing.put_part.Goals as goal

pub loop-i-preserved : goal.loop-i-preserved
loop-i-preserved c =
    let bytes = c.args.bytes.now in
    let file = c.args.file.now in
    let xs : List ℕ = xored bytes file in
    let long : length xs ≡ length bytes = length-xored bytes file c.requires.inside.2 in
    let inside : c.loop-i.i < length xs = omega (arith, long) in
    record {
      whole = pack_step xs c.loop-i.out.items c.put_byte.new.out.items c.loop-i.i c.loop-i.zeros
          c.in_ok-zeros.zeros _ inside (get_or-xored bytes file c.loop-i.i (omega arith) c.requires.inside.2)
          c.in_ok-zeros.ensures.value ∙ c.loop-i.invariant.whole;
      few = omega (arith, c.in_ok-zeros.ensures.few, c.loop-i.invariant.few);
    }
