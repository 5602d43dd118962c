use Rattle.std.proofs.Common.{◌+◌, ◌%◌, arith, refl}
use Rattle.zk_text.proofs.Sweeping.{none_past}
use Rattle.zk_text.proofs.abbreviations.find_all.Goals as goal

pub loop-place-init : goal.loop-place-init
loop-place-init c =
    let value = c.len-end.ensures.value in
    let bound = c.len-end.ensures.bound in
    record {
      known = c.requires.known;
      size = refl;
      even = omega arith;
      near = omega (arith, bound);
      rest = none_past c.args.memory.now (c.len-end.result + c.len-end.result % 2) (omega (arith, value));
    }
