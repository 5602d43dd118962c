use Rattle.std.proofs.Common.{◌≡◌, ◌∙◌, ◌<◌, arith, false, get_or, length, rules, sym}
use Rattle.std.specs.Prelude.{map}
use Rattle.std.proofs.lemmas.List.{get_or-map, length-map}
use Rattle.zk_host.specs.Calls.{mark_byte}
use Rattle.zk_host.proofs.Seeing.{one_put}
use Rattle.zk_host.proofs.play.coverage.put_marks.Goals as goal

pub loop-k-preserved : goal.loop-k-preserved
loop-k-preserved c =
    let marks = c.args.marks.now in
    let k = c.loop-k.k in
    let a = c.mark_byte.result in
    let inside : k < length marks = omega (arith, c.min-count.ensures, c.loop-k-test.true) in
    let room : k < length c.args.buffer.now = omega (arith, c.min-count.ensures, c.loop-k-test.true) in
    let told : a ≡ mark_byte (get_or marks k false) = search rules in
    let same : get_or (map mark_byte marks) k a ≡ a = get_or-map mark_byte marks k false a inside ∙ sym told in
    let long : k < length (map mark_byte marks) = omega (arith, inside, length-map marks mark_byte) in
    rw c.loop-k.invariant (one_put (map mark_byte marks) c.args.buffer.now k a long room same)
