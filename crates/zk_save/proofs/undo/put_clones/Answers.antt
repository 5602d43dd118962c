use Rattle.std.proofs.Common.{◌≡◌, List, Some, ap, rules}
use Rattle.std.specs.Prelude.{slice_get}
use Rattle.circular_buffer.specs.Buffer.{buffer}
use Rattle.zk_save.specs.States.{KeptState}
use Rattle.zk_save.proofs.Rings.{ring_cloned}
use Rattle.zk_save.proofs.undo.put_clones.Goals as goal

pub loop-k-preserved : goal.loop-k-preserved
loop-k-preserved c =
    let xs : List KeptState = c.args.ring.now.items in
    let there : slice_get xs c.loop-k.k ≡ Some c.in_ok-kept.kept = search rules in
    rw (c.push_back.ensures.items, c.loop-k.invariant)
    (ap (λ (l : List KeptState). buffer l c.args.clones.now.capacity)
    (ring_cloned xs c.in_ok-kept.kept c.loop-k.k c.args.clones.now.capacity there c.requires.room))
