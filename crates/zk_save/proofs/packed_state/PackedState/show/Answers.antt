use Rattle.std.proofs.Common.{◌≡◌, ◌∙◌, ap, sym}
use Rattle.zk_save.specs.Packing.{packed}
use Rattle.zk_save.specs.States.{KeptState}
use Rattle.zk_save.specs.Ring.{bytes_in}
use Rattle.zk_save.proofs.packed_state.PackedState.show.Goals as goal

pub returns-clause-packed : goal.returns-clause-packed
returns-clause-packed c =
    let difference : bytes_in c.self.inside.packed.items c.self.inside.length ≡ c.args.self.now.difference =
    ap (λ (x : KeptState). x.difference) c.self.view_is in
    c.as_slice.ensures.value ∙ sym (sym (ap packed difference) ∙ c.self.invariant.packing)
