use Rattle.std.proofs.Common.{◌∙◌, sym, subst}
use Rattle.zk_inspect.specs.Codes.{AreNear}
use Rattle.zk_inspect.proofs.Named.{roots_near}
use Rattle.zk_inspect.proofs.whole.reach_named.Goals as goal

pub reach_from-requires : goal.reach_from-requires
reach_from-requires c = subst (AreNear c.args.memory.now) (sym (c.as_slice.ensures ∙ c.in_ok-roots.ensures.all))
    (roots_near c.args.memory.now c.args.addresses.now c.args.routines.now c.roots_of.ensures.first)
