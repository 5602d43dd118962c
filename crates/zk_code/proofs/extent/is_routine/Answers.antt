use Rattle.std.proofs.Common.{◌∙◌, refl, sym, subst}
use Rattle.zk_code.proofs.Extents.{routine_by, no_start}
use Rattle.zk_code.proofs.extent.is_routine.Goals as goal

pub returns-in-Some : goal.returns-in-Some
returns-in-Some c =
    rw c.is_some.ensures (routine_by c.args.memory.now c.args.address c.in-Some.start c.extent.result
    (sym c.in-Some.ensures.value) c.extent.ensures.found c.extent.ensures.none)
