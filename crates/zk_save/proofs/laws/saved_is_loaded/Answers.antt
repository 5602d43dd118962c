use Rattle.std.proofs.Common.{◌∙◌, length, sym, ap}
use Rattle.zk_mem.specs.declared.header.Header.{Header}
use Rattle.zk_save.proofs.guards.SavedLoads.{loaded_again}
use Rattle.zk_save.proofs.laws.saved_is_loaded.Goals as goal

pub returns : goal.returns
returns c = λ pc.
    let m = c.args.memory.now in
    let n = c.dynamic.ensures in
    loaded_again m c.args.frames.now pc (ap (λ (h : Header). length h.serial) (sym c.header-header.ensures)
    ∙ c.has_six.ensures) n.within (ap length (sym n.value) ∙ n.len) c.begins_first.ensures c.is_bounded.ensures.each
