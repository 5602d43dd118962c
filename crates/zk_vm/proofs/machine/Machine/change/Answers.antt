use Rattle.zk_vm.proofs.Changing.{change_told, left_fixed, memory_sound}
use Rattle.zk_vm.proofs.machine.Machine.change.Goals as goal

pub invariant_of-self : goal.invariant_of-self
invariant_of-self c =
    let m = c.self.inside in
    let n = c.change_memory-changed.new.memory in
    let above = rw (← c.self.view_is) at c.requires.above in
    memory_sound m n c.self.invariant c.is_of_file.ensures c.is_of_file-2.ensures
    (left_fixed c.change_memory-changed.result c.args.change m.game.memory n c.change_memory-changed.ensures) above

pub returns : goal.returns
returns c =
    let told = change_told c.change_memory-changed.result c.args.change c.self.inside
    c.change_memory-changed.new.memory c.change_memory-changed.ensures in
    rw (← c.self.view_is) told
