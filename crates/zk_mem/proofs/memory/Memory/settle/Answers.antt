use Rattle.std.proofs.Common.{◌≡◌, rules}
use Rattle.zk_mem.specs.Again.{with_flags}
use Rattle.zk_mem.specs.Fresh.{with_fields}
use Rattle.zk_mem.proofs.Settling.{whole_settled}
use Rattle.zk_mem.proofs.memory.Memory.settle.Goals as goal

pub invariant_of-self : goal.invariant_of-self
invariant_of-self c =
    let s = c.self.inside in
    let set : c.set_fields.new.bytes.items ≡ with_fields c.version-version.result s.setup
    (with_flags c.args.flags s.bytes.items) = search rules in
    whole_settled s.header s.readable s.bytes.items s.file.items.value.items c.set_fields.new.bytes.items
    c.version-version.result s.setup c.args.flags c.self.invariant set
