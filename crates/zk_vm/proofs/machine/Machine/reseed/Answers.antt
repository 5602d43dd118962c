use Rattle.zk_vm.proofs.Answering.{changed}
use Rattle.zk_vm.proofs.machine.Machine.reseed.Goals as goal

pub invariant_of-self : goal.invariant_of-self
invariant_of-self c =
    changed c.self.inside c.self.inside.game.windows (record c.self.inside.game.generators { free = c.args.seed })
    c.self.invariant
