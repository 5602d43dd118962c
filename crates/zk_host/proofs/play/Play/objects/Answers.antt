use Rattle.std.proofs.Common.{◌≡◌, rules, subst}
use Rattle.zk_mem.specs.Map.{MemoryMap}
use Rattle.zk_host.specs.Looking.{AreListed}
use Rattle.zk_host.proofs.play.Play.objects.Goals as goal

pub returns : goal.returns
unfolding AreListed
returns c =
    let memory : c.memory.result.now ≡ c.args.self.now.machine.state.game.memory = search rules in
    subst (λ (m : MemoryMap). AreListed m c.count_objects.result) memory c.count_objects.ensures.listed
