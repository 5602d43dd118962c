use Rattle.std.proofs.Common.{◌∙◌}
use Rattle.zk_text.proofs.Sweeping.{half_fault, rest_of}
use Rattle.zk_text.proofs.sweep.rest_before.Goals as goal

pub returns-clause-rest : goal.returns-clause-rest
returns-clause-rest g c = λ zs rest.
    rest_of (g.A.Abbreviations.stands c.args.memory.now) c.args.memory.now _ _ (c.fault_before.ensures.value zs rest)
    (c.fault_before-2.ensures.value zs rest) (c.fault_before-3.ensures.value zs rest)
    (c.fault_before-4.ensures.value zs rest) (c.fault_before-5.ensures.value zs rest)
    (c.fault_before-6.ensures.value zs rest) (c.fault_before-7.ensures.value zs rest)
    (λ high. c.fault_before-8.ensures.value zs rest
    ∙ half_fault (g.A.Abbreviations.stands c.args.memory.now) c.args.memory.now 0 high c.args.character zs)
