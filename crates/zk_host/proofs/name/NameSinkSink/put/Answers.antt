use Rattle.std.proofs.Common.{◌∷◌, refl, arith}
use Rattle.zk_host.specs.NameSinks.{name_cut, name_unit}
use Rattle.zk_host.proofs.name.NameSinkSink.put.Goals as goal

pub returns-then-self-eq0-clause-err : goal.returns-then-self-eq0-clause-err
returns-then-self-eq0-clause-err c =
    λ more. (
      refl,
      refl,
      name_cut c.args.self.now.extra.now c.args.self.now.name.now c.args.self.now.left
          (c.args.unit ∷ more) c.if-self-eq0.true,
    )

pub returns-clause-ok : goal.returns-clause-ok
returns-clause-ok c = (
  c.collect.ensures.kept.0,
  c.collect.ensures.kept.1,
  omega (arith, c.if-self-eq0.false, c.collect.ensures.kept.2),
  name_unit c.args.self.now.extra.now _ _ c.args.unit c.collect.ensures.collected,
)
