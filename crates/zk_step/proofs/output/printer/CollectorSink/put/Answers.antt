use Rattle.std.proofs.Common.{[], ◌∷◌, refl, sym, append-nil}
use Rattle.zk_step.specs.Printed.{stored_unit}
use Rattle.zk_step.proofs.output.printer.CollectorSink.put.Goals as goal

pub returns-in-None-clause-ok : goal.returns-in-None-clause-ok
returns-in-None-clause-ok c =
    let s = c.args.self.now in
    let is = rw c.in-None.is at c.unit_stored.ensures in
    (refl, refl, stored_unit s.extra.now s.codes.now s.codes.now c.args.unit [] is (sym (append-nil s.codes.now)))

pub returns-in-Ok-clause-ok : goal.returns-in-Ok-clause-ok
returns-in-Ok-clause-ok c =
    let s = c.args.self.now in
    let is = rw c.in-Some.is at c.unit_stored.ensures in
    (refl, refl, stored_unit s.extra.now s.codes.now _ c.args.unit (c.in-Some.code ∷ []) is c.in-Ok.ensures.ok)
