use Rattle.std.proofs.Common.{◌∙◌, [], ◌∷◌, refl, ap}
use Rattle.zk_term.specs.Windows.{printed, character_printed}
use Rattle.zk_step.specs.Printed.{upper_unit}
use Rattle.zk_step.proofs.output.printer.WindowPrinterSink.put.Goals as goal

pub returns-in-Nothing-clause-ok : goal.returns-in-Nothing-clause-ok
unfolding printed
returns-in-Nothing-clause-ok c =
    let s = c.args.self.now in
    let is = rw c.in-Nothing.is at c.of.ensures in
    (refl, refl, upper_unit s.extra.now s.windows.now s.windows.now c.args.unit [] is refl)

pub returns-in-One-clause-ok : goal.returns-in-One-clause-ok
unfolding printed
returns-in-One-clause-ok c =
    let s = c.args.self.now in
    let is = rw c.in-One.is at c.of.ensures in
    (refl, refl, upper_unit s.extra.now s.windows.now _ c.args.unit (c.in-One.c ∷ []) is c.put.ensures)

pub returns-in-TwoSpaces-clause-ok : goal.returns-in-TwoSpaces-clause-ok
unfolding printed
returns-in-TwoSpaces-clause-ok c =
    let s = c.args.self.now in
    let is = rw c.in-TwoSpaces.is at c.of.ensures in (
      refl,
      refl,
      upper_unit s.extra.now s.windows.now _ c.args.unit (32 ∷ 32 ∷ []) is
          (c.put-in-TwoSpaces-2.ensures ∙ ap (character_printed 32) c.put-in-TwoSpaces.ensures),
    )
