use Rattle.std.proofs.Common.{◌∙◌, [], ◌∷◌, refl}
use Rattle.zk_step.specs.Printed.{printed_unit, shown_nothing, shown_twice}
use Rattle.zk_step.proofs.output.printer.PrinterSink.put.Goals as goal

pub returns-in-Nothing-clause-ok : goal.returns-in-Nothing-clause-ok
returns-in-Nothing-clause-ok g c =
    let s = c.args.self.now in
    let is = rw c.in-Nothing.is at c.of.ensures in (
      refl,
      refl,
      refl,
      printed_unit g.S.Screen.shows s.extra.now s.selected s.screen.now s.screen.now
          s.at_line_start s.at_line_start c.args.unit [] is
          (shown_nothing g.S.Screen.shows s.selected s.screen.now s.at_line_start
          (g.met.S.Screen.nothing s.screen.now)),
    )

pub returns-in-One-clause-ok : goal.returns-in-One-clause-ok
returns-in-One-clause-ok g c =
    let s = c.args.self.now in
    let is = rw c.in-One.is at c.of.ensures in
    let k = c.show.ensures.kept in (
      k.0,
      k.1,
      k.2,
      printed_unit g.S.Screen.shows s.extra.now s.selected s.screen.now c.show.new.self.screen.now
          s.at_line_start c.show.new.self.at_line_start c.args.unit (c.in-One.c ∷ []) is
          (c.show.ensures.start, c.show.ensures.shown),
    )

pub returns-in-TwoSpaces-clause-ok : goal.returns-in-TwoSpaces-clause-ok
returns-in-TwoSpaces-clause-ok g c =
    let s = c.args.self.now in
    let is = rw c.in-TwoSpaces.is at c.of.ensures in
    let one = c.show-in-TwoSpaces.new.self in
    let two = c.show-in-TwoSpaces-2.new.self in
    let k = c.show-in-TwoSpaces.ensures.kept in
    let l = c.show-in-TwoSpaces-2.ensures.kept in (
      l.0 ∙ k.0,
      l.1 ∙ k.1,
      l.2 ∙ k.2,
      printed_unit g.S.Screen.shows s.extra.now s.selected s.screen.now two.screen.now s.at_line_start
          two.at_line_start c.args.unit (32 ∷ 32 ∷ []) is
          (shown_twice g.S.Screen.shows g.met.S.Screen.twice s.selected one.selected s.screen.now one.screen.now
          two.screen.now s.at_line_start one.at_line_start two.at_line_start (32 ∷ []) (32 ∷ []) k.2
          (c.show-in-TwoSpaces.ensures.start, c.show-in-TwoSpaces.ensures.shown)
          (c.show-in-TwoSpaces-2.ensures.start, c.show-in-TwoSpaces-2.ensures.shown)),
    )
