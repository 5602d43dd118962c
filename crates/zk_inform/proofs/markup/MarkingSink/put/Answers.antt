use Rattle.std.proofs.Common.{[], ◌∷◌, refl}
use Rattle.zk_inform.specs.Markup.{marked_one}
use Rattle.zk_inform.proofs.markup.MarkingSink.put.Goals as goal

pub returns-in-Nothing-clause-ok : goal.returns-in-Nothing-clause-ok
returns-in-Nothing-clause-ok g c =
    let s = c.args.self.now in
    let is = rw c.in-Nothing.is at c.of.ensures in (
      refl,
      refl,
      marked_one g.P.LineWriter.wrote s.extra.now s.writer.now s.writer.now c.args.unit [] is
          (g.met.P.LineWriter.nothing s.writer.now),
    )

pub returns-in-One-clause-ok : goal.returns-in-One-clause-ok
returns-in-One-clause-ok g c =
    let s = c.args.self.now in
    let is = rw c.in-One.is at c.of.ensures in
    let k = c.write_one.ensures.kept in (
      k.0,
      k.1,
      marked_one g.P.LineWriter.wrote s.extra.now s.writer.now _ c.args.unit (c.in-One.c ∷ []) is
          c.write_one.ensures.text,
    )

pub returns-in-TwoSpaces-clause-ok : goal.returns-in-TwoSpaces-clause-ok
returns-in-TwoSpaces-clause-ok g c =
    let s = c.args.self.now in
    let is = rw c.in-TwoSpaces.is at c.of.ensures in
    let k = c.write_two_spaces.ensures.kept in (
      k.0,
      k.1,
      marked_one g.P.LineWriter.wrote s.extra.now s.writer.now _ c.args.unit (32 ∷ 32 ∷ []) is
          c.write_two_spaces.ensures.text,
    )
