use Rattle.std.proofs.Common.{[], ◌∷◌}
use Rattle.std.specs.Int.{cast_signed, w16}
use Rattle.std.specs.Fmt.{signed_decimal}
use Rattle.zk_step.specs.Status.{two_digits}
use Rattle.zk_step.proofs.GivenCodes.{codes_twice}
use Rattle.zk_step.proofs.output.giving.give_figures.Goals as goal

pub returns-then-time : goal.returns-then-time
returns-then-time g c =
    let behind = codes_twice g.K.Sink.gave g.met.K.Sink.twice c.give_two_digits.new.sink c.give_all.new.sink
    c.give_two_digits-then-time.new.sink (58 ∷ []) (two_digits c.args.b) c.give_all.ensures
    c.give_two_digits-then-time.ensures in
    rw c.if-time.true (codes_twice g.K.Sink.gave g.met.K.Sink.twice c.args.sink.now c.give_two_digits.new.sink
    c.give_two_digits-then-time.new.sink (two_digits c.args.a) (58 ∷ two_digits c.args.b)
    c.give_two_digits.ensures behind)

pub returns : goal.returns
returns g c =
    let behind = codes_twice g.K.Sink.gave g.met.K.Sink.twice c.give_signed.new.sink c.give_all-2.new.sink
    c.give_signed-2.new.sink (47 ∷ []) (signed_decimal (cast_signed w16 c.args.b)) c.give_all-2.ensures
    c.give_signed-2.ensures in
    rw c.if-time.false (codes_twice g.K.Sink.gave g.met.K.Sink.twice c.args.sink.now c.give_signed.new.sink
    c.give_signed-2.new.sink (signed_decimal (cast_signed w16 c.args.a))
    (47 ∷ signed_decimal (cast_signed w16 c.args.b)) c.give_signed.ensures behind)
