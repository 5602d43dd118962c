use Rattle.std.proofs.Common.{◌≡◌, [], ◌∷◌, true, arith, nat_lt}
use Rattle.std.specs.Fmt.{decimal}
use Rattle.std.proofs.lemmas.Bool.Decides.{nat_tests}
use Rattle.zk_step.proofs.GivenCodes.{codes_twice}
use Rattle.zk_step.proofs.output.giving.give_two_digits.Goals as goal

pub returns : goal.returns
returns g c =
    let small : nat_lt c.args.number 10 ≡ true = grind (arith, nat_tests) in
    rw small (codes_twice g.K.Sink.gave g.met.K.Sink.twice c.args.sink.now c.give_all.new.sink
    c.give_decimal-2.new.sink (48 ∷ []) (decimal c.args.number) c.give_all.ensures c.give_decimal-2.ensures)
