use Rattle.std.proofs.Common.{◌<◌, arith}
use Rattle.zk_text.specs.Places.{work_left}
use Rattle.zk_text.proofs.Giving.{gives_twice, rest_means}
use Rattle.zk_text.proofs.printing.print_part.Goals as goal

pub loop-i-preserved : goal.loop-i-preserved
loop-i-preserved g c =
    let next = rw c.in-Ok-true.field-0-test at c.in-Ok-true.ensures.ok in
    let less : work_left c.args.memory.now _ < work_left c.args.memory.now
    c.loop-i.place = c.in-Ok-true.ensures.less c.in-Ok-true.field-0-test in
    record {
      stands = c.in-Ok-true.ensures.stands c.in-Ok-true.field-0-test;
      means = rest_means g.S.Sink.gave _ _ _ _ next c.loop-i.invariant.means;
      gives = gives_twice g.S.Sink.gave g.met.S.Sink.twice _ _ _ _ _ _ c.loop-i.invariant.gives next;
      some = λ h. omega (arith, less, c.loop-i.invariant.most);
      most = omega (arith, less, c.loop-i.invariant.most);
    }
