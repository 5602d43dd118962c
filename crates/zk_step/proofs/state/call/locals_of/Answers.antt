use Rattle.std.proofs.Common.{◌≡◌, ◌∙◌, sym, ap, arith, get_or}
use Rattle.std.proofs.lemmas.Grind.{common_steps}
use Rattle.zk_step.specs.Routines.{initial_value}
use Rattle.zk_step.proofs.Arguments.{argument_step, argument_end}
use Rattle.zk_step.proofs.state.call.locals_of.Goals as goal

pub loop-k-preserved : goal.loop-k-preserved
loop-k-preserved c =
    let value : c.argument_or.result ≡ get_or c.args.arguments.now c.loop-k.k
    (initial_value c.args.memory.now c.loop-k.at) =
    c.argument_or.ensures ∙ ap (get_or c.args.arguments.now c.loop-k.k) c.initial_value-initial.ensures in
    let step = argument_step c.args.memory.now c.loop-k.locals.items c.args.arguments.now c.loop-k.at c.args.count
    c.loop-k.k c.argument_or.result c.loop-k-test.true value in
    record {
      so_far = rw c.push.ensures.items (sym step ∙ c.loop-k.invariant.so_far);
      many = grind (arith, common_steps);
      pc = omega arith;
    }

pub returns : goal.returns
returns c =
    sym (argument_end c.args.memory.now c.loop-k.locals.items c.args.arguments.now c.loop-k.at c.args.count
    c.loop-k.k c.loop-k-test.false) ∙ c.loop-k.invariant.so_far
