use Rattle.std.proofs.Common.{◌≡◌, arith, rules, get_or}
use Rattle.std.proofs.lemmas.Option.{unwrap_or-slice_get}
use Rattle.std.proofs.lemmas.Grind.{common_steps}
use Rattle.zk_state.proofs.Calls.{fill_step}
use Rattle.zk_state.proofs.frames.fill_words.Goals as goal

pub loop-k-preserved : goal.loop-k-preserved
loop-k-preserved c =
    let value : c.unwrap_or.result ≡ get_or c.args.from.now c.loop-k.k 0 = search (rules, unwrap_or-slice_get) in
    record {
      front =
          rw value (fill_step c.loop-k.words.items c.args.words.now.items c.args.from.now c.args.at c.args.count
          c.loop-k.k (omega (arith, c.requires, c.loop-k-test.true, c.loop-k.invariant.len)) c.loop-k-test.true
          c.loop-k.invariant.front);
      len = grind (arith, common_steps);
    }
