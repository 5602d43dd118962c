use Rattle.std.proofs.Common.{arith, take, drop, sym, length-drop, ◌∙◌}
use Rattle.std.proofs.lemmas.List.{take_rest}
use Rattle.std.proofs.Math.Seq.{take-add}
use Rattle.std.proofs.Math.ListN.{take-append-drop}
use Rattle.std.proofs.KnownBytes.{Appends-trans, Appends-kept}
use Rattle.zk_term.proofs.target.write_all.Goals as goal

pub loop-sent-preserved : goal.loop-sent-preserved
loop-sent-preserved g c = record {
  within = omega (arith, c.in-Ok.ensures.count, length-drop c.loop-sent.sent c.args.bytes.now);
  so_far = rw (take-add c.loop-sent.sent c.in-Ok.n c.args.bytes.now)
      (Appends-trans _ _ _ _ _ c.loop-sent.invariant.so_far
      (rw (take_rest c.args.bytes.now c.loop-sent.sent) at c.in-Ok.ensures.bytes));
  sound = c.in-Ok.ensures.failed ∙ c.loop-sent.invariant.sound;
}

pub returns-in-Err-clause-part : goal.returns-in-Err-clause-part
returns-in-Err-clause-part g c = record {
  part = take c.loop-sent.sent c.args.bytes.now;
  rest = drop c.loop-sent.sent c.args.bytes.now;
  whole = sym (take-append-drop c.loop-sent.sent c.args.bytes.now);
  takes = Appends-kept _ _ _ _ c.loop-sent.invariant.so_far c.in-Err.ensures.bytes;
}
