use Rattle.std.proofs.Common.{◌∙◌, length-set, refl, arith}
use Rattle.zk_save.specs.Reading.{words_of}
use Rattle.zk_save.proofs.Filling.{word_step, word_end}
use Rattle.zk_save.proofs.writes.words_at_front.Goals as goal

pub loop-i-init : goal.loop-i-init
unfolding words_of
loop-i-init c = record { front = refl; long = refl }

pub loop-i-preserved : goal.loop-i-preserved
loop-i-preserved c = record {
  front =
      word_step c.loop-i.words c.args.bytes.now c.loop-i.i
      (omega (arith, c.loop-i-test.true, c.requires, c.loop-i.invariant.long)) (omega (arith, c.loop-i-test.true))
      c.loop-i.invariant.front;
  long = length-set c.loop-i.words c.loop-i.i _ ∙ c.loop-i.invariant.long;
}

pub returns : goal.returns
returns c =
    word_end c.loop-i.words c.args.bytes.now c.loop-i.i (omega (arith, c.loop-i-test.false, c.loop-i.auto.i-end))
    c.loop-i.invariant.front
