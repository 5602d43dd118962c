use Rattle.std.proofs.Common.{arith, rules, refl, sym, ap, ◌∙◌}
use Rattle.std.specs.Prelude.{option_map}
use Rattle.zk_save.specs.Reading.{frames_read}
use Rattle.zk_save.specs.Counted.{frame_cut, sizes_in}
use Rattle.zk_save.proofs.Chunks.{none_of_some}
use Rattle.zk_save.proofs.FrameRuns.{frame_shorter, count_start, count_step, count_none, count_end, count_refused}
use Rattle.zk_save.proofs.checks.count.Goals as goal

pub returns-in_default : goal.returns-in_default
returns-in_default c =
    count_refused c.args.stack.now (ap (option_map frame_cut)
    (sym (none_of_some c.first_frame.result c.in_default.not-Some)) ∙ c.first_frame.ensures.value)

pub loop-rest-init : goal.loop-rest-init
loop-rest-init c = record {
  whole = count_start c.args.stack.now c.in-Some.first.words.now c.in-Some.first.rest.now
      (frame_cut c.in-Some.first).0 c.in-Some.ensures.value refl;
  few = omega (arith, c.in-Some.ensures.len);
}

pub returns-in_default-frame_at_front : goal.returns-in_default-frame_at_front
returns-in_default-frame_at_front c =
    count_none (option_map sizes_in (frames_read c.args.stack.now)) c.loop-rest.rest.now c.loop-rest.frames
    c.loop-rest.words (search rules)
    (ap (option_map frame_cut) (sym (none_of_some c.frame_at_front.result c.in_default-frame_at_front.not-Some))
    ∙ c.frame_at_front.ensures.value) c.loop-rest.invariant.whole

pub loop-rest-smaller : goal.loop-rest-smaller
loop-rest-smaller c = frame_shorter c.loop-rest.rest.now (frame_cut c.in-Some-frame_at_front.frame)
    (sym c.in-Some-frame_at_front.ensures.value)

pub loop-rest-preserved : goal.loop-rest-preserved
loop-rest-preserved c =
    let f = c.in-Some-frame_at_front.frame in
    record {
      whole = count_step (option_map sizes_in (frames_read c.args.stack.now)) c.loop-rest.rest.now f.locals.now
          f.words.now (frame_cut f).0 f.rest.now c.loop-rest.frames c.loop-rest.words
          c.in-Some-frame_at_front.ensures.value refl refl c.loop-rest.invariant.whole;
      few = omega (arith, c.in-Some-frame_at_front.ensures.len, c.loop-rest.invariant.few);
    }

pub returns : goal.returns
returns c = count_end (option_map sizes_in (frames_read c.args.stack.now)) c.loop-rest.rest.now c.loop-rest.frames
    c.loop-rest.words (search rules) c.loop-rest.invariant.whole
