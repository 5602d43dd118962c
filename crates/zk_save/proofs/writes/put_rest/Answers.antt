use Rattle.std.proofs.Common.{◌≡◌, ◌∙◌, None, rules, refl, sym, ap, arith}
use Rattle.std.specs.Prelude.{option_map}
use Rattle.zk_state.specs.Frames.{bounds_of}
use Rattle.zk_save.specs.Reading.{first_of_frames}
use Rattle.zk_save.specs.Counted.{frame_cut}
use Rattle.zk_save.proofs.Chunks.{none_of_some}
use Rattle.zk_save.proofs.FrameRuns.{frame_shorter, length_words_of}
use Rattle.zk_save.proofs.Filling.{room_frames, room_words, room_step, left_step, left_end, all_put, no_frames}
use Rattle.zk_save.proofs.writes.put_rest.Goals as goal

pub loop-rest-init : goal.loop-rest-init
loop-rest-init c = record {
  room = c.requires;
  bounds = refl;
  left = λ fs h. record { frames = fs; read = h; makes = refl };
}

pub returns-in_default : goal.returns-in_default
returns-in_default c = λ fs h.
    let none : None ≡ first_of_frames c.loop-rest.rest.now = ap (option_map frame_cut)
    (sym (none_of_some c.frame_at_front.result c.in_default.not-Some)) ∙ c.frame_at_front.ensures.value in
    absurd (no_frames c.loop-rest.rest.now c.loop-rest.frames (search rules) none c.loop-rest.invariant.room)

pub put_frame-requires-clause-few_frames : goal.put_frame-requires-clause-few_frames
put_frame-requires-clause-few_frames c =
    room_frames c.loop-rest.rest.now c.in-Some.frame.rest.now (frame_cut c.in-Some.frame).0 c.loop-rest.frames
    c.in-Some.ensures.value c.loop-rest.invariant.room

pub put_frame-requires-clause-few_words : goal.put_frame-requires-clause-few_words
put_frame-requires-clause-few_words c =
    omega (
      arith,
      room_words c.loop-rest.rest.now c.in-Some.frame.rest.now (frame_cut c.in-Some.frame).0 c.loop-rest.frames
          c.in-Some.ensures.value c.loop-rest.invariant.room,
      length_words_of c.in-Some.frame.locals.now,
      length_words_of c.in-Some.frame.words.now,
    )

pub loop-rest-smaller : goal.loop-rest-smaller
loop-rest-smaller c = frame_shorter c.loop-rest.rest.now (frame_cut c.in-Some.frame) (sym c.in-Some.ensures.value)

pub loop-rest-preserved : goal.loop-rest-preserved
unfolding bounds_of
loop-rest-preserved c =
    let f = (frame_cut c.in-Some.frame).0 in
    record {
      room = room_step c.loop-rest.rest.now c.in-Some.frame.rest.now f c.loop-rest.frames c.put_frame.new.frames
          c.in-Some.ensures.value c.put_frame.ensures c.loop-rest.invariant.room;
      bounds = ap bounds_of c.put_frame.ensures ∙ c.loop-rest.invariant.bounds;
      left = λ fs h. left_step c.loop-rest.rest.now c.in-Some.frame.rest.now f c.loop-rest.frames
          c.put_frame.new.frames _ c.in-Some.ensures.value c.put_frame.ensures (c.loop-rest.invariant.left fs h);
    }

pub returns : goal.returns
returns c = λ fs h.
    let l = c.loop-rest.invariant.left fs h in
    all_put c.args.frames.now c.loop-rest.frames _ c.loop-rest.invariant.bounds
    (left_end c.loop-rest.rest.now c.loop-rest.frames _ (search rules) l)
