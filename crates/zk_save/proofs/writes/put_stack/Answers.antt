use Rattle.std.proofs.Common.{◌≡◌, ◌∙◌, ◌++◌, None, sym, ap, arith}
use Rattle.std.specs.Prelude.{option_map}
use Rattle.zk_state.specs.Frames.{FrameList, with_words}
use Rattle.zk_save.specs.Reading.{words_of}
use Rattle.zk_save.specs.Counted.{frame_cut, first_written}
use Rattle.zk_save.proofs.Chunks.{none_of_some}
use Rattle.zk_save.proofs.FrameRuns.{length_words_of}
use Rattle.zk_save.proofs.Filling.{not_first, place_words, place_room, stack_put, begun}
use Rattle.zk_save.proofs.writes.put_stack.Goals as goal

pub returns-in_default : goal.returns-in_default
returns-in_default c = λ fs h.
    let none : None ≡ first_written c.args.stack.now = ap (option_map frame_cut)
    (sym (none_of_some c.first_frame.result c.in_default.not-Some)) ∙ c.first_frame.ensures.value in
    absurd (not_first c.args.stack.now fs none h)

pub push_words-requires : goal.push_words-requires
push_words-requires c =
    omega (
      arith,
      place_words c.args.stack.now c.in-Some.first.rest.now (frame_cut c.in-Some.first).0 c.args.frames.now
          c.restart.new.self c.in-Some.ensures.value c.requires c.restart.ensures,
      length_words_of c.in-Some.first.words.now,
    )

pub put_rest-requires : goal.put_rest-requires
put_rest-requires c =
    let begins : c.push_words.new.frames ≡ begun c.args.frames.now (words_of c.in-Some.first.words.now) =
    c.push_words.ensures ∙ ap (λ (x : FrameList). with_words x
    (x.current.words ++ words_of c.in-Some.first.words.now)) c.restart.ensures in
    place_room c.args.stack.now c.in-Some.first.rest.now (frame_cut c.in-Some.first).0 c.args.frames.now
    c.push_words.new.frames c.in-Some.ensures.value c.requires begins

pub returns : goal.returns
returns c = λ fs h.
    let begins : c.push_words.new.frames ≡ begun c.args.frames.now (words_of c.in-Some.first.words.now) =
    c.push_words.ensures ∙ ap (λ (x : FrameList). with_words x
    (x.current.words ++ words_of c.in-Some.first.words.now)) c.restart.ensures in
    stack_put c.args.stack.now c.in-Some.first.rest.now (frame_cut c.in-Some.first).0 c.args.frames.now
    c.push_words.new.frames c.put_rest.new.frames fs c.in-Some.ensures.value begins c.put_rest.ensures h
