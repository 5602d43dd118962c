use Rattle.std.proofs.Common.{◌≡◌, ◌∙◌, ◌/◌, List, ℕ, length, take, ap, arith}
use Rattle.zk_state.specs.Frames.{with_routine}
use Rattle.zk_save.specs.Reading.{words_of}
use Rattle.zk_save.proofs.FrameRuns.{length_words_of}
use Rattle.zk_save.proofs.Filling.{call_done, frame_room, frame_put}
use Rattle.zk_save.proofs.writes.put_frame.Goals as goal

pub push_words-requires : goal.push_words-requires
push_words-requires c =
    let s = c.args.frames.now in
    let f = c.args.frame.now in
    let ls : List ℕ = take (length f.locals.now / 2) c.words_at_front-words.result in
    let long : length ls ≡ length f.locals.now / 2 = ap length c.words_at_front-words.ensures
    ∙ length_words_of f.locals.now in
    let called : c.call.new.self ≡ with_routine s ls f.pc f.result f.supplied = call_done c.call.result s
    c.call.new.self ls f.pc f.result f.supplied c.requires.few_frames
    (omega (arith, long, c.requires.few_words)) c.call.ensures in
    frame_room s c.call.new.self ls f.pc f.result f.supplied (length f.locals.now / 2) (length f.words.now / 2)
    called long c.requires.few_words

pub returns : goal.returns
returns c =
    let s = c.args.frames.now in
    let f = c.args.frame.now in
    let ls : List ℕ = take (length f.locals.now / 2) c.words_at_front-words.result in
    let words : ls ≡ words_of f.locals.now = c.words_at_front-words.ensures in
    let long : length ls ≡ length f.locals.now / 2 = ap length words ∙ length_words_of f.locals.now in
    let called : c.call.new.self ≡ with_routine s ls f.pc f.result f.supplied = call_done c.call.result s
    c.call.new.self ls f.pc f.result f.supplied c.requires.few_frames
    (omega (arith, long, c.requires.few_words)) c.call.ensures in
    let call : c.call.new.self ≡ with_routine s (words_of f.locals.now) f.pc f.result f.supplied = called
    ∙ ap (λ (l : List ℕ). with_routine s l f.pc f.result f.supplied) words in
    frame_put s c.call.new.self c.push_words.new.frames (words_of f.locals.now) (words_of f.words.now) f.pc
    f.result f.supplied call c.push_words.ensures
