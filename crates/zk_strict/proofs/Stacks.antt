-- The frame of the highest number is the current one.
use Rattle.std.proofs.Common.{◌≡◌, ◌∙◌, ℕ, ◌-◌, length, get_or, Some, ap, sym, arith, reverse}
use Rattle.std.specs.Prelude.{slice_get}
use Rattle.std.proofs.lemmas.List.{get_or-reverse}
use Rattle.std.proofs.lemmas.Option.{get_or_from_slice_get}
use Rattle.zk_state.specs.Frames.{Frame, FrameList, frames_of}

current_is : (s : FrameList) (f : Frame) → slice_get (reverse (frames_of s)) (length s.callers) ≡ Some f
    → s.current ≡ f
current_is s f h =
    let n = length s.callers in
    let first : length (frames_of s) - 1 - n ≡ 0 = omega arith in
    let turned = get_or-reverse (frames_of s) n f (omega arith) in
    sym (ap (λ (k : ℕ). get_or (frames_of s) k f) first) ∙ sym turned
    ∙ get_or_from_slice_get (reverse (frames_of s)) n f f h

pub words_are : (s : FrameList) (f : Frame) → slice_get (reverse (frames_of s)) (length s.callers) ≡ Some f
    → s.current.words ≡ f.words
words_are s f h = ap (λ (g : Frame). g.words) (current_is s f h)
