use Rattle.std.proofs.Common.{◌≡◌, ◌*◌, ◌++◌, take}
use Rattle.zk_state.specs.Frames.{with_words}
use Rattle.zk_save.specs.Reading.{words_of}
use Rattle.zk_save.proofs.writes.push_words.Given as goal

abbrev pub invariant-loop-i : goal.invariant-loop-i
invariant-loop-i l = l.frames ≡ with_words l.fn.frames (l.fn.frames.current.words ++ words_of (take (2 * l.i) l.bytes))
