use Rattle.std.proofs.Common.{take}
use Rattle.zk_state.proofs.Oldest.{begins_first}
use Rattle.zk_state.proofs.frames.Frames.begins_first.Goals as goal

pub returns : goal.returns
returns c =
    let s = c.self.inside in
    rw (← c.self.view_is) (begins_first s.records.current s.records.callers (take s.top s.words.items)
    s.most_frames s.most_words c.self.invariant.first)
