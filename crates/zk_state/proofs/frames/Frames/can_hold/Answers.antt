use Rattle.std.proofs.Common.{◌∙◌, ◌<◌, ◌≤◌, length, arith, refl}
use Rattle.std.proofs.lemmas.Bool.{le-leb, lt-leb, le-ltb}
use Rattle.zk_state.proofs.Oldest.{frames, copy_length, copy_size}
use Rattle.zk_state.proofs.frames.Frames.can_hold.Goals as goal

pub returns-then-len-self : goal.returns-then-len-self
returns-then-len-self c =
    let s = c.self.inside in
    let k = c.copy.inside in
    let i = c.copy.invariant in
    let long = copy_length k.current k.callers.items k.words.items in
    let few : length (frames k.current k.callers.items k.words.items) ≤ s.most_frames = omega (
      arith,
      long,
      c.len.ensures,
      k.callers.ok.0,
    ) in
    rw (
      ← c.self.view_is,
      ← c.copy.view_is,
      le-leb (length (frames k.current k.callers.items k.words.items))
          s.most_frames few,
      copy_size k.current k.callers.items k.words.items i.base i.stack_base i.below,
      c.len-then-len-self.ensures ∙ k.words.ok.0,
    ) refl

pub returns-else-len-self : goal.returns-else-len-self
returns-else-len-self c =
    let s = c.self.inside in
    let k = c.copy.inside in
    let long = copy_length k.current k.callers.items k.words.items in
    let many : s.most_frames < length (frames k.current k.callers.items k.words.items) = omega (
      arith,
      long,
      c.len.ensures,
      k.callers.ok.0,
    ) in
    rw (
      ← c.self.view_is,
      ← c.copy.view_is,
      lt-leb (length (frames k.current k.callers.items k.words.items))
          s.most_frames many,
      le-ltb c.len.result s.most_frames (omega arith),
    ) refl
