use Rattle.std.proofs.Common.{◌≡◌, ◌∙◌, length, arith, ap}
use Rattle.zk_state.proofs.Oldest.{copy_length, copy_size}
use Rattle.zk_state.proofs.frames.Frames.put_back.Goals as goal

pub put-requires : goal.put-requires
put-requires c =
    let k = c.copy.inside in
    let few = rw (← c.self.view_is, ← c.copy.view_is) at c.requires.frames in
    omega (
      arith,
      few,
      copy_length k.current k.callers.items k.words.items,
      ap length c.as_slice.ensures.value,
      c.self.invariant.frame_room,
    )

pub copy_words-requires : goal.copy_words-requires
copy_words-requires c =
    let s = c.self.inside in
    let k = c.copy.inside in
    let i = c.copy.invariant in
    let short = rw (← c.self.view_is, ← c.copy.view_is) at c.requires.words in
    omega (
      arith,
      short,
      copy_size k.current k.callers.items k.words.items i.base i.stack_base i.below,
      ap length c.as_slice-2.ensures.value,
      c.self.invariant.size,
    )

pub invariant_of-self : goal.invariant_of-self
invariant_of-self c =
    let s = c.self.inside in
    let k = c.copy.inside in
    let i = c.self.invariant in
    let j = c.copy.invariant in
    let few = rw (← c.self.view_is, ← c.copy.view_is) at c.requires.frames in
    let short = rw (← c.self.view_is, ← c.copy.view_is) at c.requires.words in
    let callers : c.as_slice.result.now ≡ k.callers.items = c.as_slice.ensures.value in
    let words : c.len-self-inside.result ≡ length k.words.items = c.len-self-inside.ensures ∙ k.words.ok.0 in
    rw (c.put.ensures, callers) (record {
      base = j.base;
      stack_base = omega (arith, j.stack_base, words);
      below = j.below;
      top = omega (arith, short, copy_size k.current k.callers.items k.words.items j.base j.stack_base j.below, words);
      size = c.copy_words.ensures.len ∙ i.size;
      frames = omega (arith, few, copy_length k.current k.callers.items k.words.items);
      frame_room = i.frame_room;
      current = j.current;
      callers = j.callers;
      first = j.first;
      few_frames = i.few_frames;
      few_words = i.few_words;
    })
