use Rattle.std.proofs.Common.{◌≡◌, ◌∙◌, ◌+◌, ◌*◌, ◌++◌, ℕ, List, length, ap, arith, rules}
use Rattle.std.specs.Prelude.{reverse, codes}
use Rattle.zk_state.specs.Frames.{frames_of}
use Rattle.zk_save.specs.Quetzal.{Chunk, chunk_bytes, story_content, stack_content, form_bytes, memory_part, saved}
use Rattle.zk_save.proofs.Saves.{three, inner_is, length_inner, length_saved, part_named}
use Rattle.zk_save.proofs.save.save.Goals as goal

pub put_chunk-requires-3 : goal.put_chunk-requires-3
put_chunk-requires-3 c =
    let a : List ℕ = c.in_ok-story.story.items in
    let m : Chunk = memory_part c.args.memory.now in
    let d : List ℕ = c.in_ok-stack.stack.items in
    let items : c.put_chunk-2.new.out.items ≡ codes "IFZS" ++ chunk_bytes
    (record { name = codes "IFhd"; content = a }) ++ chunk_bytes m ++ chunk_bytes
    (record { name = codes "Stks"; content = d }) = search rules in
    omega (
      arith,
      ap length (c.as_slice-3.ensures.value ∙ items ∙ inner_is a m d),
      length_inner a m d c.in_ok-story.ensures.len (part_named c.args.memory.now),
      c.put_memory.ensures.short,
      c.put_memory.ensures.small,
      c.in_ok-stack.ensures.len,
      c.in_ok-stack.ensures.few,
      c.in_ok-stack.ensures.frames,
    )

pub returns-clause-value : goal.returns-clause-value
unfolding saved form_bytes
returns-clause-value c =
    let m = c.args.memory.now in
    let part : Chunk = memory_part m in
    let a : List ℕ = c.in_ok-story.story.items in
    let d : List ℕ = c.in_ok-stack.stack.items in
    let items : c.put_chunk-2.new.out.items ≡ codes "IFZS" ++ chunk_bytes
    (record { name = codes "IFhd"; content = a }) ++ chunk_bytes part
    ++ chunk_bytes (record { name = codes "Stks"; content = d }) = search rules in
    let file : c.put_chunk-3.new.out.items ≡ chunk_bytes
    (record { name = codes "FORM"; content = c.put_chunk-2.new.out.items }) = search rules in
    let story : a ≡ story_content m.file c.args.pc = c.in_ok-story.ensures.value in
    let stack : d ≡ stack_content (reverse (frames_of c.args.frames.now)) = c.in_ok-stack.ensures.value in
    file
    ∙ ap (λ (l : List ℕ). chunk_bytes (record { name = codes "FORM"; content = l })) (items ∙ inner_is a part d)
    ∙ ap (λ (l : List ℕ). form_bytes (three l part d)) story
    ∙ ap (λ (l : List ℕ). form_bytes (three (story_content m.file c.args.pc) part l)) stack

pub returns-clause-len : goal.returns-clause-len
unfolding form_bytes
returns-clause-len c =
    let m = c.args.memory.now in
    let part : Chunk = memory_part m in
    let a : List ℕ = c.in_ok-story.story.items in
    let d : List ℕ = c.in_ok-stack.stack.items in
    let items : c.put_chunk-2.new.out.items ≡ codes "IFZS" ++ chunk_bytes
    (record { name = codes "IFhd"; content = a }) ++ chunk_bytes part
    ++ chunk_bytes (record { name = codes "Stks"; content = d }) = search rules in
    let file : c.put_chunk-3.new.out.items ≡ chunk_bytes
    (record { name = codes "FORM"; content = c.put_chunk-2.new.out.items }) = search rules in
    let whole : c.put_chunk-3.new.out.items ≡ form_bytes (three a part d) = file
    ∙ ap (λ (l : List ℕ). chunk_bytes (record { name = codes "FORM"; content = l })) (items ∙ inner_is a part d) in
    let f = c.args.frames.now.most_frames in
    let w = c.args.frames.now.most_words in
    omega (
      arith,
      ap length whole,
      c.put_memory.ensures.short,
      length_saved a part d (4 * f + w)
          c.in_ok-story.ensures.len (part_named m)
          (omega (arith, c.in_ok-stack.ensures.len, c.in_ok-stack.ensures.frames)),
    )
