use Rattle.std.proofs.Common.{◌≡◌, ◌∙◌, true, false, None, rules, sym, ap, arith}
use Rattle.std.proofs.lemmas.Result.{err_from_is_err_and}
use Rattle.std.specs.Prelude.{option_map, is_some}
use Rattle.zk_save.specs.Reading.{frames_read}
use Rattle.zk_save.specs.declared.restore.RestoreError.TheVariants.{Truncated}
use Rattle.zk_save.specs.Loading.{or_refuse, is_of_story, dynamic_in}
use Rattle.zk_save.specs.Counted.{parts_cut, chunk_cut, counted, sizes_in}
use Rattle.zk_save.proofs.Chunks.{none_of_some}
use Rattle.zk_save.proofs.Loads.{no_form, no_parts, no_story, no_memory, no_stack, many_frames, many_words, all_fit}
use Rattle.zk_save.proofs.restore.checked.Goals as goal

pub returns-in_err-form-clause-err : goal.returns-in_err-form-clause-err
returns-in_err-form-clause-err c =
    let p = err_from_is_err_and c.from_residual.result c.from_residual.ensures.1 in
    rw (p.1, p.2) (no_form c.args.file.now c.args.memory.now c.args.frames.now _ c.in_err-form.ensures)

pub returns-in_default-clause-err : goal.returns-in_default-clause-err
returns-in_default-clause-err c =
    no_parts c.args.file.now c.args.memory.now c.args.frames.now c.in_ok-form.form.now c.in_ok-form.ensures
    (ap (λ o. or_refuse Truncated (option_map parts_cut o))
    (sym (none_of_some c.parts_in.result c.in_default.not-Some)) ∙ c.parts_in.ensures.value)

pub returns-then-not-is_of_story-clause-err : goal.returns-then-not-is_of_story-clause-err
returns-then-not-is_of_story-clause-err c =
    let story : false ≡ is_of_story c.args.memory.now.file c.in-Some.parts.story.now = search rules in
    no_story c.args.file.now c.args.memory.now c.args.frames.now c.in_ok-form.form.now c.in_ok-form.ensures
    (parts_cut c.in-Some.parts) c.in-Some.ensures.value story

pub returns-then-not-memory_fits-clause-err : goal.returns-then-not-memory_fits-clause-err
returns-then-not-memory_fits-clause-err c =
    let story : true ≡ is_of_story c.args.memory.now.file c.in-Some.parts.story.now = search rules in
    let memory : false ≡ is_some (dynamic_in c.args.memory.now (chunk_cut c.in-Some.parts.memory)) = search rules in
    no_memory c.args.file.now c.args.memory.now c.args.frames.now c.in_ok-form.form.now c.in_ok-form.ensures
    (parts_cut c.in-Some.parts) c.in-Some.ensures.value story memory

pub returns-in_default-count-clause-err : goal.returns-in_default-count-clause-err
returns-in_default-count-clause-err c =
    let story : true ≡ is_of_story c.args.memory.now.file c.in-Some.parts.story.now = search rules in
    let memory : true ≡ is_some (dynamic_in c.args.memory.now (chunk_cut c.in-Some.parts.memory)) = search rules in
    let none : None ≡ option_map sizes_in (frames_read c.in-Some.parts.stack.now) = ap (option_map counted)
    (sym (none_of_some c.count.result c.in_default-count.not-Some)) ∙ c.count.ensures in
    no_stack c.args.file.now c.args.memory.now c.args.frames.now c.in_ok-form.form.now c.in_ok-form.ensures
    (parts_cut c.in-Some.parts) c.in-Some.ensures.value story memory none

pub returns-then-sizes-most_frames-clause-err : goal.returns-then-sizes-most_frames-clause-err
returns-then-sizes-most_frames-clause-err c =
    let story : true ≡ is_of_story c.args.memory.now.file c.in-Some.parts.story.now = search rules in
    let memory : true ≡ is_some (dynamic_in c.args.memory.now (chunk_cut c.in-Some.parts.memory)) = search rules in
    many_frames c.args.file.now c.args.memory.now c.args.frames.now c.in_ok-form.form.now c.in_ok-form.ensures
    (parts_cut c.in-Some.parts) c.in-Some.ensures.value story memory c.in-Some-count.sizes.frames
    c.in-Some-count.sizes.words c.in-Some-count.ensures
    (omega (arith, c.if-sizes-most_frames.true, c.most_frames.ensures))

pub returns-then-sizes-most_words-clause-err : goal.returns-then-sizes-most_words-clause-err
returns-then-sizes-most_words-clause-err c =
    let story : true ≡ is_of_story c.args.memory.now.file c.in-Some.parts.story.now = search rules in
    let memory : true ≡ is_some (dynamic_in c.args.memory.now (chunk_cut c.in-Some.parts.memory)) = search rules in
    many_words c.args.file.now c.args.memory.now c.args.frames.now c.in_ok-form.form.now c.in_ok-form.ensures
    (parts_cut c.in-Some.parts) c.in-Some.ensures.value story memory c.in-Some-count.sizes.frames
    c.in-Some-count.sizes.words c.in-Some-count.ensures
    (omega (arith, c.if-sizes-most_frames.false, c.most_frames.ensures))
    (omega (arith, c.if-sizes-most_words.true, c.most_words.ensures))

pub returns-clause-ok : goal.returns-clause-ok
returns-clause-ok c =
    let story : true ≡ is_of_story c.args.memory.now.file c.in-Some.parts.story.now = search rules in
    let memory : true ≡ is_some (dynamic_in c.args.memory.now (chunk_cut c.in-Some.parts.memory)) = search rules in
    all_fit c.args.file.now c.args.memory.now c.args.frames.now c.in_ok-form.form.now c.in_ok-form.ensures
    (parts_cut c.in-Some.parts) c.in-Some.ensures.value story memory c.in-Some-count.sizes.frames
    c.in-Some-count.sizes.words c.in-Some-count.ensures
    (omega (arith, c.if-sizes-most_frames.false, c.most_frames.ensures))
    (omega (arith, c.if-sizes-most_words.false, c.most_words.ensures))
