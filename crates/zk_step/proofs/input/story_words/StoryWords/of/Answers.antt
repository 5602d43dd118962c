use Rattle.std.proofs.Common.{◌∙◌, sym, ap}
use Rattle.zk_mem.specs.declared.header.Header.{Header}
use Rattle.zk_step.specs.StoryWords.{AreWordsOf}
use Rattle.zk_step.proofs.SameStory.{always_there}
use Rattle.zk_step.proofs.input.story_words.StoryWords.of.Goals as goal

pub returns-in-Ok : goal.returns-in-Ok
unfolding AreWordsOf
returns-in-Ok c =
    always_there c.args.memory.now c.header-header.result.static_base c.header-header.result.dictionary
    c.in-Ok.dictionary c.is_of_file.ensures
    (c.is_of_file.ensures.static_base ∙ ap (λ (h : Header). h.static_base) (sym c.header-header.ensures))
    c.if-header.false c.in-Ok.ensures.value
