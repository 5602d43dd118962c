use Rattle.std.proofs.Common.{◌∙◌, ◌+◌, sym}
use Rattle.zk_mem.proofs.TextWords.{end_gone, end_inside, end_last, end_on}
use Rattle.zk_code.proofs.Blocks.{end_within}
use Rattle.zk_code.proofs.ends.text_end.Goals as goal

pub returns-in-Some-clause-within : goal.returns-in-Some-clause-within
returns-in-Some-clause-within c = end_within c.args.memory.now c.args.address c.loop-i.at c.in-Some.end
    (c.in-Some.ensures c.args.memory.now c.requires) c.loop-i.invariant

pub returns-in_default-code_word-clause-value : goal.returns-in_default-code_word-clause-value
returns-in_default-code_word-clause-value c =
    sym (end_gone c.args.memory.now c.loop-i.at (sym c.in_default-code_word.ensures.value)) ∙ c.loop-i.invariant

pub returns-then-word-ge32768-clause-value : goal.returns-then-word-ge32768-clause-value
returns-then-word-ge32768-clause-value c =
    sym (end_last c.args.memory.now c.loop-i.at c.in-Some-code_word.word (sym c.in-Some-code_word.ensures.value)
    c.if-word-ge32768.true) ∙ c.loop-i.invariant

pub returns-then-word-ge32768-clause-within : goal.returns-then-word-ge32768-clause-within
returns-then-word-ge32768-clause-within c =
    end_inside c.args.memory.now c.loop-i.at (c.loop-i.at + 2)
    (end_last c.args.memory.now c.loop-i.at c.in-Some-code_word.word (sym c.in-Some-code_word.ensures.value)
    c.if-word-ge32768.true)

pub loop-i-preserved : goal.loop-i-preserved
loop-i-preserved c =
    sym (end_on c.args.memory.now c.loop-i.at c.in-Some-code_word.word (sym c.in-Some-code_word.ensures.value)
    c.if-word-ge32768.false) ∙ c.loop-i.invariant
