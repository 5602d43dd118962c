use Rattle.std.proofs.Common.{◌∙◌, ◌+◌, sym}
use Rattle.zk_mem.proofs.TextWords.{end_last, end_inside}
use Rattle.zk_mem.proofs.memory.Memory.text_end.Goals as goal

pub returns-then-word-ge32768-clause-value : goal.returns-then-word-ge32768-clause-value
returns-then-word-ge32768-clause-value c =
    let last = end_last c.args.self.now c.loop-i.at c.in-Some.word (sym c.in-Some.ensures.value)
    c.if-word-ge32768.true in
    sym last ∙ c.loop-i.invariant.rest

pub returns-then-word-ge32768-clause-within : goal.returns-then-word-ge32768-clause-within
returns-then-word-ge32768-clause-within c =
    let last = end_last c.args.self.now c.loop-i.at c.in-Some.word (sym c.in-Some.ensures.value)
    c.if-word-ge32768.true in
    end_inside c.args.self.now c.loop-i.at (c.loop-i.at + 2) last
