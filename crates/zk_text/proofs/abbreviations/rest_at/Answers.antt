use Rattle.std.proofs.Common.{sym}
use Rattle.zk_mem.proofs.TextWords.{word_gone}
use Rattle.zk_text.proofs.abbreviations.rest_at.Goals as goal

pub returns-in-None : goal.returns-in-None
returns-in-None c = word_gone c.args.memory.now c.args.address (sym c.in-None.ensures.value)
