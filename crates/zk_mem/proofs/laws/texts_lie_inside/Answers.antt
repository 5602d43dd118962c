use Rattle.zk_mem.proofs.TextWords.{text_lies_inside}
use Rattle.zk_mem.proofs.laws.texts_lie_inside.Goals as goal

pub returns : goal.returns
returns c = text_lies_inside
