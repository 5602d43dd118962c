use Rattle.std.proofs.Common.{◌∙◌}
use Rattle.zk_term.proofs.Passing.{passes_all}
use Rattle.zk_term.proofs.byte_buffer.ByteBuffer.restyle.Goals as goal

pub returns-clause-all : goal.returns-clause-all
returns-clause-all g c =
    passes_all _ _ _ _ _ c.in_ok-flush.ensures.all c.in_ok-show_in.ensures.bytes
    (c.self-2.view_is ∙ c.in_ok-flush.ensures.none)
