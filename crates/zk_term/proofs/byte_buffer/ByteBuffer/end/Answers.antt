use Rattle.zk_term.proofs.Passing.{either_way, takes_after, takes_whole}
use Rattle.zk_term.proofs.byte_buffer.ByteBuffer.end.Goals as goal

pub returns-in_err-flush-clause-part : goal.returns-in_err-flush-clause-part
returns-in_err-flush-clause-part g c =
    either_way _ _ (takes_after _ _ _ _ _ c.in_ok-restyle.ensures.all c.in_err-flush.ensures.part)

pub returns-clause-part : goal.returns-clause-part
returns-clause-part g c =
    either_way _ _ (takes_whole _ _ _ _ _ _ c.in_ok-restyle.ensures.all c.in_ok-flush.ensures.all
    c.flush-2.ensures.bytes)
