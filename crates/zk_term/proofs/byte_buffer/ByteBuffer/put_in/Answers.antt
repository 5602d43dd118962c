use Rattle.zk_term.proofs.Passing.{on_err, on_ok, passes_twice, takes_after}
use Rattle.zk_term.proofs.byte_buffer.ByteBuffer.put_in.Goals as goal

pub returns-clause-all : goal.returns-clause-all
returns-clause-all g c =
    on_ok _ _ _ (passes_twice _ _ _ _ _ _ _ c.in_ok-restyle.ensures.all) c.put.ensures.all

pub returns-clause-part : goal.returns-clause-part
returns-clause-part g c = on_err _ _ _ (takes_after _ _ _ _ _ c.in_ok-restyle.ensures.all) c.put.ensures.part
