use Rattle.zk_mem.proofs.Writes.{byte_is_written, word_is_written}
use Rattle.zk_mem.proofs.laws.writes_change_alone.Goals as goal

pub returns-clause-byte : goal.returns-clause-byte
returns-clause-byte c = byte_is_written

pub returns-clause-word : goal.returns-clause-word
returns-clause-word c = word_is_written
