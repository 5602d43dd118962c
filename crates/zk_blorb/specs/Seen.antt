-- What contracts see of a chunk.
use Rattle.zk_blorb.specs.declared.chunk.Chunk as code
use Rattle.zk_blorb.specs.Blorb.{Chunk}

-- a chunk of the code as the definitions have it
abbrev pub chunk_seen : code.Chunk → Chunk
chunk_seen c = record { kind = c.kind.now; content = c.content.now }
