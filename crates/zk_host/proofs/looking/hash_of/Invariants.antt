use Rattle.std.proofs.Common.{◌≡◌, drop}
use Rattle.zk_host.specs.Hashes.{hash_from}
use Rattle.zk_host.proofs.looking.hash_of.Given as goal

abbrev pub invariant-loop-byte : goal.invariant-loop-byte
invariant-loop-byte l = hash_from l.hash (drop l.byte-index l.bytes) ≡ hash_from 14695981039346656037 l.bytes
