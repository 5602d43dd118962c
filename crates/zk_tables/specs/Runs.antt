-- Runs of bytes in memory (Standard, section 1.1).
use Rattle.std.specs.Prelude.{ℕ, zero, suc, ◌+◌, ◌%◌, List, [], ◌∷◌, Result, Ok}
use Rattle.zk_mem.specs.declared.fault.Fault.{Fault}
use Rattle.zk_mem.specs.Map.{MemoryMap, byte_at, byte_put}
use Rattle.zk_mem.specs.Results.{◌>>=◌}

-- memory with bytes stored from an address on, one after the other
unfoldable pub bytes_put : MemoryMap → ℕ → List ℕ → Result MemoryMap Fault
bytes_put m a [] = Ok m
bytes_put m a (b ∷ bs) = byte_put m a b >>= λ n. bytes_put n (a + 1) bs

-- the byte addresses of so many bytes of a table, each a sum of 16 bits
unfoldable pub places : ℕ → ℕ → List ℕ
places a zero = []
places a (suc n) = a % 65536 ∷ places (a + 1) n

-- the bytes at addresses, where all can be read
unfoldable pub bytes_read : MemoryMap → List ℕ → Result (List ℕ) Fault
bytes_read m [] = Ok []
bytes_read m (a ∷ rest) = byte_at m a >>= λ b. bytes_read m rest >>= λ bs. Ok (b ∷ bs)

-- memory with bytes stored at addresses, one after the other
unfoldable pub bytes_stored : MemoryMap → List ℕ → List ℕ → Result MemoryMap Fault
bytes_stored m (a ∷ rest) (b ∷ bs) = byte_put m a b >>= λ n. bytes_stored n rest bs
bytes_stored m [] bs = Ok m
bytes_stored m (a ∷ rest) [] = Ok m
