-- Tables are copied and cleared (Standard, section 15, `copy_table`).
use Rattle.std.specs.Prelude.{ℕ, ◌-◌, List, [], ◌∷◌, replicate, Result, Ok, if◌then◌else◌, ◌==◌, nat_lt}
use Rattle.zk_mem.specs.declared.fault.Fault.{Fault}
use Rattle.zk_mem.specs.Map.{MemoryMap, byte_at, byte_put}
use Rattle.zk_mem.specs.Results.{◌>>=◌}
use Rattle.zk_tables.specs.Runs.{places, bytes_read, bytes_stored}
use Rattle.zk_tables.specs.Signed.{magnitude}

-- all bytes are read before the first is stored
abbrev pub copied_at_once : MemoryMap → List ℕ → List ℕ → Result MemoryMap Fault
copied_at_once m from to = bytes_read m from >>= λ bytes. bytes_stored m to bytes

-- one byte is copied to another address
abbrev pub byte_copied : MemoryMap → ℕ → ℕ → Result MemoryMap Fault
byte_copied m a b = byte_at m a >>= λ x. byte_put m b x

-- each byte is read once those before it are stored
unfoldable pub copied_forwards : MemoryMap → List ℕ → List ℕ → Result MemoryMap Fault
copied_forwards m (a ∷ from) (b ∷ to) = byte_copied m a b >>= λ n. copied_forwards n from to
copied_forwards m [] to = Ok m
copied_forwards m (a ∷ from) [] = Ok m

-- so many bytes become zero
abbrev pub cleared : MemoryMap → ℕ → ℕ → Result MemoryMap Fault
cleared m a n = bytes_stored m (places a n) (replicate n 0)

-- A table is copied to another: as if at once, and forwards where the size is negative. With no second table the first
-- is cleared.
unfoldable pub table_copied : MemoryMap → ℕ → ℕ → ℕ → Result MemoryMap Fault
table_copied m first second size =
    if second == 0 then cleared m first (magnitude size)
    else if nat_lt size 32768 then copied_at_once m (places first size) (places second size)
    else copied_forwards m (places first (magnitude size)) (places second (magnitude size))
