-- What copying and clearing change (Standard, section 15, `copy_table`).
use Rattle.std.specs.Prelude.{◌≡◌, ◌≢◌, ◌<◌, ◌↔◌, ℕ, ◌+◌, ◌%◌, length, Ok}
use Rattle.zk_mem.specs.Map.{MemoryMap, byte_at, cell_at}
use Rattle.zk_tables.specs.Runs.{places}
use Rattle.zk_tables.specs.Copying.{copied_at_once, copied_forwards, table_copied}
use Rattle.zk_tables.specs.Signed.{magnitude}

-- the map n is m but for so many bytes of a table
pub record IsSameBeside (m n : MemoryMap) (table size : ℕ) : Type 0 where
  pub version : n.version ≡ m.version
  pub static_base : n.static_base ≡ m.static_base
  pub file : n.file ≡ m.file
  pub setup : n.setup ≡ m.setup
  pub length_is : length n.bytes ≡ length m.bytes
  pub others : (c : ℕ) → ((k : ℕ) → k < size → c ≢ (table + k) % 65536) → cell_at n c ≡ cell_at m c

-- each byte of the second table holds what that of the first held before
pub record IsCopied (m n : MemoryMap) (first second size : ℕ) : Type 0 where
  pub bytes : (k : ℕ) → k < size → byte_at n ((second + k) % 65536) ≡ byte_at m ((first + k) % 65536)
  pub beside : IsSameBeside m n second size

-- each byte of a table is zero
pub record IsCleared (m n : MemoryMap) (table size : ℕ) : Type 0 where
  pub bytes : (k : ℕ) → k < size → byte_at n ((table + k) % 65536) ≡ Ok 0
  pub beside : IsSameBeside m n table size

-- as if at once: what the bytes held before is copied, also where the tables overlap, and no other byte changes
abbrev pub CopiesAreWhole : Type 0
CopiesAreWhole = (m n : MemoryMap) (first second size : ℕ) → second ≢ 0 → size < 32768 →
    table_copied m first second size ≡ Ok n → IsCopied m n first second size

-- with no second table the first becomes zero, and no other byte changes
abbrev pub ClearsAreWhole : Type 0
ClearsAreWhole = (m n : MemoryMap) (first size : ℕ) → size < 65536 →
    table_copied m first 0 size ≡ Ok n → IsCleared m n first (magnitude size)

-- no byte of the second table is one of the first
abbrev pub Apart : ℕ → ℕ → ℕ → Type 0
Apart first second size = (j k : ℕ) → j < size → k < size → (first + j) % 65536 ≢ (second + k) % 65536

-- where tables do not overlap, forwards is as if at once
abbrev pub ForwardsIsAtOnce : Type 0
ForwardsIsAtOnce = (m n : MemoryMap) (first second size : ℕ) → Apart first second size →
    (copied_forwards m (places first size) (places second size) ≡ Ok n)
    ↔ (copied_at_once m (places first size) (places second size) ≡ Ok n)
