-- Tables are searched (Standard, section 15, `scan_table`).
use Rattle.std.specs.Prelude.{◌≡◌, ◌≢◌, ◌<◌, ℕ, zero, suc, ◌+◌, ◌*◌, ◌%◌, Bool, Option, Some, None, Result, Ok, Err}
use Rattle.std.specs.Prelude.{if◌then◌else◌, ◌==◌, nat_le}
use Rattle.zk_mem.specs.declared.fault.Fault.{Fault}
use Rattle.zk_mem.specs.Map.{MemoryMap, byte_at, word_at}
use Rattle.zk_mem.specs.Results.{◌>>=◌}

-- bit 7 of a form says that words are compared, else bytes
abbrev pub has_words : ℕ → Bool
has_words form = nat_le 128 (form % 256)

-- the other seven bits say how many bytes an entry has
abbrev pub entry_length : ℕ → ℕ
entry_length form = form % 128

-- the word or byte at an address
abbrev pub field_at : MemoryMap → ℕ → ℕ → Result ℕ Fault
field_at m form a = if has_words form then word_at m a else byte_at m a

-- the byte address of an entry, a sum of 16 bits
abbrev pub entry_at : ℕ → ℕ → ℕ → ℕ
entry_at table form k = (table + k * entry_length form) % 65536

-- an entry begins with another value
abbrev pub Differs : MemoryMap → ℕ → ℕ → ℕ → Type 0
Differs m form x a = (v : ℕ) × (field_at m form a ≡ Ok v) × (v ≢ x)

-- the k-th of n entries is the first that begins with x
pub record IsFirst (m : MemoryMap) (x table form n k : ℕ) : Type 0 where
  pub within : k < n
  pub here : field_at m form (entry_at table form k) ≡ Ok x
  pub before : (j : ℕ) → j < k → Differs m form x (entry_at table form j)

-- none of n entries begins with x
abbrev pub IsNowhere : MemoryMap → ℕ → ℕ → ℕ → ℕ → Type 0
IsNowhere m x table form n = (j : ℕ) → j < n → Differs m form x (entry_at table form j)

-- the k-th of n entries can't be read, and those before it begin with another value
pub record IsCutOff (m : MemoryMap) (x table form n k : ℕ) (f : Fault) : Type 0 where
  pub within : k < n
  pub here : field_at m form (entry_at table form k) ≡ Err f
  pub before : (j : ℕ) → j < k → Differs m form x (entry_at table form j)

-- the address of the first of n entries that begins with x, from the entry at an address on
unfoldable pub scanned : MemoryMap → ℕ → ℕ → ℕ → ℕ → Result (Option ℕ) Fault
scanned m x a form zero = Ok None
scanned m x a form (suc n) =
    field_at m form (a % 65536) >>= λ v.
    if v == x then Ok (Some (a % 65536)) else scanned m x (a + entry_length form) form n

-- what is found is the first entry; where none is found each begins with another value; what is refused can't be read
pub record ScansAreFirst : Type 0 where
  pub found : (m : MemoryMap) (x table form n a : ℕ) → scanned m x table form n ≡ Ok (Some a) →
      (k : ℕ) × (a ≡ entry_at table form k) × IsFirst m x table form n k
  pub nowhere : (m : MemoryMap) (x table form n : ℕ) → scanned m x table form n ≡ Ok None →
      IsNowhere m x table form n
  pub refused : (m : MemoryMap) (x table form n : ℕ) (f : Fault) → scanned m x table form n ≡ Err f →
      (k : ℕ) × IsCutOff m x table form n k f
