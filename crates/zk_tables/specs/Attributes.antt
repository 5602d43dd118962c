-- The attributes of an object (Standard, sections 12.3.1 and 12.3.2).
use Rattle.std.specs.Prelude.{ℕ, ◌+◌, ◌*◌, ◌-◌, ◌/◌, ◌%◌, ◌^◌, Bool, false, Result, Ok, nat_lt, ◌==◌, not, bit_and}
use Rattle.std.specs.Prelude.{bit_or, if◌then◌else◌}
use Rattle.zk_mem.specs.declared.fault.Fault.{Fault}
use Rattle.zk_mem.specs.Results.{◌>>=◌}
use Rattle.zk_mem.specs.Map.{MemoryMap, byte_at, byte_put}
use Rattle.zk_tables.specs.Layout.{layout_of, entry_of}

-- the bit of an attribute in its byte: the top bit of the first byte is attribute 0
abbrev pub attribute_bit : ℕ → ℕ
attribute_bit n = 2 ^ (7 - n % 8)

-- a byte with bits of it on or off
abbrev pub with_bits : ℕ → ℕ → Bool → ℕ
with_bits byte bits on = if on then bit_or byte bits else bit_and byte (255 - bits)

-- whether the layout has an attribute of this number
abbrev pub is_attribute : MemoryMap → ℕ → Bool
is_attribute m n = nat_lt n (8 * (layout_of m.version).attribute_bytes)

-- whether an object has an attribute; object 0 has none
unfoldable pub attribute_at : MemoryMap → ℕ → ℕ → Result Bool Fault
attribute_at m o n = if o == 0 then Ok false else do
  entry ← entry_of m o
  if is_attribute m n
      then (byte_at m (entry + n / 8) >>= λ byte. Ok (not (bit_and byte (attribute_bit n) == 0)))
      else Ok false

-- the memory after an attribute of an object is given or taken
unfoldable pub attribute_put : MemoryMap → ℕ → ℕ → Bool → Result MemoryMap Fault
attribute_put m o n on = if o == 0 then Ok m else do
  entry ← entry_of m o
  if is_attribute m n
      then (byte_at m (entry + n / 8) >>= λ byte.
      byte_put m (entry + n / 8) (with_bits byte (attribute_bit n) on))
      else Ok m
