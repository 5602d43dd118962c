-- Memory that is put back: at a restart, from a saved file and by undo (Standard, section 6.1).
use Rattle.std.specs.Prelude.{ℕ, List, slice_index, slice_set, bit_and, bit_or}
use Rattle.zk_mem.specs.Fresh.{with_fields}
use Rattle.zk_mem.specs.Map.{MemoryMap}

-- the bytes with bits 0 and 1 of Flags 2 as in a byte: whether the play is transcribed, and shown in letters of one
-- width (section 11.1)
abbrev pub with_flags : ℕ → List ℕ → List ℕ
with_flags flags bytes =
    slice_set bytes 0x11 (bit_or (bit_and (slice_index bytes 0x11) 0b11111100) (bit_and flags 0b00000011))

-- the memory with other bytes
abbrev pub with_bytes : MemoryMap → List ℕ → MemoryMap
with_bytes m bytes = record m { bytes = bytes }

-- the memory with these two bits, and then with the header's fields that an interpreter sets (section 11.1)
unfoldable pub settled : ℕ → MemoryMap → MemoryMap
settled flags m = with_bytes m (with_fields m.version m.setup (with_flags flags m.bytes))

-- the memory with bytes that are put back: the two bits stay, and the header's fields are set again (section 6.1)
unfoldable pub again : MemoryMap → List ℕ → MemoryMap
again old bytes = settled (slice_index old.bytes 0x11) (with_bytes old bytes)

-- a restart puts the bytes of the file back (section 6.1.3)
unfoldable pub restarted : MemoryMap → MemoryMap
restarted m = again m m.file
