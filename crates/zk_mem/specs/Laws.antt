-- What writes to memory, and setting the header's fields again, leave as it was.
use Rattle.std.specs.Prelude.{◌≡◌, ℕ, ◌+◌, ◌*◌, ◌<◌, ◌≤◌, ◌⊎◌, List, length, drop, slice_index, bit_and, Some, Ok}
use Rattle.zk_mem.specs.declared.memory.Setup.{Setup}
use Rattle.zk_mem.specs.Map.{MemoryMap, byte_at, word_at, byte_put, word_put, cell_at}
use Rattle.zk_mem.specs.Fresh.{with_fields, fresh}
use Rattle.zk_mem.specs.Again.{settled, again, restarted}
use Rattle.zk_mem.specs.Words.{words_at}

-- the map n is m but for the bytes from a on and below b
pub record IsSameBut (m n : MemoryMap) (a b : ℕ) : Type 0 where
  pub version : n.version ≡ m.version
  pub static_base : n.static_base ≡ m.static_base
  pub file : n.file ≡ m.file
  pub setup : n.setup ≡ m.setup
  pub size : length n.bytes ≡ length m.bytes
  pub others : (c : ℕ) → (c < a) ⊎ (b ≤ c) → cell_at n c ≡ cell_at m c

-- a byte was written: it lies in dynamic memory, and is read again (section 1.1.1)
pub record WritesByte (m n : MemoryMap) (a v : ℕ) : Type 0 where
  pub dynamic : a < m.static_base
  pub written : byte_at n a ≡ Ok v
  pub alone : IsSameBut m n a (a + 1)

-- a word was written: both of its bytes lie in dynamic memory, and it is read again (section 1.1.1)
pub record WritesWord (m n : MemoryMap) (a v : ℕ) : Type 0 where
  pub dynamic : a + 1 < m.static_base
  pub written : word_at n a ≡ Ok v
  pub alone : IsSameBut m n a (a + 2)

-- a write of a byte changes that byte alone
abbrev pub ByteIsWritten : Type 0
ByteIsWritten = (m n : MemoryMap) (a v : ℕ) → byte_put m a v ≡ Ok n → WritesByte m n a v

-- a write of a word changes its two bytes alone
abbrev pub WordIsWritten : Type 0
WordIsWritten = (m n : MemoryMap) (a v : ℕ) → word_put m a v ≡ Ok n → WritesWord m n a v

-- the header's fields, set again where they were set, stay (section 11.1)
abbrev pub SetAgainStays : Type 0
SetAgainStays = (version : ℕ) (setup : Setup) (bytes : List ℕ) →
    with_fields version setup (with_fields version setup bytes) ≡ with_fields version setup bytes

-- the memory at the start, made fresh again, is the same
abbrev pub FreshAgainStays : Type 0
FreshAgainStays = (file : List ℕ) (setup : Setup) →
    with_fields (fresh file setup).version setup (fresh file setup).bytes ≡ (fresh file setup).bytes

-- a text lies whole inside the story, two bytes to a word (section 3.2)
abbrev pub TextLiesInside : Type 0
TextLiesInside = (m : MemoryMap) (a : ℕ) (ws : List ℕ) → words_at m a ≡ Some ws →
    (1 ≤ length ws) × (a + 2 * length ws ≤ length m.bytes)

-- what put bytes back leaves alone: all but bytes, their number where the new ones are as many, and those from an
-- address after the header on; and of Flags 2 the bits 0 and 1 (section 6.1)
pub record IsAgain (old new : MemoryMap) (bytes : List ℕ) : Type 0 where
  pub version : new.version ≡ old.version
  pub static_base : new.static_base ≡ old.static_base
  pub file : new.file ≡ old.file
  pub setup : new.setup ≡ old.setup
  pub size : length new.bytes ≡ length bytes
  pub others : (a : ℕ) → 64 ≤ a → drop a new.bytes ≡ drop a bytes
  pub flags : 64 ≤ length bytes → bit_and (slice_index new.bytes 0x11) 0b11 ≡ bit_and (slice_index old.bytes 0x11) 0b11

-- bytes are put back so (section 6.1)
abbrev pub PutsBack : Type 0
PutsBack = (old : MemoryMap) (bytes : List ℕ) → IsAgain old (again old bytes) bytes

-- a restart after a restart changes nothing (section 6.1.3)
abbrev pub RestartsOnce : Type 0
RestartsOnce = (m : MemoryMap) → restarted (restarted m) ≡ restarted m

-- memory that is settled stays where it is settled again
abbrev pub SettlesOnce : Type 0
SettlesOnce = (flags : ℕ) (m : MemoryMap) → settled flags (settled flags m) ≡ settled flags m
