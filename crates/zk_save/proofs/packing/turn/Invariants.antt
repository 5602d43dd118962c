use Rattle.std.proofs.Common.{◌≡◌, ◌<◌, ◌≤◌, drop, length, List, ℕ, Some}
use Rattle.zk_mem.specs.Again.{with_bytes}
use Rattle.zk_save.specs.Unpacking.{unpacked, xored}
use Rattle.zk_save.proofs.Turns.{Rest}
use Rattle.zk_save.proofs.packing.turn.Given as goal

-- what the rest gives, turned over the bytes from here on, makes the whole
abbrev pub invariant-loop-byte : goal.invariant-loop-byte
invariant-loop-byte l = record {
  within : l.at ≤ l.end;
  base : l.memory.static_base ≡ l.end;
  high : l.end ≤ length l.memory.bytes;
  small : l.end < 65536;
  same : l.memory ≡ with_bytes l.fn.memory l.memory.bytes;
  rest : (ds : List ℕ) → unpacked (length ds) l.packed ≡ Some ds → length ds ≡ l.fn.memory.static_base
      → Rest l.run (drop l.byte-index l.packed) l.at l.end l.memory.bytes (xored l.fn.memory.bytes ds);
}
