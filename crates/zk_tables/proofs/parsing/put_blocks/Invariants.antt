use Rattle.std.proofs.Common.{◌≡◌, ◌≤◌, ◌+◌, ◌*◌, ℕ, length, drop}
use Rattle.zk_mem.specs.Laws.{IsSameBut}
use Rattle.zk_tables.specs.Parsing.{blocks_put}
use Rattle.zk_tables.proofs.parsing.put_blocks.Given as goal

abbrev pub invariant-loop-i : goal.invariant-loop-i
invariant-loop-i l = record {
  so_far : blocks_put l.memory (l.address + 4 * l.i) l.leaves_unknown (drop l.i l.words) ≡ blocks_put l.fn.memory
      l.address l.leaves_unknown l.words;
  beside : (low : ℕ) (high : ℕ) → low ≤ l.address → l.address + 4 * length l.words ≤ high
      → IsSameBut l.fn.memory l.memory low high;
}
