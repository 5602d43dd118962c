-- What is known of where texts end.
use Rattle.std.specs.Prelude.{◌≡◌, ℕ, ◌+◌, ◌*◌, List, Option, Some, slice_get}
use Rattle.zk_mem.specs.Map.{MemoryMap}
use Rattle.zk_mem.specs.Words.{text_end_at}
use Rattle.zk_code.specs.declared.ends.BlockEnds.{BlockEnds}
use Rattle.zk_code.specs.declared.ends.TextEnds.{TextEnds}

-- the ends of the texts at the first two addresses of a block of 256 bytes
pub record IsOfBlock (m : MemoryMap) (block : ℕ) (ends : BlockEnds) : Type 0 where
  pub even : ends.even ≡ text_end_at m (256 * block)
  pub odd : ends.odd ≡ text_end_at m (256 * block + 1)

-- what is known of blocks is so
abbrev pub AreEnds : MemoryMap → List (Option BlockEnds) → Type 0
AreEnds m blocks = (block : ℕ) (ends : BlockEnds) → slice_get blocks block ≡ Some (Some ends) → IsOfBlock m block ends

-- what is known of where a story's texts end is so
abbrev pub KnowsEnds : MemoryMap → TextEnds → Type 0
KnowsEnds m ends = AreEnds m ends.blocks.items
