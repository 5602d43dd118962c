-- Worked examples of where code ends and of the routine after it, by the Standard's sections 1.2.3, 4.7, 5.2 and 15,
-- worked out by hand.
use Rattle.std.specs.Prelude.{◌≡◌, ℕ, List, [], ◌∷◌, map, replicate}
use Rattle.zk_mem.specs.Fresh.{plain_setup}
use Rattle.zk_mem.specs.Map.{MemoryMap}
use Rattle.zk_code.specs.Extent.{IsExtent, IsNeighbour, IsRoutine, next_packed}

-- a story of a version with these bytes
abbrev pub story_of : ℕ → List ℕ → MemoryMap
story_of version bytes = record {
  version = version;
  static_base = 0;
  bytes = bytes;
  file = bytes;
  setup = plain_setup 0;
}

-- packed addresses stand for each second, fourth and eighth byte in versions 3, 5 and 8 (section 1.2.3)
abbrev pub PackedByUnits : Type 0
PackedByUnits =
    (map (next_packed (story_of 3 [])) (0 ∷ 1 ∷ 2 ∷ 3 ∷ []) ≡ 0 ∷ 2 ∷ 2 ∷ 4 ∷ [])
    × (map (next_packed (story_of 4 [])) (0 ∷ 1 ∷ 4 ∷ 5 ∷ []) ≡ 0 ∷ 4 ∷ 4 ∷ 8 ∷ [])
    × (map (next_packed (story_of 5 [])) (0 ∷ 1 ∷ 4 ∷ 5 ∷ []) ≡ 0 ∷ 4 ∷ 4 ∷ 8 ∷ [])
    × (map (next_packed (story_of 8 [])) (0 ∷ 1 ∷ 8 ∷ 9 ∷ []) ≡ 0 ∷ 8 ∷ 8 ∷ 16 ∷ [])

-- in version 5 at 0 a routine without local variables: at 1 `jz 0` branches over the return at 4 to the one at 5. After
-- two bytes stands at 8 a routine with a return. At 12 stands a count of 16, and at 13 a `nop`, after which the story
-- ends.
abbrev pub padded : MemoryMap
padded = story_of 5 (0 ∷ 0x90 ∷ 0 ∷ 0xc3 ∷ 0xb0 ∷ 0xb1 ∷ 0 ∷ 0 ∷ 0 ∷ 0xb0 ∷ 0 ∷ 0 ∷ 16 ∷ 0xb4 ∷ [])

-- the code of the first ends after the return that its branch leads to, and not after the one before (sections 4.7 and
-- 15)
abbrev pub CodeEndsPastItsBranches : Type 0
CodeEndsPastItsBranches = IsExtent padded 1 6 × (IsExtent padded 1 5 → ⊥)

-- what runs into the end of the story has no end
abbrev pub CodeWithoutAnEnd : Type 0
CodeWithoutAnEnd = (e : ℕ) → IsExtent padded 13 e → ⊥

-- the routine after padding is the neighbour of the first; there is none at a count of 16, nor after it (section 5.2)
abbrev pub NeighboursAfterPadding : Type 0
NeighboursAfterPadding = IsNeighbour padded 1 8 × ((n : ℕ) → IsNeighbour padded 9 n → ⊥)

-- in version 3 at 0 a routine with a return; at 2 stands a return that nothing leads to, and at 4 a routine with one
abbrev pub with_dead_code : MemoryMap
with_dead_code = story_of 3 (0 ∷ 0xb0 ∷ 0xb0 ∷ 0 ∷ 0 ∷ 0xb1 ∷ [])

-- the routine at 4 is the neighbour of the first, past that code
abbrev pub NeighboursPastDeadCode : Type 0
NeighboursPastDeadCode = (IsRoutine with_dead_code 2 → ⊥) × IsNeighbour with_dead_code 1 4
