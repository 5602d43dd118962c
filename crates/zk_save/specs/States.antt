-- States to go back to (Standard, section 6.1, and section 15, `save_undo` and `restore_undo`).
use Rattle.std.specs.Prelude.{◌≡◌, ℕ, ◌≤◌, List, [], ◌∷◌, ◌++◌, All, length, take, drop, map, Option, Some, None}
use Rattle.zk_mem.specs.Map.{MemoryMap}
use Rattle.zk_mem.specs.Again.{again}
use Rattle.zk_state.specs.Frames.{Frame, FrameList, frames_of, sizes_of, bounds_of, with_frames}
use Rattle.zk_save.specs.Packing.{packed}
use Rattle.zk_save.specs.Unpacking.{xored}

-- a whole state: dynamic memory, all frames with the newest first, and the address where the run goes on (section 6.1)
pub record WholeState : Type 0 where
  pub dynamic : List ℕ
  pub frames : List Frame
  pub pc : ℕ

-- the state that a memory and frames are in
abbrev pub state_of : MemoryMap → FrameList → ℕ → WholeState
state_of m f pc = record { dynamic = take m.static_base m.bytes; frames = frames_of f; pc = pc }

-- a state that is kept: what its dynamic memory differs in from the story file, its frames and its program counter
pub record KeptState : Type 0 where
  pub difference : List ℕ
  pub frames : List Frame
  pub pc : ℕ

-- the states that are kept, newest first, and how many there may be
pub record UndoStates : Type 0 where
  pub states : List KeptState
  pub most : ℕ

-- the whole state that is kept over a story file
abbrev pub whole_state : List ℕ → KeptState → WholeState
whole_state file k =
    record { dynamic = xored (take (length k.difference) file) k.difference; frames = k.frames; pc = k.pc }

-- the whole states that are kept over a story file, newest first
unfoldable pub states_in : List ℕ → UndoStates → List WholeState
states_in file u = map (whole_state file) u.states

-- what the dynamic memory of a state differs in from the story file, packed (Quetzal 1.4, section 3)
abbrev pub packed_of : List ℕ → WholeState → List ℕ
packed_of file w = packed (xored w.dynamic file)

-- the dynamic memory of a state is put back, with the file's bytes after it
abbrev pub memory_back : WholeState → MemoryMap → MemoryMap
memory_back w m = again m (w.dynamic ++ drop (length w.dynamic) m.file)

-- the newest state is gone back to, where there is one: its dynamic memory is put back, its frames are put in the place
-- of all, and the others are left (section 15, `restore_undo`)
unfoldable pub gone_back : List WholeState → MemoryMap → FrameList
    → Option (MemoryMap × FrameList × ℕ × List WholeState)
gone_back [] m f = None
gone_back (w ∷ ws) m f = Some (memory_back w m, with_frames f w.frames, w.pc, ws)

-- a kept state of a story with its static base here, and within bounds on frames and words
pub record IsOf (base most_frames most_words : ℕ) (k : KeptState) : Type 0 where
  pub dynamic : length k.difference ≡ base
  pub some : 1 ≤ length k.frames
  pub frames : length k.frames ≤ most_frames
  pub words : sizes_of k.frames ≤ most_words

-- all kept states are of a story and within bounds as those of a memory and frames
unfoldable pub AreOf : MemoryMap → FrameList → UndoStates → Type 0
AreOf m f u = All (IsOf m.static_base f.most_frames f.most_words) u.states

-- ---- laws

-- the story's static base and the bounds alone count for that
abbrev pub OnlyBoundsCount : Type 0
OnlyBoundsCount = (m n : MemoryMap) (f g : FrameList) (u : UndoStates) → n.static_base ≡ m.static_base
    → bounds_of g ≡ bounds_of f → AreOf m f u → AreOf n g u
