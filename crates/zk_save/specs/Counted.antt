-- How the code packs and unpacks: it counts zeros, and writes them when another byte comes; and how it notes what it
-- reads.
use Rattle.std.specs.Prelude.{◌≡◌, ◌≤◌, Bool, true, false, ℕ, zero, suc, ◌+◌, List, [], ◌∷◌, ◌++◌, replicate, reverse}
use Rattle.std.specs.Prelude.{length, take, drop, if◌then◌else◌, nat_le, codes, Option, Some, None, option_map}
use Rattle.std.specs.Prelude.{option_copied, Ok}
use Rattle.std.specs.Str.{bytes_eq}
use Rattle.zk_save.specs.Packing.{Zeros, spelled}
use Rattle.zk_save.specs.Unpacking.{before, given}
use Rattle.zk_state.specs.Frames.{Frame, FrameList, frames_of, sizes_of, total_of, with_frames}
use Rattle.zk_mem.specs.Map.{MemoryMap}
use Rattle.zk_mem.specs.Again.{again}
use Rattle.zk_save.specs.Quetzal.{Chunk}
use Rattle.zk_save.specs.Reading.{number_of, bytes_behind, words_of, content_of, each_of, first_of_frames, frames_read}
use Rattle.zk_save.specs.Loading.{Parts, memory_chunk, dynamic_in, restored}
use Rattle.zk_save.specs.declared.reading.ChunkView.{ChunkView}
use Rattle.zk_save.specs.declared.reading.FrameBytes.{FrameBytes}
use Rattle.zk_save.specs.declared.parts.Found.{Found}
use Rattle.zk_save.specs.declared.parts.Parts as Cut
use Rattle.zk_save.specs.declared.checks.Sizes.{Sizes}

-- what is still written after so many zeros that wait
unfoldable pub packed_after : ℕ → List ℕ → List ℕ
packed_after z [] = []
packed_after z (zero ∷ xs) = packed_after (z + 1) xs
packed_after z (suc b ∷ xs) = spelled (Zeros z) ++ suc b ∷ packed_after 0 xs

-- what packed bytes give, perhaps after a zero
unfoldable pub given_after : Bool → List ℕ → Option (List ℕ)
given_after false cs = given cs
given_after true [] = None
given_after true (n ∷ cs) = before (replicate (n + 1) 0) (given cs)

-- ---- saved games that are read

-- a chunk of a name and content
abbrev pub chunk_seen : List ℕ → List ℕ → Chunk
chunk_seen name content = record { name = name; content = content }

-- a chunk that the code has cut off
abbrev pub chunk_cut : ChunkView → Chunk
chunk_cut c = chunk_seen c.name.now c.content.now

-- a frame whose words are written as bytes
abbrev pub frame_seen : List ℕ → List ℕ → ℕ → Option ℕ → ℕ → Frame
frame_seen locals words pc result supplied =
    record { locals = words_of locals; words = words_of words; pc = pc; result = result; supplied = supplied }

-- a frame that the code has cut off, and what stands after it
abbrev pub frame_cut : FrameBytes → Frame × List ℕ
frame_cut f = (frame_seen f.locals.now f.words.now f.pc f.result f.supplied, f.rest.now)

-- the first frame as it is written, and what stands after it
abbrev pub first_written : List ℕ → Option (Frame × List ℕ)
first_written bs = if bytes_eq (take 6 bs) (0 ∷ 0 ∷ 0 ∷ 0 ∷ 0 ∷ 0 ∷ []) then first_of_frames bs else None

-- what was found of the parts of a saved game
pub record Noted : Type 0 where
  pub story : Option (List ℕ)
  pub memory : Option Chunk
  pub stack : Option (List ℕ)

-- the first of two, or else the second
abbrev pub first_of : {A : Type 0} → Option A → Option A → Option A
first_of {A} None o = o
first_of {A} (Some x) o = Some x

-- what is found in chunks after others
unfoldable pub noted : Noted → List Chunk → Noted
noted n cs = record {
  story = first_of n.story (content_of (codes "IFhd") cs);
  memory = first_of n.memory (memory_chunk cs);
  stack = first_of n.stack (content_of (codes "Stks") cs);
}

-- nothing so far
abbrev pub none_noted : Noted
none_noted = record { story = None; memory = None; stack = None }

-- what the code has found
abbrev pub found_seen : Found → Noted
found_seen f =
    record { story = option_copied f.story; memory = option_map chunk_cut f.memory; stack = option_copied f.stack }

-- the parts that the code has cut off
abbrev pub parts_cut : Cut.Parts → Parts
parts_cut p = record { story = p.story.now; memory = chunk_cut p.memory; stack = p.stack.now }

-- the frames after the first one
abbrev pub frames_rest : List ℕ → Option (List Frame)
frames_rest bs = each_of first_of_frames bs

-- how many frames there are, and words in them together
abbrev pub sizes_in : List Frame → ℕ × ℕ
sizes_in fs = (length fs, sizes_of fs)

-- the numbers of frames and words that the code has counted
abbrev pub counted : Sizes → ℕ × ℕ
counted s = (s.frames, s.words)

-- whether so many bytes and those that were given find room
abbrev pub room : ℕ → ℕ → Option (List ℕ) → Bool
room most at None = false
room most at (Some xs) = nat_le (at + length xs) most

-- the frames that were read find room after those that there are
pub record FindRoom (o : Option (List Frame)) (s : FrameList) : Type 0 where
  pub frames : List Frame
  pub read : o ≡ Some frames
  pub few_frames : length (frames_of s) + length frames ≤ s.most_frames
  pub few_words : total_of s + sizes_of frames ≤ s.most_words

-- the frames that were read find room in the place of all
pub record FindPlace (o : Option (List Frame)) (s : FrameList) : Type 0 where
  pub frames : List Frame
  pub read : o ≡ Some frames
  pub few_frames : length frames ≤ s.most_frames
  pub few_words : sizes_of frames ≤ s.most_words

-- a saved game can be restored from its parts, and what it makes of memory and frames
pub record CanRestore (file : List ℕ) (m : MemoryMap) (s : FrameList) (p : Parts) : Type 0 where
  pub dynamic : List ℕ
  pub frames : List Frame
  pub dynamic_is : dynamic_in m p.memory ≡ Some dynamic
  pub frames_are : frames_read p.stack ≡ Some frames
  pub few_frames : length frames ≤ s.most_frames
  pub few_words : sizes_of frames ≤ s.most_words
  pub restored_is : restored file m s ≡ Ok (
    again m (dynamic ++ drop (length dynamic) m.file),
    with_frames s (reverse frames),
    number_of (bytes_behind 10 3 p.story),
  )
