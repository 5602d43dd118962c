-- Saved games (Quetzal 1.4).
use Rattle.std.specs.Prelude.{ℕ, ◌+◌, ◌-◌, ◌/◌, ◌%◌, ◌^◌, ◌==◌, List, [], ◌∷◌, ◌++◌, length, take, reverse, replicate}
use Rattle.std.specs.Prelude.{codes, nat_le, if◌then◌else◌, Option, Some, None}
use Rattle.std.specs.List.{flat_map}
use Rattle.zk_mem.specs.Map.{MemoryMap}
use Rattle.zk_mem.specs.Header.{header_of}
use Rattle.zk_mem.specs.Checksum.{file_sum}
use Rattle.zk_state.specs.Frames.{Frame, FrameList, frames_of}
use Rattle.zk_save.specs.Packing.{packed}
use Rattle.zk_save.specs.Unpacking.{xored}

-- numbers of two, three and four bytes, high byte first (Quetzal 1.4, section 1)
abbrev pub bytes_2 : ℕ → List ℕ
bytes_2 n = n / 256 ∷ n % 256 ∷ []

-- a number of three bytes (Quetzal 1.4, section 1)
abbrev pub bytes_3 : ℕ → List ℕ
bytes_3 n = n / 65536 ∷ n / 256 % 256 ∷ n % 256 ∷ []

-- a number of four bytes (Quetzal 1.4, section 1)
abbrev pub bytes_4 : ℕ → List ℕ
bytes_4 n = n / 16777216 ∷ n / 65536 % 256 ∷ n / 256 % 256 ∷ n % 256 ∷ []

-- ---- chunks (Quetzal 1.4, section 8)

-- a chunk: a name of four letters, and what it holds
pub record Chunk : Type 0 where
  pub name : List ℕ
  pub content : List ℕ

-- a zero after content of an odd length (Quetzal 1.4, section 8)
abbrev pub padding : ℕ → List ℕ
padding n = if n % 2 == 0 then [] else 0 ∷ []

-- a chunk as it is written: its name, the length of its content, the content and its padding (Quetzal 1.4, section 8)
unfoldable pub chunk_bytes : Chunk → List ℕ
chunk_bytes c = c.name ++ bytes_4 (length c.content) ++ c.content ++ padding (length c.content)

-- chunks in a form of saved games, one after the other (Quetzal 1.4, sections 2 and 8)
unfoldable pub form_bytes : List Chunk → List ℕ
form_bytes cs = chunk_bytes (record { name = codes "FORM"; content = codes "IFZS" ++ flat_map chunk_bytes cs })

-- ---- the story (Quetzal 1.4, section 5)

-- what the story's file is known by: its header's checksum, and where that is 0, its sum (a choice of zkit)
unfoldable pub story_checksum : List ℕ → ℕ
story_checksum file = if (header_of file).checksum == 0 then file_sum file else (header_of file).checksum

-- the release, the serial number and the checksum of the story, and the address where the run goes on (Quetzal 1.4,
-- section 5)
unfoldable pub story_content : List ℕ → ℕ → List ℕ
story_content file pc =
    bytes_2 (header_of file).release ++ (header_of file).serial ++ bytes_2 (story_checksum file) ++ bytes_3 pc

-- ---- frames (Quetzal 1.4, section 4)

-- words, one after the other
abbrev pub words_bytes : List ℕ → List ℕ
words_bytes ws = flat_map bytes_2 ws

-- the flag of a frame whose result is dropped (Quetzal 1.4, section 4)
abbrev pub drop_flag : Option ℕ → ℕ
drop_flag None = 16
drop_flag (Some v) = 0

-- the variable that takes a frame's result, 0 where it is dropped (Quetzal 1.4, section 4)
abbrev pub variable_of : Option ℕ → ℕ
variable_of None = 0
variable_of (Some v) = v

-- the evaluation stack of a frame is counted after its head, and stands after its local variables (Quetzal 1.4,
-- section 4)
abbrev pub with_stack : List ℕ → Frame → List ℕ
with_stack head f = head ++ bytes_2 (length f.words) ++ words_bytes f.locals ++ words_bytes f.words

-- a frame: the address that it returns to, flags with the number of local variables, the variable of its result, a bit
-- for each argument, and its words (Quetzal 1.4, section 4)
unfoldable pub frame_bytes : Frame → List ℕ
frame_bytes f =
    with_stack (bytes_3 f.pc ++ (drop_flag f.result + length f.locals) ∷ variable_of f.result
    ∷ (2 ^ f.supplied - 1) ∷ []) f

-- the first frame, which stands outside of all routines: its head is zeros (Quetzal 1.4, section 4)
unfoldable pub first_bytes : Frame → List ℕ
first_bytes f = with_stack (replicate 6 0) f

-- frames, the oldest first (Quetzal 1.4, section 4)
unfoldable pub stack_content : List Frame → List ℕ
stack_content [] = []
stack_content (f ∷ fs) = first_bytes f ++ flat_map frame_bytes fs

-- ---- the file (Quetzal 1.4, section 2)

-- what dynamic memory differs in from the story's file, packed (Quetzal 1.4, section 3)
abbrev pub difference_of : MemoryMap → List ℕ
difference_of m = packed (xored (take m.static_base m.bytes) m.file)

-- the chunk of memory: the difference where that has no more bytes than dynamic memory, else dynamic memory as it is
-- (Quetzal
-- 1.4, section 3, which leaves it open)
unfoldable pub memory_part : MemoryMap → Chunk
memory_part m =
    if nat_le (length (difference_of m)) m.static_base then record { name = codes "CMem"; content = difference_of m }
    else record { name = codes "UMem"; content = take m.static_base m.bytes }

-- the chunks of a saved game: the story, its memory and the frames (Quetzal 1.4, sections 2 to 5)
abbrev pub saved_chunks : MemoryMap → FrameList → ℕ → List Chunk
saved_chunks m s pc =
    record { name = codes "IFhd"; content = story_content m.file pc }
    ∷ memory_part m
    ∷ record { name = codes "Stks"; content = stack_content (reverse (frames_of s)) }
    ∷ []

-- a saved game (Quetzal 1.4, section 2)
unfoldable pub saved : MemoryMap → FrameList → ℕ → List ℕ
saved m s pc = form_bytes (saved_chunks m s pc)
