-- What a saved game loads (Quetzal 1.4).
use Rattle.std.specs.Prelude.{◌≡◌, Bool, not, ℕ, ◌+◌, ◌-◌, ◌==◌, ◌||◌, ◌&&◌, List, [], ◌∷◌, ◌++◌, length, take, reverse}
use Rattle.std.specs.Prelude.{codes, nat_lt, if◌then◌else◌, Option, Some, None, option_map, Result, Ok, Err}
use Rattle.std.specs.Str.{bytes_eq}
use Rattle.zk_mem.specs.Map.{MemoryMap}
use Rattle.zk_mem.specs.Header.{header_of}
use Rattle.zk_state.specs.declared.refusal.Refusal.{Refusal}
use Rattle.zk_state.specs.declared.refusal.Refusal.TheVariants as refusal
use Rattle.zk_state.specs.Frames.{FrameList, with_frames, within_bounds}
use Rattle.zk_save.specs.declared.restore.RestoreError.{RestoreError}
use Rattle.zk_save.specs.declared.restore.RestoreError.TheVariants.{NotQuetzal, Truncated, OtherStory, BadMemory}
use Rattle.zk_save.specs.declared.restore.RestoreError.TheVariants.{BadStack, Limit}
use Rattle.zk_save.specs.Quetzal.{Chunk, bytes_2, story_checksum}
use Rattle.zk_save.specs.Reading.{number_of, bytes_behind, chunks_in, content_of, frames_read}
use Rattle.zk_save.specs.States.{WholeState, memory_back}
use Rattle.zk_save.specs.Unpacking.{unpacked, xored}

-- what was found, or else a refusal
abbrev pub or_refuse : {A : Type 0} → RestoreError → Option A → Result A RestoreError
or_refuse {A} e None = Err e
or_refuse {A} e (Some x) = Ok x

-- what is loaded from what was found
abbrev pub loaded_by : {A B : Type 0} → Result A RestoreError → (A → Result B RestoreError) → Result B RestoreError
loaded_by {A} {B} (Ok x) f = f x
loaded_by {A} {B} (Err e) f = Err e

-- ---- the form (Quetzal 1.4, sections 2 and 8)

-- the bytes of the chunks in a form of so many bytes after its length, the first four of which say that it is a saved
-- game
abbrev pub form_of : ℕ → List ℕ → Result (List ℕ) RestoreError
form_of n file = if nat_lt n 4 || nat_lt (length file) (8 + n) then Err Truncated else Ok (bytes_behind 12 (n - 4) file)

-- the bytes of a saved game's chunks; what stands after the form does not count
unfoldable pub form_in : List ℕ → Result (List ℕ) RestoreError
form_in file =
    if nat_lt (length file) 12 then Err Truncated
    else if bytes_eq (take 4 file) (codes "FORM") && bytes_eq (bytes_behind 8 4 file) (codes "IFZS") then form_of
    (number_of (bytes_behind 4 4 file)) file
    else Err NotQuetzal

-- ---- the chunks that count

-- the first of the chunks of memory, packed or as it is (Quetzal 1.4, section 3)
unfoldable pub memory_chunk : List Chunk → Option Chunk
memory_chunk [] = None
memory_chunk (c ∷ cs) =
    if bytes_eq c.name (codes "CMem") || bytes_eq c.name (codes "UMem") then Some c else memory_chunk cs

-- what says of which story a saved game is, where it is whole: 13 bytes (Quetzal 1.4, section 5)
abbrev pub story_part : List ℕ → Option (List ℕ)
story_part content = if nat_lt (length content) 13 then None else Some content

-- what says the story and the program counter, the memory, and the frames
pub record Parts : Type 0 where
  pub story : List ℕ
  pub memory : Chunk
  pub stack : List ℕ

-- the parts of a saved game, the first chunk of each; one that lacks a part is truncated
unfoldable pub parts_of : List Chunk → Result Parts RestoreError
parts_of cs =
    loaded_by (or_refuse Truncated (content_of (codes "IFhd") cs)) (λ content.
    loaded_by (or_refuse Truncated (story_part content)) (λ story.
    loaded_by (or_refuse Truncated (memory_chunk cs)) (λ memory.
    loaded_by (or_refuse Truncated (content_of (codes "Stks") cs)) (λ stack.
    Ok (record { story = story; memory = memory; stack = stack })))))

-- ---- what the parts say

-- the checksum in a saved game is the story's; where the header has none, none is taken too (a choice of zkit)
abbrev pub is_checksum_of : List ℕ → ℕ → Bool
is_checksum_of file checksum = checksum == story_checksum file || ((header_of file).checksum == 0 && checksum == 0)

-- a saved game is of a story: its release, its serial number and its checksum are the same (Quetzal 1.4, section 5)
unfoldable pub is_of_story : List ℕ → List ℕ → Bool
is_of_story file story =
    bytes_eq (take 8 story) (bytes_2 (header_of file).release ++ (header_of file).serial)
    && is_checksum_of file (number_of (bytes_behind 8 2 story))

-- the dynamic memory that a chunk gives: its bytes as they are, or those of the file with a difference turned (Quetzal
-- 1.4, section 3)
unfoldable pub dynamic_in : MemoryMap → Chunk → Option (List ℕ)
dynamic_in m c =
    if bytes_eq c.name (codes "UMem") then (if length c.content == m.static_base then Some c.content else None)
    else option_map (λ ds. xored (take m.static_base m.file) ds) (unpacked m.static_base c.content)

-- ---- the file

-- the whole state in a saved game of a story, or why it has none, in this order: it is truncated or no saved game, of
-- another story, its memory is bad, its frames are
unfoldable pub loaded : MemoryMap → List ℕ → Result WholeState RestoreError
loaded m bytes =
    loaded_by (form_in bytes) (λ form.
    loaded_by (or_refuse Truncated (chunks_in form)) (λ chunks.
    loaded_by (parts_of chunks) (λ parts.
    if not (is_of_story m.file parts.story) then Err OtherStory else
    loaded_by (or_refuse BadMemory (dynamic_in m parts.memory)) (λ dynamic.
    loaded_by (or_refuse BadStack (frames_read parts.stack)) (λ frames.
    Ok (record { dynamic = dynamic; frames = reverse frames; pc = number_of (bytes_behind 10 3 parts.story) }))))))

-- ---- restoring

-- frames that were loaded, within the bounds, else the bound that they pass
abbrev pub frames_fit : Result FrameList Refusal → Result FrameList RestoreError
frames_fit (Ok s) = Ok s
frames_fit (Err (refusal.Limit l)) = Err (Limit l)
frames_fit (Err (refusal.Fault f)) = Err BadStack

-- a whole state takes the place of a memory and frames, within their bounds; it tells where the run goes on
unfoldable pub put_in_place : WholeState → MemoryMap → FrameList → Result (MemoryMap × FrameList × ℕ) RestoreError
put_in_place w m s =
    loaded_by (frames_fit (within_bounds (with_frames s w.frames))) (λ frames. Ok (memory_back w m, frames, w.pc))

-- a saved game is restored: what it loads takes the place of memory and frames (Standard, section 15, `restore`)
unfoldable pub restored : List ℕ → MemoryMap → FrameList → Result (MemoryMap × FrameList × ℕ) RestoreError
restored bytes m s = loaded_by (loaded m bytes) (λ w. put_in_place w m s)

-- ---- laws

-- what was saved is loaded: the same dynamic memory, frames and program counter
abbrev pub IsLoadedAgain : MemoryMap → FrameList → ℕ → List ℕ → Type 0
IsLoadedAgain m s pc file =
    loaded m file ≡ Ok (record { dynamic = take m.static_base m.bytes; frames = s.current ∷ s.callers; pc = pc })
