-- Worked examples of this crate's definitions. Their values come from Quetzal 1.4 by hand, and no definition made
-- them.
use Rattle.std.specs.Prelude.{◌≡◌, ℕ, true, false, List, [], ◌∷◌, ◌++◌, Some, None, Result, Ok, Err, replicate, take}
use Rattle.std.specs.Prelude.{drop, codes}
use Rattle.zk_save.specs.Packing.{Zeros, Byte, runs_of, without_last_zeros, packed}
use Rattle.zk_save.specs.Unpacking.{unpacked, xored}
use Rattle.zk_save.specs.declared.restore.RestoreError.{RestoreError}
use Rattle.zk_save.specs.declared.restore.RestoreError.TheVariants.{NotQuetzal, Truncated, OtherStory, BadMemory}
use Rattle.zk_save.specs.declared.restore.RestoreError.TheVariants.{BadStack, Limit}
use Rattle.zk_state.specs.declared.refusal.Limit.TheVariants.{Frames, Words}
use Rattle.zk_save.specs.Reading.{number_of, words_of, chunks_in, content_of, first_of_frames, frames_read}
use Rattle.zk_save.specs.Loading.{memory_chunk, parts_of, is_of_story, dynamic_in, loaded, put_in_place}
use Rattle.zk_save.specs.Quetzal.{Chunk, bytes_2, bytes_3, bytes_4, chunk_bytes, frame_bytes, stack_content}
use Rattle.zk_save.specs.Quetzal.{story_content, memory_part, saved}
use Rattle.zk_save.specs.States.{WholeState, state_of, states_in, gone_back}
use Rattle.zk_state.specs.Frames.{Frame, FrameList}
use Rattle.zk_mem.specs.Fresh.{plain_setup}
use Rattle.zk_mem.specs.Map.{MemoryMap}
use Rattle.zk_mem.specs.Again.{again}

-- ---- packed bytes (Quetzal 1.4, section 3)

-- a run of zeros is one, and each other byte is one by itself
abbrev pub RunsAreCut : Type 0
RunsAreCut =
    (runs_of (0 ∷ 0 ∷ 5 ∷ 5 ∷ 0 ∷ []) ≡ Zeros 2 ∷ Byte 5 ∷ Byte 5 ∷ Zeros 1 ∷ [])
    × (runs_of (7 ∷ []) ≡ Byte 7 ∷ [])
    × (without_last_zeros (0 ∷ 5 ∷ 0 ∷ 0 ∷ []) ≡ 0 ∷ 5 ∷ [])

-- a zero and how many come after it, at most 255; zeros at the end are dropped (Quetzal 1.4, section 3)
abbrev pub BytesArePacked : Type 0
BytesArePacked =
    (packed (0 ∷ 0 ∷ 5 ∷ 0 ∷ []) ≡ 0x00 ∷ 0x01 ∷ 0x05 ∷ [])
    × (packed (0 ∷ 5 ∷ 0 ∷ 5 ∷ []) ≡ 0x00 ∷ 0x00 ∷ 0x05 ∷ 0x00 ∷ 0x00 ∷ 0x05 ∷ [])
    × (packed (replicate 257 0 ++ 1 ∷ []) ≡ 0x00 ∷ 0xff ∷ 0x00 ∷ 0x00 ∷ 0x01 ∷ [])
    × (packed (replicate 256 0 ++ 1 ∷ []) ≡ 0x00 ∷ 0xff ∷ 0x01 ∷ [])
    × (packed (replicate 255 0 ++ 1 ∷ []) ≡ 0x00 ∷ 0xfe ∷ 0x01 ∷ [])
    × (packed (replicate 512 0 ++ 1 ∷ []) ≡ 0x00 ∷ 0xff ∷ 0x00 ∷ 0xff ∷ 0x01 ∷ [])
    × (packed (0 ∷ []) ≡ [])
    × (packed (255 ∷ 1 ∷ []) ≡ 255 ∷ 1 ∷ [])

-- zeros that are missing at the end are filled in; a lone zero at the end, or more bytes than there may be, give
-- nothing (Quetzal 1.4, section 3)
abbrev pub BytesAreUnpacked : Type 0
BytesAreUnpacked =
    (unpacked 4 (0x00 ∷ 0x01 ∷ 0x05 ∷ []) ≡ Some (0 ∷ 0 ∷ 5 ∷ 0 ∷ []))
    × (unpacked 3 (0x00 ∷ 0x01 ∷ 0x05 ∷ []) ≡ Some (0 ∷ 0 ∷ 5 ∷ []))
    × (unpacked 2 (0x00 ∷ 0x01 ∷ 0x05 ∷ []) ≡ None)
    × (unpacked 4 (0x05 ∷ 0x00 ∷ 0x00 ∷ 0x00 ∷ 0x01 ∷ []) ≡ Some (5 ∷ 0 ∷ 0 ∷ 0 ∷ []))
    × (unpacked 9 (0x05 ∷ 0x00 ∷ []) ≡ None)
    × (unpacked 2 [] ≡ Some (0 ∷ 0 ∷ []))
    × (unpacked 256 (0x00 ∷ 0xff ∷ []) ≡ Some (replicate 256 0))

-- a difference turns the bits that are set in it, and leaves bytes after its end (Quetzal 1.4, section 3)
abbrev pub DifferencesAreTurned : Type 0
DifferencesAreTurned =
    (xored (0b0110 ∷ 9 ∷ 9 ∷ []) (0b0011 ∷ 0 ∷ []) ≡ 0b0101 ∷ 9 ∷ 9 ∷ [])
    × (xored (3 ∷ []) (3 ∷ 4 ∷ []) ≡ 0 ∷ [])

-- ---- states to go back to (section 6.1 of the Standard)

-- a frame without local variables, with one word
abbrev pub frame : ℕ → Frame
frame word = record { locals = []; words = word ∷ []; pc = 0; result = None; supplied = 0 }

-- frames of which there may be two with nine words together
abbrev pub frames_with : Frame → FrameList
frames_with f = record { current = f; callers = []; most_frames = 2; most_words = 9 }

-- memory of two dynamic bytes over a file of three
abbrev pub memory_with : List ℕ → MemoryMap
memory_with bytes = record { version = 3; static_base = 2; bytes = bytes; file = 1 ∷ 2 ∷ 3 ∷ []; setup = plain_setup 1 }

-- what differs from the file is kept, and gives the whole state over the file
abbrev pub DifferencesAreKept : Type 0
DifferencesAreKept =
    (states_in (1 ∷ 2 ∷ 3 ∷ [])
    (record { states = record { difference = 5 ∷ 0 ∷ []; frames = frame 7 ∷ []; pc = 9 } ∷ []; most = 1 })
    ≡ record { dynamic = 4 ∷ 2 ∷ []; frames = frame 7 ∷ []; pc = 9 } ∷ [])
    × (state_of (memory_with (4 ∷ 2 ∷ 3 ∷ [])) (frames_with (frame 7)) 9 ≡ record {
      dynamic = 4 ∷ 2 ∷ [];
      frames = frame 7 ∷ [];
      pc = 9;
    })

-- the newest state is gone back to, with its memory, its frames and its program counter, and the others are left;
-- without one there is nothing to go back to
abbrev pub NewestIsGoneBackTo : Type 0
NewestIsGoneBackTo =
    (gone_back (record { dynamic = 4 ∷ 2 ∷ []; frames = frame 7 ∷ []; pc = 9 }
    ∷ record { dynamic = 5 ∷ 5 ∷ []; frames = frame 8 ∷ []; pc = 8 } ∷ []) (memory_with (6 ∷ 6 ∷ 3 ∷ []))
    (frames_with (frame 1))
    ≡ Some (
      again (memory_with (6 ∷ 6 ∷ 3 ∷ [])) (4 ∷ 2 ∷ 3 ∷ []),
      frames_with (frame 7),
      9,
      record { dynamic = 5 ∷ 5 ∷ []; frames = frame 8 ∷ []; pc = 8 } ∷ [],
    ))
    × (gone_back [] (memory_with (6 ∷ 6 ∷ 3 ∷ [])) (frames_with (frame 1)) ≡ None)

-- ---- saved games

-- numbers have their high byte first
abbrev pub NumbersAreWritten : Type 0
NumbersAreWritten =
    (bytes_2 0x1234 ≡ 0x12 ∷ 0x34 ∷ [])
    × (bytes_3 0x123456 ≡ 0x12 ∷ 0x34 ∷ 0x56 ∷ [])
    × (bytes_4 0x12345678 ≡ 0x12 ∷ 0x34 ∷ 0x56 ∷ 0x78 ∷ [])

-- a chunk has its name, the length of its content without the padding, the content, and a zero where that is odd
abbrev pub ChunksAreWritten : Type 0
ChunksAreWritten =
    (chunk_bytes (record { name = codes "abcd"; content = 7 ∷ 8 ∷ 9 ∷ [] }) ≡ 0x61 ∷ 0x62 ∷ 0x63 ∷ 0x64 ∷ 0 ∷ 0
    ∷ 0 ∷ 3 ∷ 7 ∷ 8 ∷ 9 ∷ 0 ∷ [])
    × (chunk_bytes (record { name = codes "abcd"; content = 7 ∷ 8 ∷ [] }) ≡ 0x61 ∷ 0x62 ∷ 0x63 ∷ 0x64 ∷ 0 ∷ 0 ∷ 0
    ∷ 2 ∷ 7 ∷ 8 ∷ [])

-- a routine's frame: its return address, 16 where its result is dropped and the number of its local variables, the
-- variable of its result, a bit for each argument, the number of its words, then the local variables and the words
abbrev pub FramesAreWritten : Type 0
FramesAreWritten =
    (frame_bytes (record {
      locals = 0x0102 ∷ 0x0304 ∷ [];
      words = 0x0506 ∷ [];
      pc = 0x012345;
      result = Some 17;
      supplied = 2;
    })
    ≡ 0x01 ∷ 0x23 ∷ 0x45 ∷ 0x02 ∷ 17 ∷ 0b11 ∷ 0 ∷ 1 ∷ 1 ∷ 2 ∷ 3 ∷ 4 ∷ 5 ∷ 6 ∷ [])
    × (frame_bytes (record { locals = 9 ∷ []; words = []; pc = 66; result = None; supplied = 7 })
    ≡ 0 ∷ 0 ∷ 66 ∷ 0x11 ∷ 0 ∷ 0b1111111 ∷ 0 ∷ 0 ∷ 0 ∷ 9 ∷ [])

-- the first frame comes first, and its head is zeros, though its result goes nowhere
abbrev pub TheFirstComesFirst : Type 0
TheFirstComesFirst =
    stack_content (record { locals = []; words = 8 ∷ []; pc = 0; result = None; supplied = 0 }
    ∷ record { locals = []; words = []; pc = 66; result = Some 0; supplied = 0 } ∷ [])
    ≡ 0 ∷ 0 ∷ 0 ∷ 0 ∷ 0 ∷ 0 ∷ 0 ∷ 1 ∷ 0 ∷ 8 ∷ 0 ∷ 0 ∷ 66 ∷ 0 ∷ 0 ∷ 0 ∷ 0 ∷ 0 ∷ []

-- a file of version 3 with a serial number and a checksum, and three bytes of code
abbrev pub story_file : ℕ → List ℕ
story_file checksum =
    3 ∷ 0 ∷ 0 ∷ 9 ∷ [] ++ replicate 10 0 ++ 0 ∷ 64 ∷ 0 ∷ 0 ∷ 48 ∷ 49 ∷ 50 ∷ 51 ∷ 52 ∷ 53 ∷ [] ++ replicate 5 0
    ++ checksum ∷ [] ++ replicate 34 0 ++ 0xb5 ∷ 0xc2 ∷ 0xba ∷ []

-- the story is known by its release, its serial number and its checksum; where its header has none, by its sum
abbrev pub StoriesAreKnown : Type 0
StoriesAreKnown =
    (story_content (story_file 7) 65 ≡ 0 ∷ 9 ∷ 48 ∷ 49 ∷ 50 ∷ 51 ∷ 52 ∷ 53 ∷ 0 ∷ 7 ∷ 0 ∷ 0 ∷ 65 ∷ [])
    × (story_content (story_file 0) 65 ≡ 0 ∷ 9 ∷ 48 ∷ 49 ∷ 50 ∷ 51 ∷ 52 ∷ 53 ∷ 0x02 ∷ 0x31 ∷ 0 ∷ 0 ∷ 65 ∷ [])

-- the packed difference where it has as many bytes as dynamic memory or fewer, else dynamic memory
abbrev pub ShorterMemoryIsSaved : Type 0
ShorterMemoryIsSaved =
    (memory_part (memory_with (4 ∷ 5 ∷ 3 ∷ [])) ≡ record { name = codes "CMem"; content = 5 ∷ 7 ∷ [] })
    × (memory_part (memory_with (1 ∷ 5 ∷ 3 ∷ [])) ≡ record { name = codes "UMem"; content = 1 ∷ 5 ∷ [] })
    × (memory_part (memory_with (4 ∷ 2 ∷ 3 ∷ [])) ≡ record { name = codes "CMem"; content = 5 ∷ [] })
    × (memory_part (memory_with (1 ∷ 2 ∷ 3 ∷ [])) ≡ record { name = codes "CMem"; content = [] })

-- three bytes of dynamic memory of which the second differs from the file's, and the first frame alone
abbrev pub GamesAreSaved : Type 0
GamesAreSaved =
    saved (record {
      version = 3;
      static_base = 3;
      bytes = 3 ∷ 0x20 ∷ [] ++ drop 2 (story_file 7);
      file = story_file 7;
      setup = plain_setup 0;
    })
    (record {
      current = record { locals = []; words = []; pc = 0; result = None; supplied = 0 };
      callers = [];
      most_frames = 1;
      most_words = 0;
    }) 65
    ≡ 0x46 ∷ 0x4f ∷ 0x52 ∷ 0x4d ∷ 0 ∷ 0 ∷ 0 ∷ 0x36 ∷ 0x49 ∷ 0x46 ∷ 0x5a ∷ 0x53
    ∷ 0x49 ∷ 0x46 ∷ 0x68 ∷ 0x64 ∷ 0 ∷ 0 ∷ 0 ∷ 13 ∷ 0 ∷ 9 ∷ 48 ∷ 49 ∷ 50 ∷ 51 ∷ 52 ∷ 53 ∷ 0 ∷ 7 ∷ 0 ∷ 0 ∷ 65 ∷ 0
    ∷ 0x43 ∷ 0x4d ∷ 0x65 ∷ 0x6d ∷ 0 ∷ 0 ∷ 0 ∷ 3 ∷ 0 ∷ 0 ∷ 0x20 ∷ 0
    ∷ 0x53 ∷ 0x74 ∷ 0x6b ∷ 0x73 ∷ 0 ∷ 0 ∷ 0 ∷ 8 ∷ [] ++ replicate 8 0

-- ---- saved games that are read

-- numbers have their high byte first
abbrev pub NumbersAreRead : Type 0
NumbersAreRead =
    (number_of (0x12 ∷ 0x34 ∷ []) ≡ 0x1234)
    × (number_of (0x12 ∷ 0x34 ∷ 0x56 ∷ []) ≡ 0x123456)
    × (words_of (1 ∷ 2 ∷ 3 ∷ 4 ∷ []) ≡ 0x0102 ∷ 0x0304 ∷ [])

-- the first eight bytes of a chunk
abbrev pub head : List ℕ → ℕ → List ℕ
head name size = name ++ 0 ∷ 0 ∷ 0 ∷ size ∷ []

-- a chunk
abbrev pub chunk : List ℕ → List ℕ → Chunk
chunk name content = record { name = name; content = content }

-- after an odd length stands one byte, whatever it is, which may be missing at the end; bytes that are too few for a
-- chunk, or a chunk that passes the end, refuse all
abbrev pub ChunksAreRead : Type 0
ChunksAreRead =
    (chunks_in (head (codes "abcd") 3 ++ 7 ∷ 8 ∷ 9 ∷ 0 ∷ head (codes "efgh") 0) ≡ Some
    (chunk (codes "abcd") (7 ∷ 8 ∷ 9 ∷ []) ∷ chunk (codes "efgh") [] ∷ []))
    × (chunks_in (head (codes "abcd") 3 ++ 7 ∷ 8 ∷ 9 ∷ 5 ∷ []) ≡ Some (chunk (codes "abcd") (7 ∷ 8 ∷ 9 ∷ []) ∷ []))
    × (chunks_in (head (codes "abcd") 3 ++ 7 ∷ 8 ∷ 9 ∷ []) ≡ Some (chunk (codes "abcd") (7 ∷ 8 ∷ 9 ∷ []) ∷ []))
    × (chunks_in (head (codes "abcd") 3 ++ 7 ∷ 8 ∷ []) ≡ None)
    × (chunks_in (head (codes "abcd") 2 ++ 7 ∷ 8 ∷ 0 ∷ []) ≡ None)
    × (chunks_in (head (codes "abcd") 2 ++ 7 ∷ 8 ∷ replicate 7 0) ≡ None)
    × (chunks_in (head (codes "abcd") 3 ++ 7 ∷ 8 ∷ 9 ∷ 0 ∷ 0 ∷ []) ≡ None)
    × (chunks_in (head (codes "abcd") 2 ++ 7 ∷ 8 ∷ head (codes "efgh") 1) ≡ None)
    × (chunks_in [] ≡ Some [])

-- the bytes that say the story, and the program counter
abbrev pub story_bytes : ℕ → ℕ → List ℕ
story_bytes high low = 0 ∷ 9 ∷ 48 ∷ 49 ∷ 50 ∷ 51 ∷ 52 ∷ 53 ∷ high ∷ low ∷ 0 ∷ 0 ∷ 65 ∷ []

-- other chunks are passed over; the first chunk of a name counts alone, and the first of the two kinds of memory
abbrev pub FirstsCount : Type 0
FirstsCount =
    (content_of (codes "Stks") (chunk (codes "abcd") (1 ∷ []) ∷ chunk (codes "Stks") (2 ∷ [])
    ∷ chunk (codes "Stks") (3 ∷ []) ∷ []) ≡ Some (2 ∷ []))
    × (memory_chunk (chunk (codes "abcd") [] ∷ chunk (codes "UMem") (2 ∷ []) ∷ chunk (codes "CMem") (3 ∷ []) ∷ [])
    ≡ Some (chunk (codes "UMem") (2 ∷ [])))
    × (memory_chunk (chunk (codes "CMem") (3 ∷ []) ∷ chunk (codes "UMem") (2 ∷ []) ∷ []) ≡ Some
    (chunk (codes "CMem") (3 ∷ [])))
    × (parts_of (chunk (codes "Stks") (1 ∷ []) ∷ chunk (codes "CMem") [] ∷ chunk (codes "IFhd")
    (story_bytes 0 7 ++ 1 ∷ []) ∷ []) ≡ Ok
    (record { story = story_bytes 0 7 ++ 1 ∷ []; memory = chunk (codes "CMem") []; stack = 1 ∷ [] }))
    × (parts_of (chunk (codes "Stks") (1 ∷ []) ∷ chunk (codes "CMem") [] ∷ chunk (codes "IFhd")
    (take 12 (story_bytes 0 7)) ∷ chunk (codes "IFhd") (story_bytes 0 7) ∷ []) ≡ Err Truncated)
    × (parts_of (chunk (codes "Stks") (1 ∷ []) ∷ chunk (codes "IFhd") (story_bytes 0 7) ∷ []) ≡ Err Truncated)

-- a dropped result has no variable, whatever stands there; the arguments are those below the first bit that is clear;
-- bits without a meaning and a frame that is cut off are refused
abbrev pub FramesAreRead : Type 0
FramesAreRead =
    (first_of_frames (0x01 ∷ 0x23 ∷ 0x45 ∷ 0x12 ∷ 17 ∷ 0b101 ∷ 0 ∷ 1 ∷ 1 ∷ 2 ∷ 3 ∷ 4 ∷ 5 ∷ 6 ∷ 7 ∷ [])
    ≡ Some (
      record {
        locals = 0x0102 ∷ 0x0304 ∷ [];
        words = 0x0506 ∷ [];
        pc = 0x012345;
        result = None;
        supplied = 1;
      },
      7 ∷ [],
    ))
    × (first_of_frames (0 ∷ 0 ∷ 66 ∷ 0x00 ∷ 17 ∷ 0b1111111 ∷ 0 ∷ 0 ∷ []) ≡ Some
    (record { locals = []; words = []; pc = 66; result = Some 17; supplied = 7 }, []))
    × (first_of_frames (0 ∷ 0 ∷ 66 ∷ 0x00 ∷ 0 ∷ 0b1111110 ∷ 0 ∷ 0 ∷ []) ≡ Some
    (record { locals = []; words = []; pc = 66; result = Some 0; supplied = 0 }, []))
    × (first_of_frames (0 ∷ 0 ∷ 66 ∷ 0x20 ∷ 0 ∷ 0 ∷ 0 ∷ 0 ∷ []) ≡ None)
    × (first_of_frames (0 ∷ 0 ∷ 66 ∷ 0x00 ∷ 0 ∷ 0x80 ∷ 0 ∷ 0 ∷ []) ≡ None)
    × (first_of_frames (0 ∷ 0 ∷ 66 ∷ 0x00 ∷ 0 ∷ 0 ∷ 0 ∷ []) ≡ None)
    × (first_of_frames (0 ∷ 0 ∷ 66 ∷ 0x01 ∷ 0 ∷ 0 ∷ 0 ∷ 1 ∷ 0 ∷ 1 ∷ 0 ∷ []) ≡ None)

-- the first frame has six zeros before its words, and comes before the others
abbrev pub TheFirstIsRead : Type 0
TheFirstIsRead =
    (frames_read (0 ∷ 0 ∷ 0 ∷ 0 ∷ 0 ∷ 0 ∷ 0 ∷ 1 ∷ 0 ∷ 8 ∷ 0 ∷ 0 ∷ 66 ∷ 0 ∷ 0 ∷ 0 ∷ 0 ∷ 0 ∷ [])
    ≡ Some (record { locals = []; words = 8 ∷ []; pc = 0; result = None; supplied = 0 }
    ∷ record { locals = []; words = []; pc = 66; result = Some 0; supplied = 0 } ∷ []))
    × (frames_read (0 ∷ 0 ∷ 0 ∷ 0 ∷ 1 ∷ 0 ∷ 0 ∷ 0 ∷ []) ≡ None)
    × (frames_read (0 ∷ 0 ∷ 0 ∷ 0x10 ∷ 0 ∷ 0 ∷ 0 ∷ 0 ∷ []) ≡ None)
    × (frames_read (replicate 8 0 ++ 0 ∷ []) ≡ None)
    × (frames_read [] ≡ None)

-- a saved game is of a story by all three; where the header has no checksum, the file's sum and none are taken
abbrev pub StoriesAreMatched : Type 0
StoriesAreMatched =
    (is_of_story (story_file 7) (story_bytes 0 7) ≡ true)
    × (is_of_story (story_file 7) (story_bytes 0 8) ≡ false)
    × (is_of_story (story_file 7) (story_bytes 0 0) ≡ false)
    × (is_of_story (story_file 7) (1 ∷ drop 1 (story_bytes 0 7)) ≡ false)
    × (is_of_story (story_file 7) (take 7 (story_bytes 0 7) ++ 54 ∷ drop 8 (story_bytes 0 7)) ≡ false)
    × (is_of_story (story_file 0) (story_bytes 0x02 0x31) ≡ true)
    × (is_of_story (story_file 0) (story_bytes 0 0) ≡ true)
    × (is_of_story (story_file 0) (story_bytes 0x02 0x32) ≡ false)

-- plain memory has all bytes and no more; packed memory is turned over the story's file
abbrev pub MemoryIsRead : Type 0
MemoryIsRead =
    (dynamic_in (memory_with (9 ∷ 9 ∷ 3 ∷ [])) (chunk (codes "UMem") (5 ∷ 6 ∷ [])) ≡ Some (5 ∷ 6 ∷ []))
    × (dynamic_in (memory_with (9 ∷ 9 ∷ 3 ∷ [])) (chunk (codes "UMem") (5 ∷ [])) ≡ None)
    × (dynamic_in (memory_with (9 ∷ 9 ∷ 3 ∷ [])) (chunk (codes "UMem") (5 ∷ 6 ∷ 7 ∷ [])) ≡ None)
    × (dynamic_in (memory_with (9 ∷ 9 ∷ 3 ∷ [])) (chunk (codes "CMem") (0 ∷ 0 ∷ 6 ∷ [])) ≡ Some (1 ∷ 4 ∷ []))
    × (dynamic_in (memory_with (9 ∷ 9 ∷ 3 ∷ [])) (chunk (codes "CMem") []) ≡ Some (1 ∷ 2 ∷ []))
    × (dynamic_in (memory_with (9 ∷ 9 ∷ 3 ∷ [])) (chunk (codes "CMem") (1 ∷ 0 ∷ [])) ≡ None)
    × (dynamic_in (memory_with (9 ∷ 9 ∷ 3 ∷ [])) (chunk (codes "CMem") (1 ∷ 1 ∷ 1 ∷ [])) ≡ None)

-- a form of so many bytes
abbrev pub form_with : ℕ → List ℕ → List ℕ
form_with size chunks = codes "FORM" ++ 0 ∷ 0 ∷ 0 ∷ size ∷ codes "IFZS" ++ chunks

-- the chunk of a story, with a low byte of the checksum
abbrev pub story_chunk : ℕ → List ℕ
story_chunk low = head (codes "IFhd") 13 ++ story_bytes 0 low ++ 0 ∷ []

-- a chunk of packed memory, with a last byte
abbrev pub memory_chunk_of : ℕ → List ℕ
memory_chunk_of last = head (codes "CMem") 3 ++ 0 ∷ 0 ∷ last ∷ 0 ∷ []

-- a chunk of the first frame alone, with a byte of flags
abbrev pub stack_chunk : ℕ → List ℕ
stack_chunk flags = head (codes "Stks") 8 ++ 0 ∷ 0 ∷ 0 ∷ flags ∷ 0 ∷ 0 ∷ 0 ∷ 0 ∷ []

-- memory of a story with three bytes of dynamic memory
abbrev pub memory_of_story : MemoryMap
memory_of_story = record {
  version = 3;
  static_base = 3;
  bytes = story_file 7;
  file = story_file 7;
  setup = plain_setup 0;
}

-- what is loaded from a game
abbrev pub loaded_from : List ℕ → Result WholeState RestoreError
loaded_from file = loaded memory_of_story file

-- the state of the game
abbrev pub game_state : WholeState
game_state =
    record {
      dynamic = 3 ∷ 0x20 ∷ 0 ∷ [];
      frames = record {
        locals = [];
        words = [];
        pc = 0;
        result = None;
        supplied = 0;
      } ∷ [];
      pc = 65;
    }

-- chunks come in any order, and bytes after the form don't count; of two reasons to refuse the earlier one is told
abbrev pub GamesAreLoaded : Type 0
GamesAreLoaded =
    (loaded_from (form_with 54 (story_chunk 7 ++ memory_chunk_of 0x20 ++ stack_chunk 0)) ≡ Ok game_state)
    × (loaded_from (form_with 54 (stack_chunk 0 ++ memory_chunk_of 0x20 ++ story_chunk 7) ++ 1 ∷ 2 ∷ [])
    ≡ Ok game_state)
    × (loaded_from (replicate 11 0) ≡ Err Truncated)
    × (loaded_from (replicate 12 0) ≡ Err NotQuetzal)
    × (loaded_from (codes "FORM" ++ 0 ∷ 0 ∷ 0 ∷ 255 ∷ codes "IFZX") ≡ Err NotQuetzal)
    × (loaded_from (form_with 55 (story_chunk 7 ++ memory_chunk_of 0x20 ++ stack_chunk 0)) ≡ Err Truncated)
    × (loaded_from (form_with 3 (story_chunk 7 ++ memory_chunk_of 0x20 ++ stack_chunk 0)) ≡ Err Truncated)
    × (loaded_from (form_with 62 (story_chunk 7 ++ memory_chunk_of 0x20 ++ stack_chunk 0
    ++ head (codes "abcd") 1)) ≡ Err Truncated)
    × (loaded_from (form_with 38 (story_chunk 8 ++ memory_chunk_of 0)) ≡ Err Truncated)
    × (loaded_from (form_with 54 (story_chunk 8 ++ memory_chunk_of 0 ++ stack_chunk 0x20)) ≡ Err OtherStory)
    × (loaded_from (form_with 54 (story_chunk 7 ++ memory_chunk_of 0 ++ stack_chunk 0x20)) ≡ Err BadMemory)
    × (loaded_from (form_with 54 (story_chunk 7 ++ memory_chunk_of 0x20 ++ stack_chunk 0x20)) ≡ Err BadStack)

-- bounds on frames and words
abbrev pub within : ℕ → ℕ → FrameList
within most_frames most_words =
    record { current = frame 1; callers = []; most_frames = most_frames; most_words = most_words }

-- frames past the bounds are refused, and that there are too many is told first
abbrev pub BoundsAreKept : Type 0
BoundsAreKept =
    (put_in_place (record { dynamic = 4 ∷ 2 ∷ []; frames = frame 7 ∷ frame 8 ∷ []; pc = 9 })
    (memory_with (6 ∷ 6 ∷ 3 ∷ [])) (within 2 2)
    ≡ Ok (
      again (memory_with (6 ∷ 6 ∷ 3 ∷ [])) (4 ∷ 2 ∷ 3 ∷ []),
      record { current = frame 7; callers = frame 8 ∷ []; most_frames = 2; most_words = 2 },
      9,
    ))
    × (put_in_place (record { dynamic = 4 ∷ 2 ∷ []; frames = frame 7 ∷ frame 8 ∷ []; pc = 9 })
    (memory_with (6 ∷ 6 ∷ 3 ∷ [])) (within 1 1) ≡ Err (Limit Frames))
    × (put_in_place (record { dynamic = 4 ∷ 2 ∷ []; frames = frame 7 ∷ frame 8 ∷ []; pc = 9 })
    (memory_with (6 ∷ 6 ∷ 3 ∷ [])) (within 2 1) ≡ Err (Limit Words))
