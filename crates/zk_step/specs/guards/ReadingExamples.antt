-- Worked examples of reads and of the words of a text, by hand from the Standard.
use Rattle.std.specs.Prelude.{◌≡◌, ℕ, true, false, List, [], ◌∷◌, ◌++◌, map, Some, None, Ok, Err, codes, replicate}
use Rattle.std.specs.Prelude.{◌==◌, if◌then◌else◌}
use Rattle.zk_mem.specs.declared.fault.Fault.TheVariants.{BadAddress, ReadOnly, BadDictionary, NoSuchLocal}
use Rattle.zk_mem.specs.Map.{MemoryMap}
use Rattle.zk_code.specs.declared.instr.Instr.{Instr}
use Rattle.zk_code.specs.declared.opcode.Opcode.TheVariants as opcode
use Rattle.zk_code.specs.declared.opcode.Reading.TheVariants.{Sread, Aread, ReadChar}
use Rattle.zk_code.specs.declared.opcode.Words.TheVariants.{Tokenise, EncodeText}
use Rattle.zk_step.specs.declared.state.ending.Ending.TheVariants as ending
use Rattle.zk_step.specs.declared.state.ending.Event.TheVariants.{Line, Char}
use Rattle.zk_step.specs.declared.state.ending.Request.TheVariants as request
use Rattle.zk_step.specs.declared.state.game_state.GameState.{GameState}
use Rattle.zk_step.specs.Endings.{ends}
use Rattle.zk_step.specs.Inputs.{reading, line_answered, character_answered}
use Rattle.zk_step.specs.Terminating.{is_terminating}
use Rattle.zk_step.specs.TextBuffers.{early_line_put, later_line_put, line_put}
use Rattle.zk_step.specs.Words.{words_changed}
use Rattle.zk_step.specs.guards.Examples.{memory_of, sixteen, routine_with, working, instruction}

-- ---- lines of input (section 15, `sread` and `aread`)

-- the same memory with all of it static from an address on
abbrev pub static_from : ℕ → MemoryMap → MemoryMap
static_from base m = record m { static_base = base }

-- the same memory, whose header has the story's own dictionary at an address
abbrev pub with_dictionary_at : ℕ → MemoryMap → MemoryMap
with_dictionary_at pc m = record m { file = 0 ∷ 0 ∷ 0 ∷ 0 ∷ 0 ∷ 0 ∷ 0 ∷ 0 ∷ 0 ∷ pc ∷ [] }

-- up to version 4: letters from byte 1 on, and a zero after them, over what was there; byte 0, here at 2, is 4, and
-- there is room for three letters (section 15, `sread`)
abbrev pub EarlyLinesEndWithAZero : Type 0
EarlyLinesEndWithAZero =
    (early_line_put (memory_of 3 (7 ∷ 8 ∷ 4 ∷ 99 ∷ 99 ∷ 99 ∷ 99 ∷ 99 ∷ [])) 2 (codes "NORTH") ≡ Ok
    (memory_of 3 (7 ∷ 8 ∷ 4 ∷ codes "nor" ++ 0 ∷ 99 ∷ [])))
    × (early_line_put (memory_of 4 (9 ∷ 99 ∷ 99 ∷ 99 ∷ 99 ∷ [])) 0 (codes "Go") ≡ Ok
    (memory_of 4 (9 ∷ codes "go" ++ 0 ∷ 99 ∷ [])))
    × (early_line_put (memory_of 3 (6 ∷ 97 ∷ 98 ∷ 0 ∷ 99 ∷ [])) 0 (codes "x") ≡ Ok
    (memory_of 3 (6 ∷ 120 ∷ 0 ∷ 0 ∷ 99 ∷ [])))

-- 2 is room for one letter, 1 and 0 are room for none; an empty line is a zero at byte 1 (section 15, `sread`)
abbrev pub EarlyRoomIsOneLess : Type 0
EarlyRoomIsOneLess =
    (early_line_put (memory_of 3 (2 ∷ 99 ∷ 99 ∷ 99 ∷ [])) 0 (codes "go") ≡ Ok (memory_of 3 (2 ∷ 103 ∷ 0 ∷ 99 ∷ [])))
    × (early_line_put (memory_of 3 (1 ∷ 99 ∷ 99 ∷ 99 ∷ [])) 0 (codes "go") ≡ Ok (memory_of 3 (1 ∷ 0 ∷ 99 ∷ 99 ∷ [])))
    × (early_line_put (memory_of 3 (0 ∷ 99 ∷ 99 ∷ 99 ∷ [])) 0 (codes "go") ≡ Ok (memory_of 3 (0 ∷ 0 ∷ 99 ∷ 99 ∷ [])))
    × (early_line_put (memory_of 3 (5 ∷ 99 ∷ 99 ∷ 99 ∷ [])) 0 [] ≡ Ok (memory_of 3 (5 ∷ 0 ∷ 99 ∷ 99 ∷ [])))

-- from version 5 on: letters from byte 2 on, and how many in byte 1; byte 0, here at 1, is 3, and there is room for
-- three letters (section 15, `aread`)
abbrev pub LaterLinesAreCounted : Type 0
LaterLinesAreCounted =
    (later_line_put (memory_of 5 (7 ∷ 3 ∷ 0 ∷ 99 ∷ 99 ∷ 99 ∷ 99 ∷ [])) 1 (codes "NORTH") ≡ Ok
    (memory_of 5 (7 ∷ 3 ∷ 3 ∷ codes "nor" ++ 99 ∷ [])))
    × (later_line_put (memory_of 5 (9 ∷ 0 ∷ 99 ∷ 99 ∷ 99 ∷ [])) 0 (codes "Go") ≡ Ok
    (memory_of 5 (9 ∷ 2 ∷ codes "go" ++ 99 ∷ [])))
    × (later_line_put (memory_of 8 (1 ∷ 0 ∷ 99 ∷ 99 ∷ [])) 0 (codes "go") ≡ Ok (memory_of 8 (1 ∷ 1 ∷ 103 ∷ 99 ∷ [])))

-- a line goes on after the letters that are there: `go` becomes `gonor` where there is room for five, and `got` where
-- there is room for three (section 15, `aread`)
abbrev pub LaterLinesGoOn : Type 0
LaterLinesGoOn =
    (later_line_put (memory_of 5 (5 ∷ 2 ∷ 0x67 ∷ 0x6f ∷ 0 ∷ 0 ∷ 0 ∷ [])) 0 (codes "NORTH") ≡ Ok
    (memory_of 5 (5 ∷ 5 ∷ 0x67 ∷ 0x6f ∷ 0x6e ∷ 0x6f ∷ 0x72 ∷ [])))
    × (later_line_put (memory_of 5 (3 ∷ 2 ∷ 0x67 ∷ 0x6f ∷ 9 ∷ 9 ∷ [])) 0 (codes "to") ≡ Ok
    (memory_of 5 (3 ∷ 3 ∷ 0x67 ∷ 0x6f ∷ 0x74 ∷ 9 ∷ [])))

-- letters that fill the buffer, or are more than it has room for, stay as they are; no byte is stored, so that static
-- memory is no fault (section 15, `aread`)
abbrev pub FullBuffersStay : Type 0
FullBuffersStay =
    (later_line_put (memory_of 5 (2 ∷ 2 ∷ 0x67 ∷ 0x6f ∷ [])) 0 (codes "X") ≡ Ok
    (memory_of 5 (2 ∷ 2 ∷ 0x67 ∷ 0x6f ∷ [])))
    × (later_line_put (static_from 0 (memory_of 5 (2 ∷ 2 ∷ 0x67 ∷ 0x6f ∷ []))) 0 (codes "X") ≡ Ok
    (static_from 0 (memory_of 5 (2 ∷ 2 ∷ 0x67 ∷ 0x6f ∷ []))))
    × (later_line_put (static_from 0 (memory_of 5 (1 ∷ 3 ∷ 9 ∷ 9 ∷ 9 ∷ 9 ∷ []))) 0 (codes "X") ≡ Ok
    (static_from 0 (memory_of 5 (1 ∷ 3 ∷ 9 ∷ 9 ∷ 9 ∷ 9 ∷ []))))
    × (later_line_put (static_from 0 (memory_of 5 (0 ∷ 1 ∷ 9 ∷ []))) 0 [] ≡ Ok
    (static_from 0 (memory_of 5 (0 ∷ 1 ∷ 9 ∷ []))))

-- in every other case the count is stored, also where it does not change: of an empty line, after letters or none,
-- and where there is room for none (section 15, `aread`)
abbrev pub CountsAreStored : Type 0
CountsAreStored =
    (later_line_put (memory_of 5 (5 ∷ 0 ∷ 9 ∷ 9 ∷ [])) 0 [] ≡ Ok (memory_of 5 (5 ∷ 0 ∷ 9 ∷ 9 ∷ [])))
    × (later_line_put (static_from 1 (memory_of 5 (5 ∷ 0 ∷ 9 ∷ 9 ∷ []))) 0 [] ≡ Err ReadOnly)
    × (later_line_put (memory_of 5 (5 ∷ 2 ∷ 9 ∷ 9 ∷ [])) 0 [] ≡ Ok (memory_of 5 (5 ∷ 2 ∷ 9 ∷ 9 ∷ [])))
    × (later_line_put (static_from 1 (memory_of 5 (5 ∷ 2 ∷ 9 ∷ 9 ∷ []))) 0 [] ≡ Err ReadOnly)
    × (later_line_put (memory_of 5 (0 ∷ 0 ∷ 9 ∷ 9 ∷ [])) 0 (codes "go") ≡ Ok (memory_of 5 (0 ∷ 0 ∷ 9 ∷ 9 ∷ [])))
    × (later_line_put (static_from 1 (memory_of 5 (0 ∷ 0 ∷ 9 ∷ 9 ∷ []))) 0 (codes "go") ≡ Err ReadOnly)

-- version 5 with a Unicode table of its own, of one word, at 12; the header extension at 4 names it
abbrev pub with_own_characters : List ℕ → MemoryMap
with_own_characters text =
    record (memory_of 5 (text ++ 0 ∷ 3 ∷ 0 ∷ 0 ∷ 0 ∷ 0 ∷ 0 ∷ 12 ∷ 1 ∷ 0x04 ∷ 0x16 ∷ []))
    { file = 5 ∷ replicate 53 0 ++ 0 ∷ 4 ∷ [] }

-- A, Z and the capital A with a diaeresis, 158, are stored in lower case, 97, 122 and 155; what stands beside the
-- capitals stays, and where the story has a Unicode table of its own 158 stays too (sections 3.8.5.3 and 15, `sread`)
abbrev pub LinesAreLowered : Type 0
LinesAreLowered =
    (early_line_put (memory_of 3 (6 ∷ replicate 6 99)) 0 (64 ∷ 65 ∷ 90 ∷ 91 ∷ 0x9e ∷ []) ≡ Ok
    (memory_of 3 (6 ∷ 64 ∷ 97 ∷ 122 ∷ 91 ∷ 0x9b ∷ 0 ∷ [])))
    × (later_line_put (memory_of 5 (6 ∷ 0 ∷ replicate 5 99)) 0 (64 ∷ 65 ∷ 90 ∷ 91 ∷ 0x9e ∷ []) ≡ Ok
    (memory_of 5 (6 ∷ 5 ∷ 64 ∷ 97 ∷ 122 ∷ 91 ∷ 0x9b ∷ [])))
    × (later_line_put (with_own_characters (9 ∷ 0 ∷ 99 ∷ 99 ∷ [])) 0 (0x9e ∷ 65 ∷ []) ≡ Ok
    (with_own_characters (9 ∷ 2 ∷ 0x9e ∷ 97 ∷ [])))

-- version 3: byte 0 is read, then the letters are stored one after the other, then the zero; the first byte that lies
-- in static memory or past data decides (sections 1.1.1 and 15, `sread`)
abbrev pub EarlyLinesInOrder : Type 0
EarlyLinesInOrder =
    (early_line_put (static_from 0 (memory_of 3 (9 ∷ 9 ∷ []))) 2 (codes "go") ≡ Err BadAddress)
    × (early_line_put (memory_of 3 (9 ∷ 9 ∷ 9 ∷ [])) 0 (codes "go") ≡ Err BadAddress)
    × (early_line_put (memory_of 3 (9 ∷ 9 ∷ [])) 0 (codes "go") ≡ Err BadAddress)
    × (early_line_put (static_from 2 (memory_of 3 (9 ∷ 9 ∷ 9 ∷ []))) 0 (codes "gone") ≡ Err ReadOnly)
    × (early_line_put (static_from 3 (memory_of 3 (9 ∷ 9 ∷ 9 ∷ 9 ∷ []))) 0 (codes "go") ≡ Err ReadOnly)
    × (early_line_put (static_from 4 (memory_of 3 (9 ∷ 9 ∷ 9 ∷ 9 ∷ []))) 0 (codes "go") ≡ Ok
    (static_from 4 (memory_of 3 (9 ∷ codes "go" ++ 0 ∷ []))))

-- version 5: both bytes are read, then the letters are stored one after the other, then the count: where it lies in
-- static memory, a letter past data still goes first (sections 1.1.1 and 15, `aread`)
abbrev pub LaterLinesInOrder : Type 0
LaterLinesInOrder =
    (later_line_put (static_from 0 (memory_of 5 (9 ∷ 9 ∷ []))) 2 (codes "go") ≡ Err BadAddress)
    × (later_line_put (static_from 0 (memory_of 5 (9 ∷ []))) 0 [] ≡ Err BadAddress)
    × (later_line_put (static_from 1 (memory_of 5 (9 ∷ 0 ∷ []))) 0 (codes "g") ≡ Err BadAddress)
    × (later_line_put (static_from 3 (memory_of 5 (9 ∷ 0 ∷ 9 ∷ 9 ∷ []))) 0 (codes "gone") ≡ Err ReadOnly)
    × (later_line_put (static_from 4 (memory_of 5 (9 ∷ 0 ∷ 9 ∷ 9 ∷ []))) 0 (codes "go") ≡ Ok
    (static_from 4 (memory_of 5 (9 ∷ 2 ∷ codes "go"))))

-- version 3: a text buffer at 0 with room for 15 letters, a parse buffer at 17, and at 31 a dictionary whose separator
-- is a comma, without entries
abbrev pub with_fishing : List ℕ → List ℕ → MemoryMap
with_fishing text parse = with_dictionary_at 31 (memory_of 3 (16 ∷ text ++ parse ++ 1 ∷ 44 ∷ 4 ∷ 0 ∷ 0 ∷ []))

-- up to version 4: a text buffer at 0 with room for three letters, a parse buffer at 4, and at 10 a dictionary with one
-- entry, at 14
abbrev pub early_buffers : ℕ → List ℕ → List ℕ → List ℕ → MemoryMap
early_buffers version entry text parse =
    with_dictionary_at 10 (memory_of version (4 ∷ text ++ parse ++ 0 ∷ (if version == 3 then 4 else 6) ∷ 0 ∷ 1 ∷ entry))

-- version 5: a text buffer at 0, a parse buffer at 6, and at 12 a dictionary, whose one entry, at 16, is `go`
abbrev pub later_buffers : List ℕ → List ℕ → MemoryMap
later_buffers text parse =
    with_dictionary_at 12 (memory_of 5 (text ++ parse ++ 0 ∷ 6 ∷ 0 ∷ 1 ∷ 0x32 ∷ 0x85 ∷ 0x14 ∷ 0xa5 ∷ 0x94 ∷ 0xa5 ∷ []))

-- the words of `fred,go fishing`, of which three have room; and `go`, which the dictionary has, is found in lower case
-- (section 15, `sread`)
abbrev pub EarlyLinesAreDivided : Type 0
EarlyLinesAreDivided =
    (line_put (with_fishing (replicate 16 9) (3 ∷ replicate 13 9)) 0 17 (codes "fred,go fishing")
    ≡ Ok (with_fishing (codes "fred,go fishing" ++ 0 ∷ []) (3 ∷ 3 ∷ 0 ∷ 0 ∷ 4 ∷ 1 ∷ 0 ∷ 0 ∷ 1 ∷ 5 ∷ 0 ∷ 0
    ∷ 2 ∷ 6 ∷ [])))
    × (line_put (early_buffers 3 (0x32 ∷ 0x85 ∷ 0x94 ∷ 0xa5 ∷ []) (9 ∷ 9 ∷ 9 ∷ []) (1 ∷ 9 ∷ 9 ∷ 9 ∷ 9 ∷ 9 ∷ [])) 0
    4 (codes "GO")
    ≡ Ok (early_buffers 3 (0x32 ∷ 0x85 ∷ 0x94 ∷ 0xa5 ∷ []) (103 ∷ 111 ∷ 0 ∷ []) (1 ∷ 1 ∷ 0 ∷ 14 ∷ 2 ∷ 1 ∷ [])))
    × (line_put (early_buffers 4 (0x32 ∷ 0x85 ∷ 0x14 ∷ 0xa5 ∷ 0x94 ∷ 0xa5 ∷ []) (9 ∷ 9 ∷ 9 ∷ [])
    (1 ∷ 9 ∷ 9 ∷ 9 ∷ 9 ∷ 9 ∷ [])) 0 4 (codes "GO")
    ≡ Ok (early_buffers 4 (0x32 ∷ 0x85 ∷ 0x14 ∷ 0xa5 ∷ 0x94 ∷ 0xa5 ∷ []) (103 ∷ 111 ∷ 0 ∷ [])
    (1 ∷ 1 ∷ 0 ∷ 14 ∷ 2 ∷ 1 ∷ [])))

-- version 5: a whole line, one that goes on after a letter, none in a full buffer, whose letters are divided all the
-- same, and one that the dictionary does not have (section 15, `aread`)
abbrev pub LaterLinesAreDivided : Type 0
LaterLinesAreDivided =
    (line_put (later_buffers (4 ∷ 0 ∷ 9 ∷ 9 ∷ 9 ∷ 9 ∷ []) (1 ∷ 9 ∷ 9 ∷ 9 ∷ 9 ∷ 9 ∷ [])) 0 6 (codes "GO")
    ≡ Ok (later_buffers (4 ∷ 2 ∷ 103 ∷ 111 ∷ 9 ∷ 9 ∷ []) (1 ∷ 1 ∷ 0 ∷ 16 ∷ 2 ∷ 2 ∷ [])))
    × (line_put (later_buffers (4 ∷ 1 ∷ 103 ∷ 9 ∷ 9 ∷ 9 ∷ []) (1 ∷ 9 ∷ 9 ∷ 9 ∷ 9 ∷ 9 ∷ [])) 0 6 (codes "O")
    ≡ Ok (later_buffers (4 ∷ 2 ∷ 103 ∷ 111 ∷ 9 ∷ 9 ∷ []) (1 ∷ 1 ∷ 0 ∷ 16 ∷ 2 ∷ 2 ∷ [])))
    × (line_put (later_buffers (2 ∷ 2 ∷ 103 ∷ 111 ∷ 9 ∷ 9 ∷ []) (1 ∷ 9 ∷ 9 ∷ 9 ∷ 9 ∷ 9 ∷ [])) 0 6 (codes "X")
    ≡ Ok (later_buffers (2 ∷ 2 ∷ 103 ∷ 111 ∷ 9 ∷ 9 ∷ []) (1 ∷ 1 ∷ 0 ∷ 16 ∷ 2 ∷ 2 ∷ [])))
    × (line_put (later_buffers (4 ∷ 0 ∷ 9 ∷ 9 ∷ 9 ∷ 9 ∷ []) (1 ∷ 9 ∷ 9 ∷ 9 ∷ 9 ∷ 9 ∷ [])) 0 6 (codes "X")
    ≡ Ok (later_buffers (4 ∷ 1 ∷ 120 ∷ 9 ∷ 9 ∷ 9 ∷ []) (1 ∷ 1 ∷ 0 ∷ 0 ∷ 1 ∷ 2 ∷ [])))

-- a parse buffer at 0: in version 5 there is none, and no dictionary is asked for; in versions 3 and 4 it stands at 0,
-- before a text buffer at 6 and a dictionary at 10 (section 15, `aread`)
abbrev pub ParseBufferAtZero : Type 0
ParseBufferAtZero =
    (line_put (with_dictionary_at 99 (memory_of 5 (3 ∷ 0 ∷ 9 ∷ 9 ∷ 9 ∷ []))) 0 0 (codes "Go") ≡ Ok
    (with_dictionary_at 99 (memory_of 5 (3 ∷ 2 ∷ 103 ∷ 111 ∷ 9 ∷ []))))
    × (line_put (with_dictionary_at 10 (memory_of 3 (1 ∷ 9 ∷ 9 ∷ 9 ∷ 9 ∷ 9 ∷ 4 ∷ 9 ∷ 9 ∷ 9 ∷ 0 ∷ 4 ∷ 0 ∷ 0 ∷ [])))
    6 0 (codes "Go")
    ≡ Ok (with_dictionary_at 10 (memory_of 3 (1 ∷ 1 ∷ 0 ∷ 0 ∷ 2 ∷ 1 ∷ 4 ∷ 103 ∷ 111 ∷ 0 ∷ 0 ∷ 4 ∷ 0 ∷ 0 ∷ []))))
    × (line_put (with_dictionary_at 10 (memory_of 4 (1 ∷ 9 ∷ 9 ∷ 9 ∷ 9 ∷ 9 ∷ 4 ∷ 9 ∷ 9 ∷ 9 ∷ 0 ∷ 6 ∷ 0 ∷ 0 ∷ [])))
    6 0 (codes "Go")
    ≡ Ok (with_dictionary_at 10 (memory_of 4 (1 ∷ 1 ∷ 0 ∷ 0 ∷ 2 ∷ 1 ∷ 4 ∷ 103 ∷ 111 ∷ 0 ∷ 0 ∷ 6 ∷ 0 ∷ 0 ∷ []))))

-- a line is stored, then the dictionary is read, also where there are no words, then the text, then the parse buffer:
-- the first that can't be decides (section 15, `sread` and `aread`)
abbrev pub LinesAreAnsweredInOrder : Type 0
LinesAreAnsweredInOrder =
    (line_put (with_dictionary_at 99 (memory_of 3 (9 ∷ 9 ∷ []))) 0 0 (codes "go") ≡ Err BadAddress)
    × (line_put (with_dictionary_at 99 (memory_of 3 (9 ∷ 9 ∷ []))) 0 0 [] ≡ Err BadDictionary)
    × (line_put (with_dictionary_at 99 (static_from 1 (memory_of 5 (9 ∷ 0 ∷ [])))) 0 50 [] ≡ Err ReadOnly)
    × (line_put (with_dictionary_at 99 (memory_of 5 (9 ∷ 0 ∷ []))) 0 50 [] ≡ Err BadDictionary)
    × (line_put (with_dictionary_at 99 (memory_of 5 (2 ∷ 5 ∷ 103 ∷ []))) 0 1 [] ≡ Err BadDictionary)
    × (line_put (with_dictionary_at 0 (static_from 0 (memory_of 5 (0 ∷ 6 ∷ 0 ∷ 0 ∷ 2 ∷ 5 ∷ 103 ∷ [])))) 4 1
    [] ≡ Err BadAddress)
    × (line_put (with_dictionary_at 2 (memory_of 5 (9 ∷ 0 ∷ 0 ∷ 6 ∷ 0 ∷ 0 ∷ []))) 0 50 [] ≡ Err BadAddress)
    × (line_put (with_dictionary_at 2 (static_from 2 (memory_of 5 (9 ∷ 0 ∷ 0 ∷ 6 ∷ 0 ∷ 0 ∷ [])))) 0 2 [] ≡ Err ReadOnly)

-- ---- words on demand (section 15, `tokenise` and `encode_text`)

-- version 5: the text `go` at 0, a parse buffer at 4, at 10 the story's own dictionary, whose one entry, at 14, is
-- `go`, and at 20 another without entries
abbrev pub with_two_dictionaries : List ℕ → MemoryMap
with_two_dictionaries parse =
    with_dictionary_at 10 (memory_of 5 (4 ∷ 2 ∷ 103 ∷ 111 ∷ parse ++ 0 ∷ 6 ∷ 0 ∷ 1 ∷ 0x32 ∷ 0x85 ∷ 0x14 ∷ 0xa5
    ∷ 0x94 ∷ 0xa5 ∷ 0 ∷ 6 ∷ 0 ∷ 0 ∷ []))

-- operands: a text, a parse buffer, a dictionary and a flag; where the dictionary is 0 or not there, it is the story's
-- own, and that one alone has `go`; a parse buffer at 0 stands there (section 15, `tokenise`)
abbrev pub TokeniseByADictionary : Type 0
TokeniseByADictionary =
    (words_changed Tokenise (with_two_dictionaries (2 ∷ 9 ∷ 9 ∷ 9 ∷ 9 ∷ 9 ∷ [])) (0 ∷ 4 ∷ []) ≡ Ok
    (with_two_dictionaries (2 ∷ 1 ∷ 0 ∷ 14 ∷ 2 ∷ 2 ∷ [])))
    × (words_changed Tokenise (with_two_dictionaries (2 ∷ 9 ∷ 9 ∷ 9 ∷ 9 ∷ 9 ∷ [])) (0 ∷ 4 ∷ 0 ∷ []) ≡ Ok
    (with_two_dictionaries (2 ∷ 1 ∷ 0 ∷ 14 ∷ 2 ∷ 2 ∷ [])))
    × (words_changed Tokenise (with_two_dictionaries (2 ∷ 9 ∷ 9 ∷ 9 ∷ 9 ∷ 9 ∷ [])) (0 ∷ 4 ∷ 20 ∷ []) ≡ Ok
    (with_two_dictionaries (2 ∷ 1 ∷ 0 ∷ 0 ∷ 2 ∷ 2 ∷ [])))
    × (words_changed Tokenise (with_dictionary_at 99 (with_two_dictionaries (2 ∷ 9 ∷ 9 ∷ 9 ∷ 9 ∷ 9 ∷ [])))
    (0 ∷ 4 ∷ 10 ∷ []) ≡ Ok (with_dictionary_at 99 (with_two_dictionaries (2 ∷ 1 ∷ 0 ∷ 14 ∷ 2 ∷ 2 ∷ []))))
    × (words_changed Tokenise (with_dictionary_at 99 (with_two_dictionaries (2 ∷ 9 ∷ 9 ∷ 9 ∷ 9 ∷ 9 ∷ [])))
    (0 ∷ 4 ∷ []) ≡ Err BadDictionary)
    × (words_changed Tokenise (memory_of 5 (1 ∷ 9 ∷ 9 ∷ 9 ∷ 9 ∷ 9 ∷ 4 ∷ 1 ∷ 103 ∷ 0 ∷ 6 ∷ 0 ∷ 0 ∷ []))
    (6 ∷ 0 ∷ 9 ∷ []) ≡ Ok (memory_of 5 (1 ∷ 1 ∷ 0 ∷ 0 ∷ 1 ∷ 2 ∷ 4 ∷ 1 ∷ 103 ∷ 0 ∷ 6 ∷ 0 ∷ 0 ∷ [])))

-- any flag but 0 leaves the block of an unknown word as it is, and the word counts; a known word is stored all the same
-- (section 15, `tokenise`)
abbrev pub TokeniseByAFlag : Type 0
TokeniseByAFlag =
    (words_changed Tokenise (with_two_dictionaries (2 ∷ 9 ∷ 9 ∷ 9 ∷ 9 ∷ 9 ∷ [])) (0 ∷ 4 ∷ 20 ∷ 0 ∷ []) ≡ Ok
    (with_two_dictionaries (2 ∷ 1 ∷ 0 ∷ 0 ∷ 2 ∷ 2 ∷ [])))
    × (words_changed Tokenise (with_two_dictionaries (2 ∷ 9 ∷ 9 ∷ 9 ∷ 9 ∷ 9 ∷ [])) (0 ∷ 4 ∷ 20 ∷ 1 ∷ []) ≡ Ok
    (with_two_dictionaries (2 ∷ 1 ∷ 9 ∷ 9 ∷ 9 ∷ 9 ∷ [])))
    × (words_changed Tokenise (with_two_dictionaries (2 ∷ 9 ∷ 9 ∷ 9 ∷ 9 ∷ 9 ∷ [])) (0 ∷ 4 ∷ 20 ∷ 256 ∷ []) ≡ Ok
    (with_two_dictionaries (2 ∷ 1 ∷ 9 ∷ 9 ∷ 9 ∷ 9 ∷ [])))
    × (words_changed Tokenise (with_two_dictionaries (2 ∷ 9 ∷ 9 ∷ 9 ∷ 9 ∷ 9 ∷ [])) (0 ∷ 4 ∷ 0 ∷ 1 ∷ []) ≡ Ok
    (with_two_dictionaries (2 ∷ 1 ∷ 0 ∷ 14 ∷ 2 ∷ 2 ∷ [])))

-- operands: a text, a length, where in the text the letters begin, and where the key goes; the letters are taken as
-- they stand: `i`, and `I`, which is of the second alphabet; also where the key goes over them (section 15,
-- `encode_text`)
abbrev pub KeysAreStored : Type 0
KeysAreStored =
    (words_changed EncodeText (memory_of 5 (105 ∷ 9 ∷ 9 ∷ 9 ∷ 9 ∷ 9 ∷ 9 ∷ 9 ∷ [])) (0 ∷ 1 ∷ 0 ∷ 1 ∷ []) ≡ Ok
    (memory_of 5 (105 ∷ 0x38 ∷ 0xa5 ∷ 0x14 ∷ 0xa5 ∷ 0x94 ∷ 0xa5 ∷ 9 ∷ [])))
    × (words_changed EncodeText (memory_of 5 (replicate 6 9 ++ codes "xxix")) (6 ∷ 1 ∷ 2 ∷ 0 ∷ []) ≡ Ok
    (memory_of 5 (0x38 ∷ 0xa5 ∷ 0x14 ∷ 0xa5 ∷ 0x94 ∷ 0xa5 ∷ codes "xxix")))
    × (words_changed EncodeText (memory_of 5 (replicate 6 9 ++ codes "I")) (6 ∷ 1 ∷ 0 ∷ 0 ∷ []) ≡ Ok
    (memory_of 5 (0x11 ∷ 0xc5 ∷ 0x14 ∷ 0xa5 ∷ 0x94 ∷ 0xa5 ∷ codes "I")))
    × (words_changed EncodeText (memory_of 5 (codes "gogogo")) (0 ∷ 2 ∷ 4 ∷ 0 ∷ []) ≡ Ok
    (memory_of 5 (0x32 ∷ 0x85 ∷ 0x14 ∷ 0xa5 ∷ 0x94 ∷ 0xa5 ∷ [])))

-- no letters are nine fives; of more than nine letters the first nine make the key (section 15, `encode_text`)
abbrev pub KeysOfAnyLength : Type 0
KeysOfAnyLength =
    (words_changed EncodeText (memory_of 5 (replicate 6 9 ++ codes "ab")) (6 ∷ 0 ∷ 0 ∷ 0 ∷ []) ≡ Ok
    (memory_of 5 (0x14 ∷ 0xa5 ∷ 0x14 ∷ 0xa5 ∷ 0x94 ∷ 0xa5 ∷ codes "ab")))
    × (words_changed EncodeText (memory_of 5 (replicate 6 9 ++ codes "abcdefghijk")) (6 ∷ 11 ∷ 0 ∷ 0 ∷ []) ≡ Ok
    (memory_of 5 (0x18 ∷ 0xe8 ∷ 0x25 ∷ 0x4b ∷ 0xb1 ∷ 0xae ∷ codes "abcdefghijk")))
    × (words_changed EncodeText (memory_of 5 (replicate 6 9 ++ codes "ab")) (65535 ∷ 0 ∷ 1 ∷ 0 ∷ []) ≡ Ok
    (memory_of 5 (0x14 ∷ 0xa5 ∷ 0x14 ∷ 0xa5 ∷ 0x94 ∷ 0xa5 ∷ codes "ab")))

-- each letter is read before the first byte of the key is stored, the tenth too, and the place where they begin is an
-- exact sum; then the key's bytes are stored one after the other (section 15, `encode_text`)
abbrev pub KeysInOrder : Type 0
KeysInOrder =
    (words_changed EncodeText (memory_of 5 (replicate 6 9 ++ codes "abcdefghi")) (6 ∷ 10 ∷ 0 ∷ 0 ∷ []) ≡ Err BadAddress)
    × (words_changed EncodeText (static_from 0 (memory_of 5 (replicate 6 9 ++ codes "ab")))
    (6 ∷ 3 ∷ 0 ∷ 0 ∷ []) ≡ Err BadAddress)
    × (words_changed EncodeText (memory_of 5 (replicate 6 9 ++ codes "ab")) (65535 ∷ 1 ∷ 1 ∷ 0 ∷ []) ≡ Err BadAddress)
    × (words_changed EncodeText (static_from 0 (memory_of 5 (replicate 6 9 ++ codes "ab")))
    (6 ∷ 2 ∷ 0 ∷ 0 ∷ []) ≡ Err ReadOnly)
    × (words_changed EncodeText (static_from 3 (memory_of 5 (replicate 5 9))) (0 ∷ 0 ∷ 0 ∷ 0 ∷ []) ≡ Err ReadOnly)
    × (words_changed EncodeText (memory_of 5 (replicate 5 9)) (0 ∷ 0 ∷ 0 ∷ 0 ∷ []) ≡ Err BadAddress)

-- ---- reads and their answers (section 15, `sread`, `aread` and `read_char`)

-- `sread` and `aread` wait for a line, into their first two operands, of which the second may not be there; `read_char`
-- waits for a character (section 15)
abbrev pub ReadsWait : Type 0
ReadsWait =
    (reading Sread (7 ∷ 8 ∷ []) ≡ ends (ending.Asks (request.Answer (Line 7 8))))
    × (reading Aread (7 ∷ 8 ∷ 9 ∷ 10 ∷ []) ≡ ends (ending.Asks (request.Answer (Line 7 8))))
    × (reading Aread (7 ∷ []) ≡ ends (ending.Asks (request.Answer (Line 7 0))))
    × (reading ReadChar (1 ∷ []) ≡ ends (ending.Asks (request.Answer Char)))

-- a read of a line that stores into a variable
abbrev pub read_into : ℕ → Instr
read_into v = instruction (opcode.Reading Aread) [] (Some v) None

-- a memory, and a routine with one local variable
abbrev pub reader : MemoryMap → ℕ → GameState
reader memory local = working memory (routine_with (local ∷ []) [] None) []

-- from version 5 on the line is stored and then the code that ended it, 13 for a new line and 133 for the key F1: into
-- local variable 1, or on the stack; no variable is looked for before the line is stored (section 15, `aread`)
abbrev pub LinesGiveTheirEnd : Type 0
LinesGiveTheirEnd =
    (line_answered (reader (memory_of 5 (3 ∷ 0 ∷ 9 ∷ 9 ∷ 9 ∷ [])) 11) (read_into 1) 0 0 (codes "Go") 13 ≡ Ok
    (reader (memory_of 5 (3 ∷ 2 ∷ 103 ∷ 111 ∷ 9 ∷ [])) 13, 9))
    × (line_answered (reader (memory_of 5 (3 ∷ 0 ∷ 9 ∷ 9 ∷ 9 ∷ [])) 11) (read_into 1) 0 0 (codes "Go") 133 ≡ Ok
    (reader (memory_of 5 (3 ∷ 2 ∷ 103 ∷ 111 ∷ 9 ∷ [])) 133, 9))
    × (line_answered (reader (memory_of 8 (3 ∷ 0 ∷ 9 ∷ 9 ∷ 9 ∷ [])) 11) (read_into 0) 0 0 (codes "Go") 13 ≡ Ok
    (working (memory_of 8 (3 ∷ 2 ∷ 103 ∷ 111 ∷ 9 ∷ [])) (routine_with (11 ∷ []) (13 ∷ []) None) [], 9))
    × (line_answered (reader (memory_of 5 (3 ∷ 0 ∷ 9 ∷ 9 ∷ 9 ∷ [])) 11) (read_into 2) 0 0 (codes "Go") 13 ≡ Err
    NoSuchLocal)
    × (line_answered (reader (memory_of 5 (3 ∷ 0 ∷ 9 ∷ 9 ∷ 9 ∷ [])) 11) (read_into 2) 5 0 (codes "Go") 13 ≡ Err
    BadAddress)

-- the first global variable stands at 4, in the text buffer at 3: 13 is stored after the line (section 15, `aread`)
abbrev pub LinesBeforeTheirResult : Type 0
LinesBeforeTheirResult =
    line_answered (reader (memory_of 5 (0 ∷ 0 ∷ 0 ∷ 4 ∷ 0 ∷ 9 ∷ 9 ∷ 9 ∷ [])) 11) (read_into 16) 3 0
    (codes "Go") 13 ≡ Ok (reader (memory_of 5 (0 ∷ 0 ∷ 0 ∷ 4 ∷ 0 ∷ 13 ∷ 111 ∷ 9 ∷ [])) 11, 9)

-- up to version 4 a line gives nothing (section 15, `sread`)
abbrev pub EarlyLinesGiveNothing : Type 0
EarlyLinesGiveNothing =
    (line_answered (reader (early_buffers 3 (0x32 ∷ 0x85 ∷ 0x94 ∷ 0xa5 ∷ []) (9 ∷ 9 ∷ 9 ∷ [])
    (1 ∷ 9 ∷ 9 ∷ 9 ∷ 9 ∷ 9 ∷ [])) 11) (read_into 1) 0 4 (codes "GO") 13
    ≡ Ok (
      reader (early_buffers 3 (0x32 ∷ 0x85 ∷ 0x94 ∷ 0xa5 ∷ []) (103 ∷ 111 ∷ 0 ∷ [])
          (1 ∷ 1 ∷ 0 ∷ 14 ∷ 2 ∷ 1 ∷ [])) 11,
      9,
    ))
    × (line_answered (reader (early_buffers 4 (replicate 6 9) (9 ∷ 9 ∷ 9 ∷ []) (1 ∷ 9 ∷ 9 ∷ 9 ∷ 9 ∷ 9 ∷ [])) 11)
    (read_into 1) 0 4 [] 133
    ≡ Ok (reader (early_buffers 4 (replicate 6 9) (0 ∷ 9 ∷ 9 ∷ []) (1 ∷ 0 ∷ 9 ∷ 9 ∷ 9 ∷ 9 ∷ [])) 11, 9))

-- the same bytes in a story of version 5 whose header names a table of terminating characters at an address, 0 for none
abbrev pub ending_lines_at : ℕ → List ℕ → MemoryMap
ending_lines_at table bytes = record (memory_of 5 bytes) { file = 5 ∷ replicate 45 0 ++ 0 ∷ table ∷ [] }

-- Without a table a new line alone ends a line. A table has codes up to a 0, or up to the end of memory, and those of
-- function keys count alone; 255 stands for all of them. Version 4 has no table (sections 3.8.4 and 10.5.2.1).
abbrev pub KeysEndLines : Type 0
KeysEndLines =
    (map (is_terminating (ending_lines_at 0 (129 ∷ 129 ∷ 0 ∷ []))) (13 ∷ 10 ∷ 0 ∷ 129 ∷ 255 ∷ [])
    ≡ true ∷ false ∷ false ∷ false ∷ false ∷ [])
    × (map (is_terminating (ending_lines_at 1 (130 ∷ 129 ∷ 133 ∷ 32 ∷ 0 ∷ 150 ∷ [])))
    (13 ∷ 129 ∷ 133 ∷ 130 ∷ 32 ∷ 0 ∷ 150 ∷ []) ≡ true ∷ true ∷ true ∷ false ∷ false ∷ false ∷ false ∷ [])
    × (map (is_terminating (ending_lines_at 1 (7 ∷ 133 ∷ 255 ∷ [])))
    (128 ∷ 129 ∷ 154 ∷ 155 ∷ 251 ∷ 252 ∷ 254 ∷ 255 ∷ 27 ∷ 8 ∷ [])
    ≡ false ∷ true ∷ true ∷ false ∷ false ∷ true ∷ true ∷ false ∷ false ∷ false ∷ [])
    × (is_terminating (ending_lines_at 3 (7 ∷ 133 ∷ 255 ∷ [])) 133 ≡ false)
    × (is_terminating (record (ending_lines_at 1 (7 ∷ 255 ∷ 0 ∷ [])) { file = 4 ∷ replicate 45 0 ++ 0 ∷ 1 ∷ [] }) 133
    ≡ false)

-- a character's code is stored as it is, a capital's too (section 15, `read_char`)
abbrev pub CharactersAreGiven : Type 0
CharactersAreGiven =
    (character_answered (reader (memory_of 5 sixteen) 11) (instruction (opcode.Reading ReadChar) [] (Some 1) None)
    129 ≡ Ok (reader (memory_of 5 sixteen) 129, 9))
    × (character_answered (reader (memory_of 4 sixteen) 11)
    (instruction (opcode.Reading ReadChar) [] (Some 1) None) 65 ≡ Ok (reader (memory_of 4 sixteen) 65, 9))
    × (character_answered (reader (memory_of 5 sixteen) 11)
    (instruction (opcode.Reading ReadChar) [] (Some 2) None) 65 ≡ Err NoSuchLocal)
