-- Worked examples of notes, and of the lines of global variables, alphabets, the header's extension and properties.
-- Their values come from the Standard and from the layout of the listings, by hand, and no definition made them.
use Rattle.std.specs.Prelude.{◌≡◌, ℕ, List, [], ◌∷◌, ◌++◌, codes, replicate}
use Rattle.zk_mem.specs.Map.{MemoryMap}
use Rattle.zk_text.specs.declared.alphabet.Row.TheVariants.{A2}
use Rattle.zk_inspect.specs.AlphabetLines.{alphabet_line}
use Rattle.zk_inspect.specs.guards.Examples.{lines, listing_object, memory_by, memory_of}
use Rattle.zk_inspect.specs.ExtensionLines.{extension_facts}
use Rattle.zk_inspect.specs.GlobalLines.{global_line}
use Rattle.zk_inspect.specs.Notes.{noted_line, shortened}
use Rattle.zk_inspect.specs.PropertyBytes.{object_properties}

-- the line of the instruction at 0, with more of a story of version 5 after it
abbrev pub noted : List ℕ → List ℕ
noted bytes = noted_line (memory_of 5 bytes) 0

-- a call names the byte address of a routine, or of what is none; a call of 0 none (sections 5.2 and 6.4.3)
abbrev pub CallsNameRoutines : Type 0
CallsNameRoutines =
    (noted (0x88 ∷ 0 ∷ 3 ∷ 0 ∷ replicate 8 0 ++ 2 ∷ 0xb0 ∷ []) ≡ codes "00000 call_1s #0003 -> sp  ; routine 0000c")
    × (noted (0x88 ∷ 0 ∷ 3 ∷ 0 ∷ replicate 8 0 ++ 16 ∷ 0xb0 ∷ []) ≡ codes "00000 call_1s #0003 -> sp  ; 0000c")
    × (noted (0x88 ∷ 0 ∷ 0 ∷ 0 ∷ []) ≡ codes "00000 call_1s #0000 -> sp")

-- texts by packed addresses and by byte addresses (section 15)
abbrev pub TextsAreNoted : Type 0
TextsAreNoted =
    (noted (0x8d ∷ 0 ∷ 2 ∷ replicate 5 0 ++ 0x17 ∷ 0x25 ∷ 0x9c ∷ 0xa5 ∷ []) ≡ codes "00000 print_paddr #0002  ; \"~^\"")
    × (noted (0x87 ∷ 0 ∷ 4 ∷ 0 ∷ 0x17 ∷ 0x25 ∷ 0x9c ∷ 0xa5 ∷ []) ≡ codes "00000 print_addr #0004  ; \"~^\"")
    × (noted (0x8d ∷ 0 ∷ 2 ∷ []) ≡ codes "00000 print_paddr #0002  ; ! F12")

-- 60 characters are shown
abbrev pub LongTextsAreShortened : Type 0
LongTextsAreShortened =
    (shortened (replicate 60 97) ≡ codes "\"" ++ replicate 60 97 ++ codes "\"")
    × (shortened (replicate 61 97) ≡ codes "\"" ++ replicate 60 97 ++ codes "\"...")

-- an instruction at 0 of a story of version 3 whose first object is called `a`
abbrev pub with_object : List ℕ → MemoryMap
with_object code =
    memory_by 3 (replicate 10 0 ++ 0 ∷ 4 ∷ []) (code ++ replicate 62 0 ++ replicate 7 0 ++ 0 ∷ 75 ∷ 1 ∷ 0x98
    ∷ 0xa5 ∷ 0 ∷ [])

-- objects have their names: one of `set_attr`, both of `jin`, none of `get_prop_len`, and object 0 has none (section
-- 15)
abbrev pub ObjectsAreNoted : Type 0
ObjectsAreNoted =
    (noted_line (with_object (0x0b ∷ 1 ∷ 5 ∷ 0 ∷ [])) 0 ≡ codes "00000 set_attr #01 #05  ; \"a\"")
    × (noted_line (with_object (0x06 ∷ 1 ∷ 1 ∷ 0xc0 ∷ [])) 0 ≡ codes "00000 jin #01 #01 ?rfalse  ; \"a\"  ; \"a\"")
    × (noted_line (with_object (0x94 ∷ 1 ∷ 0 ∷ 0 ∷ [])) 0 ≡ codes "00000 get_prop_len #01 -> sp")
    × (noted_line (with_object (0x0b ∷ 0 ∷ 5 ∷ 0 ∷ [])) 0 ≡ codes "00000 set_attr #00 #05")

-- a story of version 5 whose global variables stand at 256
abbrev pub with_globals : List ℕ → MemoryMap
with_globals = memory_by 5 (replicate 12 0 ++ 1 ∷ 0 ∷ [])

-- a global variable that is read, stored to or named, each once, by its number: variable 17 is the second (section
-- 4.2.2)
abbrev pub GlobalsAreNoted : Type 0
GlobalsAreNoted =
    (noted_line (with_globals (0x74 ∷ 0x12 ∷ 0x11 ∷ 0x12 ∷ [])) 0 ≡ codes
    "00000 add g2 g1 -> g2  ; g1 at 00102  ; g2 at 00104")
    × (noted_line (with_globals (0x95 ∷ 0x11 ∷ [])) 0 ≡ codes "00000 inc &g1  ; g1 at 00102")
    × (noted_line (with_globals (0xe8 ∷ 0x7f ∷ 0x11 ∷ [])) 0 ≡ codes "00000 push #11")

-- words at 4, which the header names as global variables, and a place past the end (section 6.2)
abbrev pub GlobalsAreLines : Type 0
GlobalsAreLines =
    (global_line (memory_by 5 (replicate 12 0 ++ 0 ∷ 4 ∷ []) (0 ∷ 0 ∷ 0 ∷ 0 ∷ 1 ∷ 2 ∷ 3 ∷ 4 ∷ [])) 1 ≡ codes
    "g1 00006 #0304")
    × (global_line (memory_by 5 (replicate 12 0 ++ 0 ∷ 4 ∷ []) (0 ∷ 0 ∷ 0 ∷ 0 ∷ 1 ∷ 2 ∷ 3 ∷ 4 ∷ [])) 2 ≡ codes
    "g2 00008 ! F6")

-- two words after their count, which stands at 4 (section 11.1.7)
abbrev pub ExtensionsAreLines : Type 0
ExtensionsAreLines =
    (lines (memory_by 5 (5 ∷ replicate 53 0 ++ 0 ∷ 4 ∷ []) (0 ∷ 0 ∷ 0 ∷ 0 ∷ 0 ∷ 2 ∷ 1 ∷ 2 ∷ 3 ∷ 4 ∷ 5 ∷ 6 ∷ []))
    extension_facts ≡ codes "1 00006 #0102\n2 00008 #0304\n")
    × (extension_facts (memory_by 5 (5 ∷ replicate 53 0 ++ 0 ∷ 0 ∷ []) (0 ∷ 2 ∷ 1 ∷ 2 ∷ 3 ∷ 4 ∷ [])) ≡ [])

-- 6 in A2 begins a code, and 7 is a new line (section 3.5.3)
abbrev pub TheThirdAlphabetBeginsLater : Type 0
TheThirdAlphabetBeginsLater = alphabet_line (memory_of 3 (0xba ∷ [])) A2 ≡ codes "A2 \"^0123456789.,!?_#'~/\\-:()\""

-- properties with their data, and a list past the end (section 12.4)
abbrev pub PropertiesAreLines : Type 0
PropertiesAreLines =
    (lines (listing_object (0 ∷ 0 ∷ 0 ∷ 0 ∷ []) (0 ∷ 0 ∷ 0 ∷ []) (1 ∷ 0x98 ∷ 0xa5 ∷ 0x72 ∷ 1 ∷ 2 ∷ 3 ∷ 4 ∷ 0x31
    ∷ 5 ∷ 6 ∷ 0 ∷ [])) (λ m. object_properties m 1) ≡ codes "1 18 0004f 4 01020304\n1 17 00054 2 0506\n")
    × (lines (listing_object (0 ∷ 0 ∷ 0 ∷ 0 ∷ []) (0 ∷ 0 ∷ 0 ∷ []) (0 ∷ 0x72 ∷ 1 ∷ []))
    (λ m. object_properties m 1) ≡ codes "1 ! F10\n")
