-- Worked examples of this crate's definitions. Their values come from the Standard and from the layout of the listings,
-- by hand, and no definition made them.
use Rattle.std.specs.Prelude.{◌≡◌, ℕ, List, [], ◌∷◌, ◌++◌, map, replicate, codes, Some, None, true, false}
use Rattle.zk_mem.specs.Fresh.{plain_setup}
use Rattle.zk_mem.specs.Map.{MemoryMap}
use Rattle.zk_mem.specs.declared.fault.Fault.TheVariants.{CodePastEnd, TextPastEnd, NestedAbbreviation as NestedFault}
use Rattle.zk_code.specs.declared.branch.BranchTarget.TheVariants.{ReturnFalse, ReturnTrue, At, Below, Past}
use Rattle.zk_code.specs.declared.operands.Operand.TheVariants.{Large, Small, Variable}
use Rattle.zk_inspect.specs.declared.check.finding.Number.TheVariants.{Checksum, Length, DictionaryOrder}
use Rattle.zk_inspect.specs.declared.check.finding.Number.TheVariants.{DictionaryExtent, ObjectLinks, ChainWithARepeat}
use Rattle.zk_inspect.specs.declared.check.finding.Number.TheVariants.{PropertyList, TextPastTheEnd, NestedAbbreviation}
use Rattle.zk_inspect.specs.declared.check.finding.Number.TheVariants.{UndecodableCode, TargetOutOfTheStory}
use Rattle.zk_inspect.specs.declared.check.finding.Number.TheVariants.{CodeBelowTheStaticBase}
use Rattle.zk_inspect.specs.FindingLines.{finding_line}
use Rattle.zk_inspect.specs.Listing.{variable_text, operand_text, store_text, branch_text, quoted_bytes, address_line}
use Rattle.zk_inspect.specs.Listing.{routine_line, code_facts, whole_facts}
use Rattle.zk_inspect.specs.AbbreviationLines.{abbreviation_line, abbreviation_facts}
use Rattle.zk_inspect.specs.DictionaryLines.{dictionary_facts, word_line}
use Rattle.zk_inspect.specs.HeaderLines.{header_facts}
use Rattle.zk_inspect.specs.Lines.{lines_of}
use Rattle.zk_inspect.specs.declared.fact.Fact.{Fact}
use Rattle.zk_inspect.specs.declared.fact.Fact.TheVariants.{Text}
use Rattle.zk_inspect.specs.MapLines.{map_facts}
use Rattle.zk_inspect.specs.ObjectLines.{object_line}
use Rattle.zk_term.specs.Numbers.{address_digits, word_digits, byte_digits}
use Rattle.zk_inspect.specs.TreeLines.{HasNoParent, row_line}
use Rattle.zk_inspect.specs.Tests.{is_undecodable, leads_out}
use Rattle.zk_inspect.specs.TextTests.{is_of, text_fails}
use Rattle.zk_inspect.specs.declared.check.texts.TextAddresses.{TextAddresses}
use Rattle.zk_inspect.specs.declared.check.text_faults.TextFault.TheVariants.{PastEnd, Nested}

-- ---- numbers

-- an address has five digits, in lower case, and more only where it needs them
abbrev pub AddressesHaveFiveDigits : Type 0
AddressesHaveFiveDigits =
    (address_digits 0 ≡ codes "00000")
    × (address_digits 0x123 ≡ codes "00123")
    × (address_digits 0x9abcd ≡ codes "9abcd")
    × (address_digits 0xfffff ≡ codes "fffff")
    × (address_digits 0x100000 ≡ codes "100000")
    × (address_digits 0xabcdef0 ≡ codes "abcdef0")
    × (address_digits 0x10000000 ≡ codes "10000000")

-- a word has four digits and a byte two
abbrev pub WordsHaveFourDigits : Type 0
WordsHaveFourDigits =
    (word_digits 0xc0de ≡ codes "c0de")
    × (word_digits 10 ≡ codes "000a")
    × (byte_digits 0xf9 ≡ codes "f9")
    × (byte_digits 10 ≡ codes "0a")
    × (byte_digits 0 ≡ codes "00")

-- ---- findings

-- a finding of a file or a table: a `C`, its number in decimal, its address and its words
abbrev pub FindingsOfTables : Type 0
FindingsOfTables =
    (finding_line (record { number = Checksum; address = 0x1c }) ≡ codes "C1 0001c checksum")
    × (finding_line (record { number = Length; address = 0x1a }) ≡ codes "C2 0001a length")
    × (finding_line (record { number = DictionaryOrder; address = 0x2345 }) ≡ codes "C3 02345 dictionary order")
    × (finding_line (record { number = DictionaryExtent; address = 0xffff }) ≡ codes "C4 0ffff dictionary extent")
    × (finding_line (record { number = ObjectLinks; address = 0x5e }) ≡ codes "C5 0005e object links")
    × (finding_line (record { number = ChainWithARepeat; address = 0x123 }) ≡ codes "C6 00123 chain with a repeat")
    × (finding_line (record { number = PropertyList; address = 0x124 }) ≡ codes "C7 00124 property list")

-- a finding of a text or of code
abbrev pub FindingsOfTextsAndCode : Type 0
FindingsOfTextsAndCode =
    (finding_line (record { number = TextPastTheEnd; address = 0x7fffe }) ≡ codes "C8 7fffe text past the end")
    × (finding_line (record { number = NestedAbbreviation; address = 0x40 }) ≡ codes "C9 00040 nested abbreviation")
    × (finding_line (record { number = UndecodableCode; address = 0x41 }) ≡ codes "C10 00041 undecodable code")
    × (finding_line (record { number = TargetOutOfTheStory; address = 0x42 }) ≡ codes
    "C11 00042 target out of the story")
    × (finding_line (record { number = CodeBelowTheStaticBase; address = 0x12345 }) ≡ codes
    "C12 12345 code below the static base")

-- ---- disassembly (sections 4 and 14)

-- 0 is the stack, 1 to 15 the local variables and 16 to 255 the global ones, which count from 0 (section 4.2.2)
abbrev pub VariablesByNumber : Type 0
VariablesByNumber =
    (variable_text 0 ≡ codes "sp")
    × (variable_text 1 ≡ codes "l1")
    × (variable_text 15 ≡ codes "l15")
    × (variable_text 16 ≡ codes "g0")
    × (variable_text 255 ≡ codes "g239")

-- a large constant has four digits and a small one two (section 4.2)
abbrev pub OperandsByType : Type 0
OperandsByType =
    (operand_text (Large 0x1a2b) ≡ codes "#1a2b")
    × (operand_text (Large 7) ≡ codes "#0007")
    × (operand_text (Small 0xc7) ≡ codes "#c7")
    × (operand_text (Small 7) ≡ codes "#07")
    × (operand_text (Variable 0) ≡ codes "sp")
    × (operand_text (Variable 17) ≡ codes "g1")

-- the variable of a result is after an arrow (section 4.6)
abbrev pub StoresBehindAnArrow : Type 0
StoresBehindAnArrow =
    (store_text None ≡ []) × (store_text (Some 0) ≡ codes " -> sp") × (store_text (Some 5) ≡ codes " -> l5")
    × (store_text (Some 26) ≡ codes " -> g10")

-- a branch is after a question mark, and has a tilde where it is taken on false (section 4.7)
abbrev pub BranchesBehindAMark : Type 0
BranchesBehindAMark =
    (branch_text None ≡ [])
    × (branch_text (Some (record { on = true; target = At 0x1f0 })) ≡ codes " ?001f0")
    × (branch_text (Some (record { on = false; target = At 0x1f0 })) ≡ codes " ?~001f0")
    × (branch_text (Some (record { on = true; target = ReturnTrue })) ≡ codes " ?rtrue")
    × (branch_text (Some (record { on = false; target = ReturnFalse })) ≡ codes " ?~rfalse")
    × (branch_text (Some (record { on = true; target = Past 0x80000 })) ≡ codes " ?80000")
    × (branch_text (Some (record { on = false; target = Below 10 })) ≡ codes " ?~-0000a")

-- memory of a version with these bytes, whose header names no tables
abbrev pub memory_of : ℕ → List ℕ → MemoryMap
memory_of version bytes = record { version = version; static_base = 0; bytes = bytes; file = []; setup = plain_setup 0 }

-- the line of address 0 of a story of a version with these bytes
abbrev pub line_of : ℕ → List ℕ → List ℕ
line_of version bytes = address_line (memory_of version bytes) 0

-- the address, the name, the operands, and the variable of the result; a question mark where there is no instruction
abbrev pub LinesOfOperands : Type 0
LinesOfOperands =
    (line_of 5 (0x15 ∷ 7 ∷ 2 ∷ 3 ∷ []) ≡ codes "00000 sub #07 #02 -> l3")
    × (line_of 5 (0x55 ∷ 7 ∷ 2 ∷ 0 ∷ []) ≡ codes "00000 sub l7 #02 -> sp")
    × (line_of 5 (0xd4 ∷ 0x1f ∷ 0x12 ∷ 0x34 ∷ 7 ∷ 16 ∷ []) ≡ codes "00000 add #1234 #07 -> g0")
    × (line_of 3 (0xe0 ∷ 0x3f ∷ 0x12 ∷ 0x34 ∷ 0 ∷ []) ≡ codes "00000 call #1234 -> sp")
    × (line_of 5 (0xe0 ∷ 0x3f ∷ 0x12 ∷ 0x34 ∷ 0 ∷ []) ≡ codes "00000 call_vs #1234 -> sp")
    × (line_of 5 (0xba ∷ []) ≡ codes "00000 quit")
    × (line_of 5 (0 ∷ []) ≡ codes "00000 ?")

-- after the variable of a result a branch, whose address has five digits (section 4.7)
abbrev pub LinesOfBranches : Type 0
LinesOfBranches =
    (line_of 5 (0x90 ∷ 1 ∷ 0xc5 ∷ 0 ∷ 0 ∷ 0 ∷ 0 ∷ []) ≡ codes "00000 jz #01 ?00006")
    × (line_of 5 (0x90 ∷ 1 ∷ 0x45 ∷ 0 ∷ 0 ∷ 0 ∷ 0 ∷ []) ≡ codes "00000 jz #01 ?~00006")
    × (line_of 5 (0x90 ∷ 1 ∷ 0x40 ∷ []) ≡ codes "00000 jz #01 ?~rfalse")
    × (line_of 3 (0x92 ∷ 9 ∷ 0x11 ∷ 0xc1 ∷ []) ≡ codes "00000 get_child #09 -> g1 ?rtrue")

-- a constant that is the number of a variable shows that variable: the first operand of `store`, `load`, `inc` and
-- `pull`, and no other operand; a number over 255 is none (section 15)
abbrev pub LinesOfVariables : Type 0
LinesOfVariables =
    (line_of 5 (0x0d ∷ 5 ∷ 9 ∷ []) ≡ codes "00000 store &l5 #09")
    × (line_of 5 (0x2d ∷ 5 ∷ 9 ∷ []) ≡ codes "00000 store &l5 l9")
    × (line_of 5 (0x4d ∷ 5 ∷ 9 ∷ []) ≡ codes "00000 store l5 #09")
    × (line_of 5 (0x9e ∷ 16 ∷ 3 ∷ []) ≡ codes "00000 load &g0 -> l3")
    × (line_of 5 (0x8e ∷ 1 ∷ 5 ∷ 3 ∷ []) ≡ codes "00000 load #0105 -> l3")
    × (line_of 5 (0x95 ∷ 0 ∷ []) ≡ codes "00000 inc &sp")
    × (line_of 5 (0xe9 ∷ 0x7f ∷ 1 ∷ []) ≡ codes "00000 pull &l1")
    × (line_of 5 (0xe8 ∷ 0x7f ∷ 1 ∷ []) ≡ codes "00000 push #01")

-- the constant of a `jump` shows where it leads, where that is in the story (section 15, `jump`)
abbrev pub LinesOfJumps : Type 0
LinesOfJumps =
    (line_of 5 (0x8c ∷ 0 ∷ 3 ∷ 0 ∷ 0 ∷ []) ≡ codes "00000 jump 00004")
    × (line_of 5 (0x8c ∷ 0xff ∷ 0xff ∷ 0 ∷ 0 ∷ []) ≡ codes "00000 jump 00000")
    × (line_of 5 (0x8c ∷ 0 ∷ 4 ∷ 0 ∷ 0 ∷ []) ≡ codes "00000 jump #0004")
    × (line_of 5 (0xac ∷ 5 ∷ []) ≡ codes "00000 jump l5")

-- 64 D0 A8 A5 is "take"; 17 25 9C A5 is a quote and a new line, which a tilde and a circumflex show; 87 E5 is an
-- abbreviation that has no word (sections 3.2, 3.3 and 3.5.3)
abbrev pub LinesOfTexts : Type 0
LinesOfTexts =
    (line_of 5 (0xb2 ∷ 0x64 ∷ 0xd0 ∷ 0xa8 ∷ 0xa5 ∷ []) ≡ codes "00000 print \"take\"")
    × (line_of 5 (0xb3 ∷ 0x17 ∷ 0x25 ∷ 0x9c ∷ 0xa5 ∷ []) ≡ codes "00000 print_ret \"~^\"")
    × (line_of 5 (0xb2 ∷ 0x87 ∷ 0xe5 ∷ []) ≡ codes "00000 print ! F12")

-- characters past 127 are written in UTF-8: U+00E4 in two bytes; a tilde stays
abbrev pub CharactersBetweenQuotes : Type 0
CharactersBetweenQuotes =
    (quoted_bytes (34 ∷ 10 ∷ 126 ∷ 94 ∷ []) ≡ codes "~^~^")
    × (quoted_bytes (0xe4 ∷ 0x153 ∷ 63 ∷ []) ≡ 0xc3 ∷ 0xa4 ∷ 0xc5 ∷ 0x93 ∷ 63 ∷ [])

-- a routine has its address and the count of its local variables, which its first byte says (section 5.2)
abbrev pub LinesOfRoutines : Type 0
LinesOfRoutines =
    (routine_line (memory_of 5 (9 ∷ 15 ∷ 0xb0 ∷ [])) 1 ≡ codes "routine 00001 locals 15")
    × (routine_line (memory_of 3 (1 ∷ 0 ∷ 7 ∷ 0xb0 ∷ [])) 0 ≡ codes "routine 00000 locals 1")

-- the lines of addresses stand before those of routines
abbrev pub RoutinesBehindCode : Type 0
RoutinesBehindCode =
    (lines_of false (memory_of 5 (0xb0 ∷ 0xba ∷ 2 ∷ 0xb1 ∷ []))
    (code_facts (record { addresses = 0 ∷ 1 ∷ 3 ∷ []; routines = 2 ∷ [] })) ≡ codes
    "00000 rtrue\n00001 quit\n00003 rfalse\nroutine 00002 locals 2\n")

-- in a whole story a routine's line says whether it is reached, or lies beside
abbrev pub RoutinesByOrigin : Type 0
RoutinesByOrigin =
    (lines_of false (memory_of 5 (0xba ∷ 2 ∷ 0xb1 ∷ 0 ∷ 0xb0 ∷ []))
    (whole_facts (record {
      code = record { addresses = 0 ∷ 2 ∷ 4 ∷ []; routines = 1 ∷ 3 ∷ [] };
      reached = false ∷ true ∷ false ∷ [];
    }))
    ≡ codes "00000 quit\n00002 rfalse\n00004 rtrue\nroutine 00001 locals 2 reached\nroutine 00003 locals 0 beside\n")

-- a text has its byte address, its packed address in units of 2, 4 and 8 bytes in versions 3, 5 and 8, and what it
-- prints (sections 1.2.3 and 3.2); 17 25 9C A5 is a quote and a new line
abbrev pub LinesOfLyingTexts : Type 0
LinesOfLyingTexts =
    (lines_of false (memory_of 3 (0 ∷ 0 ∷ 0x17 ∷ 0x25 ∷ 0x9c ∷ 0xa5 ∷ 0x80 ∷ 0 ∷ [])) (map Text (2 ∷ 6 ∷ []))
    ≡ codes "00002 #0001 \"~^\"\n00006 #0003 \"   \"\n")
    × (lines_of false (memory_of 5 (replicate 8 0 ++ 0x17 ∷ 0x25 ∷ 0x9c ∷ 0xa5 ∷ [])) (map Text (8 ∷ [])) ≡ codes
    "00008 #0002 \"~^\"\n")
    × (lines_of false (memory_of 8 (replicate 8 0 ++ 0x17 ∷ 0x25 ∷ 0x9c ∷ 0xa5 ∷ [])) (map Text (8 ∷ [])) ≡ codes
    "00008 #0001 \"~^\"\n")

-- ---- listings (sections 3.3, 11.1, 12 and 13)

-- the lines of what is listed of a story
abbrev pub lines : MemoryMap → (MemoryMap → List Fact) → List ℕ
lines m listing = lines_of false m (listing m)

-- memory with a file whose header names tables
abbrev pub memory_by : ℕ → List ℕ → List ℕ → MemoryMap
memory_by version file bytes =
    record { version = version; static_base = 0; bytes = bytes; file = file; setup = plain_setup 0 }

-- a file of 72 bytes, whose header states 18 units; after it stand 1 to 5
abbrev pub file_of : ℕ → List ℕ
file_of version =
    version ∷ 0x1a ∷ 1 ∷ 2 ∷ 4 ∷ 0x80 ∷ 4 ∷ 0x81 ∷ 3 ∷ 0x10 ∷ 1 ∷ 0 ∷ 2 ∷ 0 ∷ 3 ∷ 0 ∷ 0x80 ∷ 0x1c ∷ 50 ∷ 54 ∷ 49
    ∷ 127 ∷ 50 ∷ 32
    ∷ 0 ∷ 0x40 ∷ 0 ∷ 18 ∷ 0 ∷ 15 ∷ replicate 22 0 ++ 0 ∷ 0x42 ∷ 1 ∷ 0x23 ∷ replicate 8 0 ++ 1 ∷ 2 ∷ 3 ∷ 4 ∷ 5 ∷ 0
    ∷ 0 ∷ 0 ∷ []

-- the length is stated in units of 4 bytes, and in units of 2 up to version 3; the sum of the bytes after the header up
-- to there is 15, or 0; from version 5 on there are two lines more (sections 11.1 and 11.1.6)
abbrev pub HeadersAreLines : Type 0
HeadersAreLines =
    (lines (memory_by 5 (file_of 5) []) header_facts ≡
    codes "version 5\nrelease 258\nserial 261?2?\nlength 72\nfile 72\nchecksum 000f ok\nstart 00481\n"
    ++ codes "high 00480\nstatic 00300\ndictionary 00310\nobjects 00100\nglobals 00200\n"
    ++ codes "abbreviations 00040\nflags1 1a\nflags2 801c\nalphabet 00042\nextension 00123\n")
    × (lines (memory_by 3 (file_of 3) []) header_facts ≡
    codes "version 3\nrelease 258\nserial 261?2?\nlength 36\nfile 72\nchecksum 000f wrong\n"
    ++ codes "start 00481\nhigh 00480\nstatic 00300\ndictionary 00310\nobjects 00100\nglobals 00200\n"
    ++ codes "abbreviations 00040\nflags1 1a\nflags2 801c\n")

-- parts by their addresses, and those of one address in an order of their own
abbrev pub MapsAreInOrder : Type 0
MapsAreInOrder =
    (lines (memory_by 5 (file_of 5) []) map_facts ≡
    codes "00000 header\n00040 abbreviations\n00100 objects\n00200 globals\n00300 static\n"
    ++ codes "00310 dictionary\n00480 high\n00481 start\n")
    × (lines (memory_by 5 [] []) map_facts ≡
    codes "00000 header\n00000 abbreviations\n00000 globals\n00000 objects\n00000 dictionary\n"
    ++ codes "00000 static\n00000 high\n00000 start\n")

-- a table of abbreviations at 2: the first is the text of an `a` at 0, the second at 8 has an abbreviation in it, the
-- third lies outside the story, and from the fifth on no words are there
abbrev pub abbreviating : MemoryMap
abbreviating = memory_by 3 (replicate 24 0 ++ 0 ∷ 2 ∷ []) (0x98 ∷ 0xa5 ∷ 0 ∷ 0 ∷ 0 ∷ 4 ∷ 0 ∷ 32 ∷ 0x84 ∷ 0x05 ∷ [])

-- an abbreviation counts from 0, by word addresses, and stands between quotes (sections 3.3 and 1.2.2)
abbrev pub AbbreviationsAreLines : Type 0
AbbreviationsAreLines =
    (abbreviation_line abbreviating 0 ≡ codes "0 \"a\"")
    × (abbreviation_line abbreviating 1 ≡ codes "1 ! F13")
    × (abbreviation_line abbreviating 2 ≡ codes "2 ! F12")
    × (abbreviation_line abbreviating 95 ≡ codes "95 ! F12")

-- where the header names no table there are no lines
abbrev pub NoTableNoLines : Type 0
NoTableNoLines =
    (abbreviation_facts (memory_by 3 [] []) ≡ [])

-- a dictionary at 4 of version 3: a comma and a quote part words, entries have 5 bytes, and they are `take` and `x`
abbrev pub listing_words : List ℕ → MemoryMap
listing_words bytes = memory_by 3 (replicate 8 0 ++ 0 ∷ 4 ∷ []) bytes

-- separators, the size, and each word by its index and its address, both from 0 and in order (section 13.2)
abbrev pub DictionariesAreLines : Type 0
DictionariesAreLines =
    (lines (listing_words (0 ∷ 0 ∷ 0 ∷ 0 ∷ 2 ∷ 44 ∷ 34 ∷ 5 ∷ 0 ∷ 2 ∷ 0x64 ∷ 0xd0 ∷ 0xa8 ∷ 0xa5 ∷ 1 ∷ 0x74 ∷ 0xa5
    ∷ 0x94 ∷ 0xa5 ∷ 0 ∷ [])) dictionary_facts ≡ codes
    "separators \",~\"\nentries 2 length 5\n0 0000a \"take\"\n1 0000f \"x\"\n")
    × (lines (listing_words (0 ∷ 0 ∷ 0 ∷ 0 ∷ 2 ∷ 44 ∷ [])) dictionary_facts ≡ codes "! F18\n")
    × (dictionary_facts (memory_by 3 [] []) ≡ [])

-- a key has six letters up to version 3 and nine from 4 on, and an abbreviation in it shows nothing (sections 13.3,
-- 13.4 and
-- 3.7)
abbrev pub KeysAreWords : Type 0
KeysAreWords =
    (word_line (memory_of 3 (0x18 ∷ 0xe8 ∷ 0x25 ∷ 0x4b ∷ 0xb1 ∷ 0xae ∷ [])) 7 0 ≡ codes "7 00000 \"abcdef\"")
    × (word_line (memory_of 4 (0x18 ∷ 0xe8 ∷ 0x25 ∷ 0x4b ∷ 0xb1 ∷ 0xae ∷ [])) 7 0 ≡ codes "7 00000 \"abcdefghi\"")
    × (word_line (memory_of 3 (0x04 ∷ 0xc7 ∷ 0x94 ∷ 0xa5 ∷ [])) 0 0 ≡ codes "0 00000 \"b\"")

-- object 1 of version 3, whose table is at 4, with these attributes, links and property table, which is at 75
abbrev pub listing_object : List ℕ → List ℕ → List ℕ → MemoryMap
listing_object attributes links properties =
    memory_by 3 (replicate 10 0 ++ 0 ∷ 4 ∷ []) (replicate 66 0 ++ attributes ++ links ++ 0 ∷ 75 ∷ properties)

-- an object is a root by its parent alone (section 12.3)
abbrev pub RootsNameNoParent : Type 0
RootsNameNoParent =
    HasNoParent (listing_object (0 ∷ 0 ∷ 0 ∷ 0 ∷ []) (0 ∷ 8 ∷ 9 ∷ []) (0 ∷ 0 ∷ [])) 1
    × (HasNoParent (listing_object (0 ∷ 0 ∷ 0 ∷ 0 ∷ []) (7 ∷ 0 ∷ 0 ∷ []) (0 ∷ 0 ∷ [])) 1 → ⊥)
    × (HasNoParent (listing_object (0 ∷ 0 ∷ 0 ∷ 0 ∷ []) (1 ∷ 0 ∷ 0 ∷ []) (0 ∷ 0 ∷ [])) 1 → ⊥)

-- links by parent, sibling and child; attributes from the top bit; a property by its number and the length of its data
-- (sections 12.3.1, 12.4 and 12.4.1)
abbrev pub ObjectsAreLines : Type 0
ObjectsAreLines =
    (object_line (listing_object (0x48 ∷ 0 ∷ 0 ∷ 1 ∷ []) (7 ∷ 8 ∷ 9 ∷ [])
    (1 ∷ 0x98 ∷ 0xa5 ∷ 0x72 ∷ 1 ∷ 2 ∷ 3 ∷ 4 ∷ 0x31 ∷ 1 ∷ 2 ∷ 0 ∷ [])) 1 ≡ codes
    "1 \"a\" parent 7 sibling 8 child 9 attributes 1,4,31 properties 18:4,17:2")
    × (object_line (listing_object (0 ∷ 0 ∷ 0 ∷ 0 ∷ []) (0 ∷ 0 ∷ 0 ∷ []) (0 ∷ 0 ∷ [])) 1 ≡ codes
    "1 \"\" parent 0 sibling 0 child 0 attributes - properties -")

-- a list that does not lie in data is a fault (section 12.4)
abbrev pub ListsPastTheEnd : Type 0
ListsPastTheEnd =
    (object_line (listing_object (0 ∷ 0 ∷ 0 ∷ 0 ∷ []) (0 ∷ 0 ∷ 0 ∷ []) (0 ∷ 0x72 ∷ 1 ∷ [])) 1 ≡ codes
    "1 \"\" parent 0 sibling 0 child 0 attributes - properties ! F10")

-- ---- checks

-- 0 is no instruction, and after the last byte there is none (section 4)
abbrev pub UndecodableAddresses : Type 0
UndecodableAddresses =
    (is_undecodable (memory_of 5 (0xba ∷ 0 ∷ [])) 0 ≡ false)
    × (is_undecodable (memory_of 5 (0xba ∷ 0 ∷ [])) 1 ≡ true)
    × (is_undecodable (memory_of 5 (0xba ∷ 0 ∷ [])) 2 ≡ true)
    × (is_undecodable (memory_of 4 (0xbe ∷ 0 ∷ 0xff ∷ 0 ∷ [])) 0 ≡ true)
    × (is_undecodable (memory_of 5 (0xbe ∷ 0 ∷ 0xff ∷ 0 ∷ [])) 0 ≡ false)

-- a branch, a jump and a call lead out of a story of five bytes at its end, and not before; packed address 0 is no
-- call, and a routine has at most 15 local variables (sections 4.7, 5.2 and 6.4.3)
abbrev pub LeadingOut : Type 0
LeadingOut =
    (leads_out (memory_of 5 (0x90 ∷ 1 ∷ 0xc3 ∷ 0 ∷ 0 ∷ [])) 0 ≡ false)
    × (leads_out (memory_of 5 (0x90 ∷ 1 ∷ 0xc4 ∷ 0 ∷ 0 ∷ [])) 0 ≡ true)
    × (leads_out (memory_of 5 (0x8c ∷ 0 ∷ 3 ∷ 0 ∷ 0 ∷ [])) 0 ≡ false)
    × (leads_out (memory_of 5 (0x8c ∷ 0 ∷ 4 ∷ 0 ∷ 0 ∷ [])) 0 ≡ true)
    × (leads_out (memory_of 5 (0x8f ∷ 0 ∷ 1 ∷ 0 ∷ 15 ∷ [])) 0 ≡ false)
    × (leads_out (memory_of 5 (0x8f ∷ 0 ∷ 1 ∷ 0 ∷ 16 ∷ [])) 0 ≡ true)
    × (leads_out (memory_of 5 (0x8f ∷ 0 ∷ 2 ∷ 0 ∷ 15 ∷ [])) 0 ≡ true)
    × (leads_out (memory_of 5 (0x8f ∷ 0 ∷ 0 ∷ [])) 0 ≡ false)
    × (leads_out (memory_of 5 (0 ∷ [])) 0 ≡ false)

-- marks on the text at 0: one that is printed, one of an abbreviation, and a word of the table that can't be read
abbrev pub printed_mark : TextAddresses
printed_mark = record { printed = true ∷ []; abbreviations = false ∷ []; unread = false ∷ [] }

abbrev pub abbreviation_mark : TextAddresses
abbreviation_mark = record { printed = false ∷ []; abbreviations = true ∷ []; unread = false ∷ [] }

abbrev pub unread_mark : TextAddresses
unread_mark = record { printed = false ∷ []; abbreviations = false ∷ []; unread = true ∷ [] }

-- each kind is of one fault
abbrev pub KindsOfFaults : Type 0
KindsOfFaults =
    (is_of PastEnd TextPastEnd ≡ true)
    × (is_of PastEnd NestedFault ≡ false)
    × (is_of Nested TextPastEnd ≡ false)
    × (is_of Nested NestedFault ≡ true)
    × (is_of PastEnd CodePastEnd ≡ false)
    × (is_of Nested CodePastEnd ≡ false)

-- a text without an end; one that is an abbreviation with an abbreviation in it, which is no fault where it is printed:
-- there that abbreviation lies outside the story; a word that is not there (section 3.3)
abbrev pub TextsThatFail : Type 0
TextsThatFail =
    (text_fails (memory_of 3 (0x64 ∷ 0xd0 ∷ 0x28 ∷ 0xa5 ∷ [])) printed_mark PastEnd 0 ≡ true)
    × (text_fails (memory_of 3 (0x64 ∷ 0xd0 ∷ 0x28 ∷ 0xa5 ∷ [])) printed_mark Nested 0 ≡ false)
    × (text_fails (memory_of 3 (0x64 ∷ 0xd0 ∷ 0x28 ∷ 0xa5 ∷ [])) printed_mark PastEnd 1 ≡ false)
    × (text_fails (memory_of 3 (0x64 ∷ 0xd0 ∷ 0xa8 ∷ 0xa5 ∷ [])) printed_mark PastEnd 0 ≡ false)
    × (text_fails (memory_of 3 (0x84 ∷ 0x05 ∷ [])) abbreviation_mark Nested 0 ≡ true)
    × (text_fails (memory_of 3 (0x84 ∷ 0x05 ∷ [])) abbreviation_mark PastEnd 0 ≡ false)
    × (text_fails (memory_of 3 (0x84 ∷ 0x05 ∷ [])) printed_mark Nested 0 ≡ false)
    × (text_fails (memory_of 3 (0x84 ∷ 0x05 ∷ [])) printed_mark PastEnd 0 ≡ true)
    × (text_fails (memory_of 3 (0x98 ∷ 0xa5 ∷ [])) unread_mark PastEnd 0 ≡ true)
    × (text_fails (memory_of 3 (0x98 ∷ 0xa5 ∷ [])) unread_mark Nested 0 ≡ false)

-- object 1 of version 3, named `a`
abbrev pub named_object : MemoryMap
named_object = listing_object (0 ∷ 0 ∷ 0 ∷ 0 ∷ []) (0 ∷ 0 ∷ 0 ∷ []) (1 ∷ 0x98 ∷ 0xa5 ∷ 0 ∷ [])

-- two spaces for each level, and a name
abbrev pub RowsAreIndented : Type 0
RowsAreIndented =
    (row_line named_object (record { level = 0; object = 1; again = false }) ≡ codes "1 \"a\"")
    × (row_line named_object (record { level = 2; object = 1; again = false }) ≡ codes "    1 \"a\"")

-- a star in place of the name of an object that was listed before
abbrev pub RowsAgain : Type 0
RowsAgain =
    (row_line named_object (record { level = 1; object = 1; again = true }) ≡ codes "  1 *")
    × (row_line named_object (record { level = 0; object = 12; again = true }) ≡ codes "12 *")
