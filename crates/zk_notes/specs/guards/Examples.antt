-- Worked examples of findings, counts and marks, by hand.
use Rattle.std.specs.Prelude.{◌≡◌, ◌-◌, ◌^◌, true, false, ℕ, List, [], ◌∷◌, ◌++◌, map, replicate, codes, count_by, Some}
use Rattle.std.specs.Prelude.{None}
use Rattle.std.specs.List.{filter_map, list_any}
use Rattle.std.specs.Str.Lines.{lines}
use Rattle.zk_mem.specs.Fresh.{plain_setup}
use Rattle.zk_mem.specs.Map.{MemoryMap}
use Rattle.zk_inspect.specs.declared.check.finding.Number.{Number}
use Rattle.zk_inspect.specs.declared.check.finding.Number.TheVariants as number
use Rattle.zk_inspect.specs.declared.fact.Fact.{Fact}
use Rattle.zk_inspect.specs.declared.fact.Fact.TheVariants as fact
use Rattle.zk_inspect.specs.declared.section.Section.TheVariants as section
use Rattle.zk_notes.specs.Addresses.{address_of}
use Rattle.zk_notes.specs.Compilers.{compiler_of}
use Rattle.zk_notes.specs.Counts.{capped, is_finding, is_of}
use Rattle.zk_notes.specs.Findings.{explained}
use Rattle.zk_notes.specs.ListedTexts.{texts_in}
use Rattle.zk_notes.specs.Marks.{fact_ran, instruction_of, marked_line, routines_in, summary_of}
use Rattle.zk_notes.specs.Union.{address_on, is_foreign, is_no_address, story_line, story_of}

-- five hexadecimal digits are an address, four and other signs are none, and 32 bits hold no more
abbrev pub AddressesAreRead : Type 0
AddressesAreRead =
    (address_of (codes "015b5") ≡ Some 5557)
    × (address_of (codes "fFfFfFfF") ≡ Some 4294967295)
    × (address_of (codes "15b5") ≡ None)
    × (address_of (codes "+15b5") ≡ None)
    × (address_of (codes "0x15b") ≡ None)
    × (address_of (codes "100000000") ≡ None)

abbrev pub two_lists : List (List ℕ)
two_lists = lines (codes "01234\n\n  00012 \r\n01234")

-- spaces and blank lines count for nothing
abbrev pub ListsAreRead : Type 0
ListsAreRead =
    (filter_map address_on two_lists ≡ 4660 ∷ 18 ∷ 4660 ∷ [])
    × (list_any is_no_address two_lists ≡ false)
    × (list_any is_no_address (lines (codes "01234 x")) ≡ true)

-- a story of version 3 whose object table is at 0: the entry of object 2 is at 71
abbrev pub story : MemoryMap
story = record { version = 3; static_base = 0; bytes = []; file = 3 ∷ replicate 63 0; setup = plain_setup 0 }

-- the line of a story stands first, and may stand again; that of another story, or of another build, is foreign
abbrev pub StoriesAreTold : Type 0
StoriesAreTold =
    (story_of (lines (codes "story 250712 3f2a 43008\n01234\n")) ≡ Some (codes "story 250712 3f2a 43008"))
    × (story_of (lines (codes "01234\nstory 250712 3f2a 43008\n")) ≡ None)
    × (story_of (lines (codes "stories\n")) ≡ None)
    × (story_of [] ≡ None)
    × (is_foreign (codes "story 1") (codes "story 1") ≡ false)
    × (is_foreign (codes "story 1") (codes "story 2") ≡ true)
    × (is_foreign (codes "story 1") (codes "01234") ≡ false)
    × (story_line story ≡ codes "story ?????? 0000 64")
    × (story_line (record {
      version = 3;
      static_base = 0;
      bytes = [];
      file = 3 ∷ replicate 63 0 ++ 255 ∷ 255 ∷ 1 ∷ [];
      setup = plain_setup 0;
    }) ≡ codes "story ?????? 01ff 67")

abbrev pub found : Number → ℕ → Fact
found n a = fact.Finding (record { number = n; address = a })

-- a finding gets a note, which names an object where it is about one, and another fact stays as it is
abbrev pub FindingsAreExplained : Type 0
FindingsAreExplained =
    (explained story (found number.Checksum 0x1c) ≡ codes
    "C1 0001c checksum  ; the sum of the file's bytes is not the checksum that its header states\n")
    × (explained story (found number.ChainWithARepeat 71) ≡ codes
    "C6 00047 chain with a repeat  ; object 2: the child list of this object is circular\n")
    × (explained story (found number.ChainWithARepeat 72) ≡ codes
    "C6 00048 chain with a repeat  ; the child list of this object is circular\n")
    × (explained story (found number.NestedAbbreviation 71) ≡ codes
    "C9 00047 nested abbreviation  ; an abbreviation of this text uses an abbreviation\n")
    × (explained story (fact.Title section.Map) ≡ codes "[map]\n")

abbrev pub findings : List Fact
findings = found number.Checksum 0x1c ∷ found number.CodeBelowTheStaticBase 0x1234 ∷ fact.Instruction 1
    ∷ found number.Checksum 0x1c ∷ []

abbrev pub FindingsAreCounted : Type 0
FindingsAreCounted =
    (count_by (is_of 1) findings ≡ 2)
    × (count_by (is_of 12) findings ≡ 1)
    × (count_by (is_of 2) findings ≡ 0)
    × (list_any is_finding findings ≡ true)
    × (list_any is_finding (fact.Ifid ∷ fact.Instruction 1 ∷ []) ≡ false)
    × (capped (2 ^ 64 - 1) ≡ 2 ^ 64 - 1)
    × (capped (2 ^ 64) ≡ 2 ^ 64 - 1)

-- 1000 has its first instruction at 1001, which ran; 1010 has none before 1020, whose first did not run, nor has 1021
-- before 1030, which is the last and whose first ran
abbrev pub code : List Fact
code =
    map fact.Instruction (0x1001 ∷ 0x1021 ∷ 0x1031 ∷ []) ++ map fact.Routine (0x1000 ∷ 0x1010 ∷ [])
    ++ fact.LyingRoutine 0x1020 true ∷ fact.LyingRoutine 0x1021 false ∷ fact.Routine 0x1030 ∷ []

abbrev pub FactsAreMarked : Type 0
FactsAreMarked =
    map (fact_ran (0x1001 ∷ 0x1031 ∷ 0x2000 ∷ []) (filter_map instruction_of code) (routines_in code)) code
    ≡ true ∷ false ∷ true ∷ true ∷ false ∷ false ∷ false ∷ true ∷ []

-- a plus before what ran, and how much that is
abbrev pub LinesAreMarked : Type 0
LinesAreMarked =
    (marked_line true (codes "00001 quit") ≡ codes "+ 00001 quit\n")
    × (marked_line false (codes "00001 quit") ≡ codes "  00001 quit\n")
    × (summary_of (0x1001 ∷ 0x1031 ∷ []) (filter_map instruction_of code) (routines_in code) ≡ codes
    "ran: 2 of 3 instructions, 2 of 5 routines\n")

-- the bytes at 60 to 63 are a digit, a full stop and two digits
abbrev pub CompilersAreKnown : Type 0
CompilersAreKnown =
    (compiler_of (codes "000000000000000000000000000000000000000000000000000000000000" ++ codes "6.36") ≡ Some
    (codes "6.36"))
    × (compiler_of (codes "000000000000000000000000000000000000000000000000000000000000" ++ codes "6.3x") ≡ None)
    × (compiler_of (codes "000000000000000000000000000000000000000000000000000000000000" ++ codes "6336") ≡ None)
    × (compiler_of (codes "00000000000000000000000000000000000000000000000000000000000" ++ codes "6.36") ≡ None)

-- `print` with a text of one word at 0, and `new_line` at 3
abbrev pub printing : MemoryMap
printing =
    record { version = 5; static_base = 0; bytes = 178 ∷ 148 ∷ 165 ∷ 187 ∷ []; file = []; setup = plain_setup 0 }

-- a text stands in an instruction, or apart from code; a routine is none, nor what is not spelled
abbrev pub TextsAreListed : Type 0
TextsAreListed =
    (texts_in printing (fact.Instruction 0 ∷ fact.Instruction 3 ∷ fact.Text 1 ∷ []) ≡ 0 ∷ 1 ∷ [])
    × (texts_in printing (fact.Routine 0 ∷ fact.Instruction 4 ∷ []) ≡ [])
