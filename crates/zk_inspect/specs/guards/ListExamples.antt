-- Worked examples of lists of lines, of keys and of tests on objects. Their values come from the Standard and from the
-- layout of the listings, by hand, and no definition made them.
use Rattle.std.specs.Prelude.{◌≡◌, ℕ, List, [], ◌∷◌, ◌++◌, map, replicate, codes, true, false}
use Rattle.std.specs.List.{concat}
use Rattle.zk_mem.specs.Map.{MemoryMap}
use Rattle.zk_tables.specs.declared.dictionary.Dictionary.{Dictionary}
use Rattle.zk_inspect.specs.declared.check.finding.Number.TheVariants.{Checksum, UndecodableCode, TargetOutOfTheStory}
use Rattle.zk_inspect.specs.declared.objects.Question.TheVariants.{Links, Chain, Properties}
use Rattle.zk_inspect.specs.AbbreviationLines.{abbreviation_facts}
use Rattle.zk_inspect.specs.guards.Examples.{lines, listing_object, memory_by, memory_of}
use Rattle.zk_inspect.specs.Lines.{lines_of}
use Rattle.zk_inspect.specs.declared.fact.Fact.TheVariants.{Finding}
use Rattle.zk_inspect.specs.Keys.{comes_before, key_in}
use Rattle.zk_inspect.specs.ObjectLines.{object_line}
use Rattle.zk_inspect.specs.ObjectTests.{answer, leads_past}

-- a line for each finding, in the order of the list
abbrev pub FindingsAreLines : Type 0
FindingsAreLines =
    (lines_of false (memory_of 3 []) (map Finding (record { number = UndecodableCode; address = 0x41 }
    ∷ record { number = Checksum; address = 0x1c } ∷ record { number = TargetOutOfTheStory; address = 0x40 }
    ∷ [])) ≡ codes "C10 00041 undecodable code\nC1 0001c checksum\nC11 00040 target out of the story\n")
    × (lines_of false (memory_of 3 []) [] ≡ [])

-- a table of abbreviations at 6: the first 48 are the text of an `a` at 0, 47 that of a `b` at 2, and the last that of
-- a `c`
abbrev pub abbreviated : MemoryMap
abbreviated =
    memory_by 3 (replicate 24 0 ++ 0 ∷ 6 ∷ []) (0x98 ∷ 0xa5 ∷ 0x9c ∷ 0xa5 ∷ 0xa0 ∷ 0xa5 ∷ replicate 96 0
    ++ concat (replicate 47 (0 ∷ 1 ∷ [])) ++ 0 ∷ 2 ∷ [])

-- 96 lines, in the order of the table (section 3.3)
abbrev pub AllAbbreviationsAreLines : Type 0
AllAbbreviationsAreLines =
    (lines abbreviated abbreviation_facts ≡
    codes "0 \"a\"\n1 \"a\"\n2 \"a\"\n3 \"a\"\n4 \"a\"\n5 \"a\"\n6 \"a\"\n7 \"a\"\n8 \"a\"\n9 \"a\"\n"
    ++ codes "10 \"a\"\n11 \"a\"\n12 \"a\"\n13 \"a\"\n14 \"a\"\n15 \"a\"\n16 \"a\"\n17 \"a\"\n18 \"a\"\n"
    ++ codes "19 \"a\"\n20 \"a\"\n21 \"a\"\n22 \"a\"\n23 \"a\"\n24 \"a\"\n25 \"a\"\n26 \"a\"\n27 \"a\"\n"
    ++ codes "28 \"a\"\n29 \"a\"\n30 \"a\"\n31 \"a\"\n32 \"a\"\n33 \"a\"\n34 \"a\"\n35 \"a\"\n36 \"a\"\n"
    ++ codes "37 \"a\"\n38 \"a\"\n39 \"a\"\n40 \"a\"\n41 \"a\"\n42 \"a\"\n43 \"a\"\n44 \"a\"\n45 \"a\"\n"
    ++ codes "46 \"a\"\n47 \"a\"\n48 \"b\"\n49 \"b\"\n50 \"b\"\n51 \"b\"\n52 \"b\"\n53 \"b\"\n54 \"b\"\n"
    ++ codes "55 \"b\"\n56 \"b\"\n57 \"b\"\n58 \"b\"\n59 \"b\"\n60 \"b\"\n61 \"b\"\n62 \"b\"\n63 \"b\"\n"
    ++ codes "64 \"b\"\n65 \"b\"\n66 \"b\"\n67 \"b\"\n68 \"b\"\n69 \"b\"\n70 \"b\"\n71 \"b\"\n72 \"b\"\n"
    ++ codes "73 \"b\"\n74 \"b\"\n75 \"b\"\n76 \"b\"\n77 \"b\"\n78 \"b\"\n79 \"b\"\n80 \"b\"\n81 \"b\"\n"
    ++ codes "82 \"b\"\n83 \"b\"\n84 \"b\"\n85 \"b\"\n86 \"b\"\n87 \"b\"\n88 \"b\"\n89 \"b\"\n90 \"b\"\n"
    ++ codes "91 \"b\"\n92 \"b\"\n93 \"b\"\n94 \"b\"\n95 \"c\"\n")

-- bytes are compared from the first on, without a sign, and a first part comes before the whole (section 13.5)
abbrev pub KeysAreInOrder : Type 0
KeysAreInOrder =
    (comes_before (1 ∷ 2 ∷ 3 ∷ []) (1 ∷ 2 ∷ 4 ∷ []) ≡ true)
    × (comes_before (1 ∷ 2 ∷ 4 ∷ []) (1 ∷ 2 ∷ 3 ∷ []) ≡ false)
    × (comes_before (1 ∷ 2 ∷ 3 ∷ []) (1 ∷ 2 ∷ 3 ∷ []) ≡ false)
    × (comes_before (1 ∷ 9 ∷ []) (2 ∷ 1 ∷ []) ≡ true)
    × (comes_before (2 ∷ 1 ∷ []) (1 ∷ 9 ∷ []) ≡ false)
    × (comes_before (0x7f ∷ []) (0x80 ∷ []) ≡ true)
    × (comes_before [] (0 ∷ []) ≡ true)
    × (comes_before (0 ∷ []) [] ≡ false)

-- a dictionary at 1 with a separator, of two entries of 7 bytes
abbrev pub keyed : Dictionary
keyed = record { address = 1; separators = 1; entry_length = 7; entries = 2; is_sorted = true; allows_halves = false }

-- bytes that count from 0
abbrev pub counted_bytes : List ℕ
counted_bytes = 0 ∷ 1 ∷ 2 ∷ 3 ∷ 4 ∷ 5 ∷ 6 ∷ 7 ∷ 8 ∷ 9 ∷ 10 ∷ 11 ∷ 12 ∷ 13 ∷ 14 ∷ 15 ∷ 16 ∷ 17 ∷ 18 ∷ 19 ∷ []

-- a key has 4 bytes up to version 3 and 6 from version 4 on, after the count of separators, these, the length of an
-- entry and the count of entries (sections 13.2 to 13.4)
abbrev pub KeysBeginEntries : Type 0
KeysBeginEntries =
    (key_in (memory_of 3 counted_bytes) keyed 0 ≡ 6 ∷ 7 ∷ 8 ∷ 9 ∷ [])
    × (key_in (memory_of 3 counted_bytes) keyed 1 ≡ 13 ∷ 14 ∷ 15 ∷ 16 ∷ [])
    × (key_in (memory_of 4 counted_bytes) keyed 0 ≡ 6 ∷ 7 ∷ 8 ∷ 9 ∷ 10 ∷ 11 ∷ [])
    × (key_in (memory_of 5 counted_bytes) keyed 1 ≡ 13 ∷ 14 ∷ 15 ∷ 16 ∷ 17 ∷ 18 ∷ [])

-- object 1 of version 3 with these links, and without a name and properties
abbrev pub linked : List ℕ → MemoryMap
linked links = listing_object (0 ∷ 0 ∷ 0 ∷ 0 ∷ []) links (0 ∷ 0 ∷ [])

-- a parent, a sibling or a child past the last of 7 objects; an object that has no entry has no links (section 12.3)
abbrev pub LinksPastTheLast : Type 0
LinksPastTheLast =
    (leads_past (linked (7 ∷ 7 ∷ 7 ∷ [])) 7 1 ≡ false)
    × (leads_past (linked (8 ∷ 0 ∷ 0 ∷ [])) 7 1 ≡ true)
    × (leads_past (linked (0 ∷ 8 ∷ 0 ∷ [])) 7 1 ≡ true)
    × (leads_past (linked (0 ∷ 0 ∷ 8 ∷ [])) 7 1 ≡ true)
    × (leads_past (linked (0 ∷ 0 ∷ 0 ∷ [])) 0 1 ≡ false)
    × (leads_past (linked (8 ∷ 8 ∷ 8 ∷ [])) 7 9 ≡ false)

-- an object without a fault; one whose child is its own sibling; one whose property list has no end
abbrev pub QuestionsOnObjects : Type 0
QuestionsOnObjects =
    (answer (linked (1 ∷ 0 ∷ 1 ∷ [])) 1 Links 1 ≡ false)
    × (answer (linked (2 ∷ 0 ∷ 0 ∷ [])) 1 Links 1 ≡ true)
    × (answer (linked (1 ∷ 0 ∷ 1 ∷ [])) 1 Chain 1 ≡ false)
    × (answer (linked (0 ∷ 1 ∷ 1 ∷ [])) 1 Chain 1 ≡ true)
    × (answer (linked (0 ∷ 1 ∷ 1 ∷ [])) 1 Links 1 ≡ false)
    × (answer (linked (0 ∷ 1 ∷ 1 ∷ [])) 1 Properties 1 ≡ false)
    × (answer (listing_object (0 ∷ 0 ∷ 0 ∷ 0 ∷ []) (0 ∷ 0 ∷ 0 ∷ []) (0 ∷ 0x72 ∷ 1 ∷ [])) 1 Properties 1 ≡ true)
    × (answer (listing_object (0 ∷ 0 ∷ 0 ∷ 0 ∷ []) (0 ∷ 0 ∷ 0 ∷ []) (0 ∷ 0x72 ∷ 1 ∷ [])) 1 Chain 1 ≡ false)

-- object 1 of version 5, whose table is at 4 and whose properties are at 144: six bytes of attributes and links of a
-- word; a property's size is one byte, or two where the top bit is set, and then a length of 0 is 64 (sections 12.3.2
-- and 12.4.2)
abbrev pub LateObjectsAreLines : Type 0
LateObjectsAreLines =
    (object_line (memory_by 5 (replicate 10 0 ++ 0 ∷ 4 ∷ []) (replicate 130 0 ++ 0x80 ∷ 0 ∷ 0 ∷ 0 ∷ 0x80 ∷ 1 ∷ 1
    ∷ 2 ∷ 0 ∷ 3 ∷ 1 ∷ 0 ∷ 0 ∷ 144 ∷ 1 ∷ 0x98 ∷ 0xa5 ∷ 0xbf ∷ 0x80 ∷ replicate 64 0 ++ 0x94 ∷ 0x83 ∷ 1 ∷ 2 ∷ 3
    ∷ 0x45 ∷ 1 ∷ 2 ∷ 0x04 ∷ 1 ∷ 0 ∷ [])) 1 ≡ codes
    "1 \"a\" parent 258 sibling 3 child 256 attributes 0,32,47 properties 63:64,20:3,5:2,4:1")
