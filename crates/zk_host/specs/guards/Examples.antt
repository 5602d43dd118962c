-- Worked examples of marks, hashes, objects, changes and keys, by hand.
use Rattle.std.specs.Prelude.{◌≡◌, ℕ, true, false, [], ◌∷◌, ◌++◌, map, replicate, Some, None, Ok, Err}
use Rattle.zk_mem.specs.declared.fault.Fault.TheVariants.{BadObject, BadProperty, ReadOnly}
use Rattle.zk_mem.specs.Fresh.{plain_setup}
use Rattle.zk_mem.specs.Map.{MemoryMap}
use Rattle.zk_term.specs.Signals.Signal.{Text, Script, Erase, Beep}
use Rattle.zk_term.specs.declared.style.Bleep.TheVariants.{High, Low}
use Rattle.zk_term.specs.declared.style.Style.{Style}
use Rattle.zk_host.specs.declared.collected.Collected.{Collected}
use Rattle.zk_host.specs.Collecting.{nothing_collected}
use Rattle.zk_host.specs.Marks.{marked, run_by, run_of, style_mark}
use Rattle.zk_vm.specs.Changes.{changed_by}
use Rattle.zk_vm.specs.declared.machine.changing.Change.TheVariants as change
use Rattle.zk_host.specs.Calls.{marks_from}
use Rattle.zk_host.specs.Changing.{move_of, word_of}
use Rattle.zk_host.specs.Hashes.{hash_of}
use Rattle.zk_host.specs.Looking.{object_of, property_of}
use Rattle.zk_host.specs.Typing.{character_code}

-- no style
abbrev pub plain : Style
plain = record { reverse = false; bold = false; italic = false; fixed = false }

-- each style has its own number, and styles add up
abbrev pub StylesHaveMarks : Type 0
StylesHaveMarks =
    (style_mark plain ≡ 0)
    × (style_mark (record plain { reverse = true }) ≡ 1)
    × (style_mark (record plain { bold = true }) ≡ 2)
    × (style_mark (record plain { italic = true }) ≡ 4)
    × (style_mark (record plain { fixed = true }) ≡ 8)
    × (style_mark (record { reverse = true; bold = true; italic = true; fixed = true }) ≡ 15)

-- An erasure comes before a reversed A; two bleeps before the first of the two bytes of an é, and one after it. What
-- the transcript is given marks nothing.
abbrev pub SignalsMark : Type 0
SignalsMark =
    marked (Erase ∷ Text 65 (record plain { reverse = true }) ∷ Beep High ∷ Script 66 ∷ Beep Low ∷ Text 233 plain
    ∷ Beep Low ∷ []) (record { bytes = []; before = 0 })
    ≡ record { bytes = 17 ∷ 96 ∷ 0 ∷ []; before = 64 }

-- Of no bytes, of "a" and of "foobar", by the authors of FNV-1a.
abbrev pub HashesAreKnown : Type 0
HashesAreKnown =
    (hash_of [] ≡ 14695981039346656037)
    × (hash_of (97 ∷ []) ≡ 12638187200555641996)
    × (hash_of (102 ∷ 111 ∷ 111 ∷ 98 ∷ 97 ∷ 114 ∷ []) ≡ 9625390261332436968)

-- Of five addresses the second and the last are marked: from the first on, from the third, and past the end.
abbrev pub MarksAreBytes : Type 0
MarksAreBytes =
    let marks = Some (false ∷ true ∷ false ∷ false ∷ true ∷ []) in
    (marks_from marks 0 ≡ 0 ∷ 1 ∷ 0 ∷ 0 ∷ 1 ∷ [])
    × (marks_from marks 2 ≡ 0 ∷ 0 ∷ 1 ∷ [])
    × (marks_from marks 9 ≡ [])
    × (marks_from None 0 ≡ [])

-- Version 3: object 1 has its entry at 66, the parent 7, the sibling 8, the child 9 and its property table at 75, with
-- a name of one word, property 5 of one byte at 79 and property 3 of two bytes at 81.
abbrev pub an_object : MemoryMap
an_object = record {
  version = 3;
  static_base = 999;
  bytes = replicate 70 0 ++ 7 ∷ 8 ∷ 9 ∷ 0 ∷ 75 ∷ 1 ∷ 0x98 ∷ 0xe8 ∷ 5 ∷ 42 ∷ 35 ∷ 1 ∷ 2 ∷ 0 ∷ [];
  file = replicate 11 0 ++ 4 ∷ [];
  setup = plain_setup 0;
}

-- Before the first property the next one is the first; after the last there is none. What the object does not have, and
-- object 0, are not told.
abbrev pub ObjectsAreTold : Type 0
ObjectsAreTold =
    (object_of an_object 1 ≡ Ok (record { entry = 66; parent = 7; sibling = 8; child = 9; properties = 75 }))
    × (object_of an_object 0 ≡ Err BadObject)
    × (property_of an_object 1 0 ≡ Ok (record { next = 5; address = 0; length = 0 }))
    × (property_of an_object 1 5 ≡ Ok (record { next = 3; address = 79; length = 1 }))
    × (property_of an_object 1 3 ≡ Ok (record { next = 0; address = 81; length = 2 }))
    × (property_of an_object 1 4 ≡ Err BadProperty)

-- Version 3: two objects at 66 and 75, of which the second has such a parent, and the first such a child.
abbrev pub two_objects : ℕ → ℕ → MemoryMap
two_objects parent child = record an_object {
  bytes = replicate 72 0 ++ child ∷ 0 ∷ 0 ∷ 0 ∷ 0 ∷ 0 ∷ 0 ∷ parent ∷ 0 ∷ 0 ∷ 0 ∷ 0 ∷ [];
}

-- A word and an object have 16 bits. An object that goes into 0 goes out of its parent.
abbrev pub ChangesAreRead : Type 0
ChangesAreRead =
    (word_of 64 65535 ≡ Some (change.Word 64 65535))
    × (word_of 64 65536 ≡ None)
    × (move_of 7 8 ≡ Some (change.Insertion 7 8))
    × (move_of 7 0 ≡ Some (change.Removal 7))
    × (move_of 0 65535 ≡ Some (change.Insertion 0 65535))
    × (move_of 65536 1 ≡ None)
    × (move_of 1 65536 ≡ None)

-- The word is put high byte first, below the static base alone. The second object goes into the first one, and out.
abbrev pub ChangesAreMade : Type 0
ChangesAreMade =
    (changed_by (change.Word 72 515) (two_objects 0 0) ≡ Ok (record an_object {
      bytes = replicate 72 0 ++ 2 ∷ 3 ∷ 0 ∷ 0 ∷ 0 ∷ 0 ∷ 0 ∷ 0 ∷ 0 ∷ 0 ∷ 0 ∷ 0 ∷ [];
    }))
    × (changed_by (change.Word 72 515) (record (two_objects 0 0) { static_base = 73 }) ≡ Err ReadOnly)
    × (changed_by (change.Insertion 2 1) (two_objects 0 0) ≡ Ok (two_objects 1 2))
    × (changed_by (change.Removal 2) (two_objects 1 2) ≡ Ok (two_objects 0 0))

-- By the Standard's extra characters: delete, escape and the function keys are their own codes where there are such
-- keys, and question marks else. What is a character is its code all the same: a new line 13, a tab a space, an ä 155.
abbrev pub KeysAreCodes : Type 0
KeysAreCodes =
    (map (character_code None true) (8 ∷ 27 ∷ 129 ∷ 154 ∷ []) ≡ 8 ∷ 27 ∷ 129 ∷ 154 ∷ [])
    × (map (character_code None false) (8 ∷ 27 ∷ 129 ∷ 154 ∷ []) ≡ 63 ∷ 63 ∷ 63 ∷ 63 ∷ [])
    × (map (character_code None true) (0 ∷ 7 ∷ 26 ∷ 28 ∷ 127 ∷ 128 ∷ 155 ∷ 252 ∷ 385 ∷ [])
    ≡ 63 ∷ 63 ∷ 63 ∷ 63 ∷ 63 ∷ 63 ∷ 63 ∷ 157 ∷ 63 ∷ [])
    × (map (character_code None true) (10 ∷ 13 ∷ 9 ∷ 97 ∷ 228 ∷ []) ≡ 13 ∷ 13 ∷ 32 ∷ 97 ∷ 155 ∷ [])

-- nothing waits, and a low bleep has sounded
abbrev pub after_a_bleep : Collected
after_a_bleep = record nothing_collected { before = 64 }

-- two bytes wait after it, whose marks are lost
abbrev pub without_marks : Collected
without_marks = record after_a_bleep { screen = record { bytes = 65 ∷ 66 ∷ []; failed = false } }

-- A run ends where the style changes or where something comes between. What came before it is told unless it was, and
-- where no byte waits, what came after the last. Bytes without marks are one run.
abbrev pub RunsAreTold : Type 0
RunsAreTold =
    (run_by (17 ∷ 1 ∷ 1 ∷ 17 ∷ 0 ∷ []) after_a_bleep ≡ record { length = 3; style = 1; before = 16 })
    × (run_by (17 ∷ 1 ∷ 0 ∷ []) (record after_a_bleep { told = true }) ≡ record { length = 2; style = 1; before = 0 })
    × (run_by [] after_a_bleep ≡ record { length = 0; style = 0; before = 64 })
    × (run_of (record without_marks { styled = true }) ≡ record { length = 2; style = 0; before = 64 })
    × (run_of without_marks ≡ record { length = 2; style = 0; before = 0 })
