-- Worked examples of walkthroughs, by hand.
use Rattle.std.specs.Prelude.{◌≡◌, ℕ, true, false, List, [], ◌∷◌, ◌++◌, codes, Some, None}
use Rattle.zk_suite.specs.Scripts.{commands_of, checks_of, numbered_commands, settings_of, setting_in, first_of}
use Rattle.zk_suite.specs.Scripts.{recorded, unmarked}

abbrev pub walkthrough : List ℕ
walkthrough =
    codes "# story: a.z5\n#\n# Seven turns.\n# seed: 7\n! Welcome\nlook\r\n! You are\n!~ It is dark\n\n# east\n! A hall"

-- what is typed, and what is asked of the answers; a carriage return before a new line is dropped, and a comment that
-- stands behind a command is a command
abbrev pub ScriptsAreRead : Type 0
ScriptsAreRead =
    (commands_of walkthrough ≡ codes "look\n\n# east\n")
    × (checks_of walkthrough ≡
    record { commands = 0; line = 5; wanted = true; text = codes "Welcome" }
    ∷ record { commands = 1; line = 7; wanted = true; text = codes "You are" }
    ∷ record { commands = 1; line = 8; wanted = false; text = codes "It is dark" }
    ∷ record { commands = 3; line = 11; wanted = true; text = codes "A hall" }
    ∷ [])
    × (numbered_commands walkthrough ≡
    record { line = 6; text = codes "look" }
    ∷ record { line = 9; text = [] }
    ∷ record { line = 10; text = codes "# east" }
    ∷ [])
    × (settings_of walkthrough ≡ (codes "story", codes "a.z5") ∷ (codes "seed", codes "7") ∷ [])
    × (first_of (codes "seed") (settings_of walkthrough) ≡ Some (codes "7"))
    × (first_of (codes "save") (settings_of walkthrough) ≡ None)

-- comments end at the first line of another kind; nothing after the last new line is no line
abbrev pub CommentsEnd : Type 0
CommentsEnd =
    (commands_of (codes "#\n##\n# x\n") ≡ codes "##\n# x\n")
    × (commands_of (codes "#x\n!\n!~\n!~x") ≡ codes "#x\n!\n!~\n!~x\n")
    × (settings_of (codes "go\n# seed: 7\n") ≡ [])
    × (checks_of (codes "# a: b\n! \n") ≡ record { commands = 0; line = 2; wanted = true; text = [] } ∷ [])
    × (commands_of [] ≡ [])

-- a key has letters, digits and hyphens, and at least one of them; the first of two settings of a name counts
abbrev pub SettingsAreRead : Type 0
SettingsAreRead =
    (setting_in (codes "# key-2: a: b  ") ≡ Some (codes "key-2", codes "a: b"))
    × (setting_in (codes "# key:    ") ≡ Some (codes "key", []))
    × (setting_in (codes "# key:") ≡ None)
    × (setting_in (codes "# two words: x") ≡ None)
    × (setting_in (codes "# : x") ≡ None)
    × (setting_in (codes "#") ≡ None)
    × (first_of (codes "a") (settings_of (codes "# a: 1\n# a: 2\n")) ≡ Some (codes "1"))

-- a backslash at the start of a command is dropped, one of two too; with it no line asks anything or is a comment
abbrev pub BackslashesAreDropped : Type 0
BackslashesAreDropped =
    (commands_of (92 ∷ codes "# x\n" ++ 92 ∷ codes "! west\n" ++ 92 ∷ 92 ∷ codes "a\nb" ++ 92 ∷ codes "\n")
    ≡ codes "# x\n! west\n" ++ 92 ∷ codes "a\nb" ++ 92 ∷ codes "\n")
    × (numbered_commands (92 ∷ codes "! x\n! y\n" ++ 92 ∷ 92 ∷ codes "a") ≡
    record { line = 1; text = codes "! x" } ∷ record { line = 3; text = 92 ∷ codes "a" } ∷ [])
    × (recorded (codes "! west") ≡ 92 ∷ codes "! west")
    × (recorded (codes "#") ≡ 92 ∷ codes "#")
    × (recorded (codes "a!") ≡ codes "a!")

-- a byte order mark is dropped where it is whole, and once
abbrev pub MarksAreDropped : Type 0
MarksAreDropped =
    (unmarked (0xef ∷ 0xbb ∷ 0xbf ∷ codes "# a") ≡ codes "# a")
    × (unmarked (0xef ∷ 0xbb ∷ 0xbf ∷ 0xef ∷ 0xbb ∷ 0xbf ∷ []) ≡ 0xef ∷ 0xbb ∷ 0xbf ∷ [])
    × (unmarked (0xef ∷ 0xbb ∷ []) ≡ 0xef ∷ 0xbb ∷ [])
    × (unmarked (0xef ∷ 0xbb ∷ 0xbe ∷ []) ≡ 0xef ∷ 0xbb ∷ 0xbe ∷ [])
