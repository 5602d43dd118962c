-- The line before a listing, where a story is one of several.
use Rattle.std.specs.Prelude.{ℕ, List, [], ◌++◌, Option, Some, None, codes}
use Rattle.std.specs.IoError.{error_kind}
use Rattle.zk_program.specs.LastLine.{refused_words, unread_words}
use Rattle.zk_program.specs.declared.exit.Exit.{Exit}
use Rattle.zk_program.specs.declared.exit.Exit.TheVariants.{Unread, Refused}

-- why a story is not listed, behind its path
abbrev pub behind_path : Option Exit → List ℕ
behind_path (Some (Unread e)) = codes ": " ++ (unread_words (error_kind e) ++ codes "\n")
behind_path (Some (Refused e)) = codes ": " ++ (refused_words e ++ codes "\n")
behind_path _ = codes ":\n"

-- the line, by the path, and by why the story is not listed, if it isn't; there is none where it is the only one
abbrev pub heading : Option (List ℕ) → Option Exit → List ℕ
heading None refused = []
heading (Some path) refused = path ++ behind_path refused
