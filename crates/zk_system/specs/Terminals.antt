-- What is known of a terminal, and what is answered there.
use Rattle.std.specs.Prelude.{ℕ, ◌==◌, ◌&&◌, ◌||◌, Bool, List, codes, Option, Some, None, is_none}
use Rattle.std.specs.Prelude.{if◌then◌else◌, unwrap_or}
use Rattle.std.specs.List.{starts_with}
use Rattle.std.specs.Str.{bytes_eq}

-- a file's name is one that Linux gives to terminals
abbrev pub names_terminal : List ℕ → Bool
names_terminal name =
    starts_with ◌==◌ name (codes "/dev/pts/")
    || (starts_with ◌==◌ name (codes "/dev/tty") || bytes_eq name (codes "/dev/console"))

-- how many columns or lines a screen has: none are known where it is no terminal; else those that were said, or as many
-- as are usual
abbrev pub shown_size : Bool → Option ℕ → ℕ → Option ℕ
shown_size is_terminal said usual = if is_terminal then Some (unwrap_or said usual) else None

-- a terminal's size is assumed where nothing said it
abbrev pub is_assumed : Bool → Option ℕ → Bool
is_assumed is_terminal said = is_terminal && is_none said

-- an answer that allows what was asked
abbrev pub is_yes : List ℕ → Bool
is_yes answer = bytes_eq answer (codes "y") || (bytes_eq answer (codes "Y") || bytes_eq answer (codes "yes"))
