-- Walkthroughs: comments, and after them commands and what is asked of their answers.
use Rattle.std.specs.Prelude.{ℕ, ◌+◌, ◌-◌, ◌==◌, ◌&&◌, ◌||◌, Bool, true, false, List, [], ◌∷◌, ◌++◌, length, take, drop}
use Rattle.std.specs.Prelude.{◌≡◌, filter, codes, nat_lt, is_none, option_map, if◌then◌else◌, Option, Some, None}
use Rattle.std.specs.List.{filter_map, find, flat_map, cons_option, prefix_len, suffix_len, starts_with}
use Rattle.std.specs.Char.{is_ascii_alphanumeric}
use Rattle.std.specs.Str.{bytes_eq}
use Rattle.std.specs.Str.Lines.{lines}

-- ---- the file

-- a byte order mark
abbrev pub mark : List ℕ
mark = 0xef ∷ 0xbb ∷ 0xbf ∷ []

-- a file without the mark that it may begin with
abbrev pub unmarked : List ℕ → List ℕ
unmarked bytes = if starts_with ◌==◌ bytes mark then drop 3 bytes else bytes

-- ---- comments

-- a comment is a number sign alone, or begins with one and a space
abbrev pub is_comment : List ℕ → Bool
is_comment line = bytes_eq line (codes "#") || starts_with ◌==◌ line (codes "# ")

-- the comments that lines begin with
unfoldable pub comments : List (List ℕ) → List (List ℕ)
comments [] = []
comments (l ∷ ls) = if is_comment l then l ∷ comments ls else []

-- the lines after the comments that they begin with
unfoldable pub script : List (List ℕ) → List (List ℕ)
script [] = []
script (l ∷ ls) = if is_comment l then script ls else l ∷ ls

-- ---- settings

-- a key has letters, digits and hyphens (45)
abbrev pub is_key_byte : ℕ → Bool
is_key_byte b = is_ascii_alphanumeric b || (b == 45)

abbrev pub is_space : ℕ → Bool
is_space b = b == 32

-- bytes without the spaces that they begin with
abbrev pub without_front : List ℕ → List ℕ
without_front bytes = drop (prefix_len is_space bytes) bytes

-- bytes without the spaces that they end with
abbrev pub without_back : List ℕ → List ℕ
without_back bytes = take (length bytes - suffix_len is_space bytes) bytes

-- the key and the value of a setting, where a comment is one: after the number sign and a space come a key, a colon, a
-- space and the value; spaces before and after the value are dropped
unfoldable pub setting_in : List ℕ → Option (List ℕ × List ℕ)
setting_in line =
    let text = drop 2 line in
    let n = prefix_len is_key_byte text in
    if starts_with ◌==◌ line (codes "# ") && (nat_lt 0 n && starts_with ◌==◌ (drop n text) (codes ": "))
    then Some (take n text, without_back (without_front (drop (n + 2) text)))
    else None

-- the settings of a walkthrough, in order
abbrev pub settings_of : List ℕ → List (List ℕ × List ℕ)
settings_of bytes = filter_map setting_in (comments (lines bytes))

-- the value of the first setting of a name
abbrev pub first_of : List ℕ → List (List ℕ × List ℕ) → Option (List ℕ)
first_of name settings = option_map (λ s. s.1) (find (λ s. bytes_eq s.0 name) settings)

-- ---- commands and checks

-- what a line asks of an answer: that it has a text, or that it has not
abbrev pub asked : List ℕ → Option (Bool × List ℕ)
asked line =
    if starts_with ◌==◌ line (codes "! ") then Some (true, drop 2 line)
    else if starts_with ◌==◌ line (codes "!~ ") then Some (false, drop 3 line)
    else None

-- a line that asks nothing is a command
abbrev pub is_command : List ℕ → Bool
is_command line = is_none (asked line)

-- what is typed by a command: a backslash (92) that it begins with only tells it from other lines
abbrev pub typed_command : List ℕ → List ℕ
typed_command line = if starts_with ◌==◌ line (92 ∷ []) then drop 1 line else line

-- commands as they are typed, each with a new line after it
unfoldable pub typed : List (List ℕ) → List ℕ
typed ls = flat_map (λ l. typed_command l ++ codes "\n") (filter is_command ls)

-- what is typed in the play of a walkthrough
abbrev pub commands_of : List ℕ → List ℕ
commands_of bytes = typed (script (lines bytes))

-- what a command begins with that needs a backslash before it: a number sign (35), an exclamation mark (33) or a
-- backslash
abbrev pub is_set_apart : ℕ → Bool
is_set_apart b = (b == 35) || (b == 33) || (b == 92)

-- a line that was typed, as a walkthrough has it
abbrev pub recorded : List ℕ → List ℕ
recorded [] = []
recorded (b ∷ bs) = if is_set_apart b then 92 ∷ b ∷ bs else b ∷ bs

-- each line that was typed is typed again by its walkthrough: it is no comment, and asks nothing
abbrev pub RecordedIsTyped : Type 0
RecordedIsTyped = (line : List ℕ) → (is_comment (recorded line) ≡ false)
    × (asked (recorded line) ≡ None) × (typed_command (recorded line) ≡ line)

-- what is asked of the answer to the last of so many commands, by a line of a number
pub record Asked : Type 0 where
  pub commands : ℕ
  pub line : ℕ
  pub wanted : Bool
  pub text : List ℕ

-- what a line asks, where it asks something
abbrev pub asked_at : ℕ → ℕ → List ℕ → Option Asked
asked_at commands line l =
    option_map (λ a. record { commands = commands; line = line; wanted = a.0; text = a.1 }) (asked l)

-- how many commands a line is
abbrev pub command_count : List ℕ → ℕ
command_count line = if is_command line then 1 else 0

-- what lines ask, after so many commands and so many lines
unfoldable pub checks_after : ℕ → ℕ → List (List ℕ) → List Asked
checks_after commands line [] = []
checks_after commands line (l ∷ ls) =
    cons_option (asked_at commands (line + 1) l) (checks_after (commands + command_count l) (line + 1) ls)

-- what a walkthrough asks; its lines are numbered from 1, comments too
abbrev pub checks_of : List ℕ → List Asked
checks_of bytes = checks_after 0 (length (comments (lines bytes))) (script (lines bytes))

-- a command as it is typed, and the number of its line
pub record Command : Type 0 where
  pub line : ℕ
  pub text : List ℕ

-- the commands that lines are, after so many lines
unfoldable pub commands_after : ℕ → List (List ℕ) → List Command
commands_after line [] = []
commands_after line (l ∷ ls) =
    if is_command l
    then record { line = line + 1; text = typed_command l } ∷ commands_after (line + 1) ls
    else commands_after (line + 1) ls

-- the commands of a walkthrough; its lines are numbered from 1, comments too
abbrev pub numbered_commands : List ℕ → List Command
numbered_commands bytes = commands_after (length (comments (lines bytes))) (script (lines bytes))
