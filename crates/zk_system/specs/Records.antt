-- The comments that begin the record of a play: what a later play of its lines needs.
use Rattle.std.specs.Prelude.{◌≡◌, ℕ, Bool, true, false, ◌&&◌, List, [], ◌∷◌, ◌++◌, Option, Some, None, codes}
use Rattle.std.specs.Prelude.{decimal, if◌then◌else◌}
use Rattle.zk_suite.specs.Scripts.{is_set_apart, recorded}
use Rattle.zk_vm.specs.declared.limits.Limits.{Limits}
use Rattle.zk_step.specs.declared.state.game_state.View.{View}
use Rattle.zk_step.specs.declared.state.game_state.View.TheVariants.{Plain, Upper}
use Rattle.zk_command.specs.declared.settings.Settings.{Settings}

-- a comment that sets something
unfoldable pub setting : List ℕ → List ℕ → List ℕ
setting name value = codes "# " ++ name ++ codes ": " ++ value ++ codes "\n"

-- those of the limits: on frames and words, and on states to go back to and steps
unfoldable pub frame_settings : Limits → List ℕ
frame_settings l = setting (codes "frames") (decimal l.frames) ++ setting (codes "words") (decimal l.words)

unfoldable pub run_settings : Limits → List ℕ
run_settings l = setting (codes "undo") (decimal l.undo) ++ setting (codes "steps") (decimal l.steps)

-- that of the view, where it is not the plain one
unfoldable pub view_setting : View → List ℕ
view_setting Plain = []
view_setting Upper = setting (codes "upper") (codes "yes")

-- that of the columns of the screen, where lines are wrapped
unfoldable pub width_setting : Option ℕ → List ℕ
width_setting None = []
width_setting (Some n) = setting (codes "width") (decimal n)

-- the story and the seed, and then those of the limits
unfoldable pub play_settings : List ℕ → Settings → List ℕ
play_settings story s =
    (setting (codes "story") story ++ setting (codes "seed") (decimal s.seed))
    ++ (frame_settings s.limits ++ run_settings s.limits)

-- all of them, by the story's path
unfoldable pub record_heading : List ℕ → Settings → Option ℕ → List ℕ
record_heading story s width = play_settings story s ++ (view_setting s.view ++ width_setting width)

-- ---- the lines that are read

-- a part of a line begins as a command that needs a backslash before it
abbrev pub begins_apart : List ℕ → Bool
begins_apart [] = false
begins_apart (b ∷ bs) = is_set_apart b

-- a part of a line that was read, as the record has it: a backslash stands before it where it begins such a line
abbrev pub recorded_part : Bool → List ℕ → List ℕ
recorded_part begins_line part = if begins_line && begins_apart part then 92 ∷ part else part

-- a line that was read is recorded as its walkthrough has it, in whatever two parts it came
abbrev pub LinesAreRecorded : Type 0
LinesAreRecorded = (b : ℕ) (part rest : List ℕ)
    → recorded_part true (b ∷ part) ++ recorded_part false rest ≡ recorded ((b ∷ part) ++ rest)
