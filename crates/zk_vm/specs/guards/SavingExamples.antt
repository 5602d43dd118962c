-- Worked examples of saved games and of states to go back to: small stories, worked out by hand.
use Rattle.std.specs.Prelude.{◌≡◌, ℕ, ◌+◌, List, [], ◌∷◌, ◌++◌, Some, None, replicate, true, false}
use Rattle.zk_mem.specs.Fresh.{plain_screen}
use Rattle.zk_save.specs.declared.restore.RestoreError.TheVariants.{Truncated}
use Rattle.zk_state.specs.declared.refusal.Limit.TheVariants.{Steps}
use Rattle.zk_vm.specs.declared.limits.Limits.{Limits}
use Rattle.zk_step.specs.declared.state.ending.Event.TheVariants as event
use Rattle.zk_vm.specs.declared.stop.Stop.TheVariants.{Quit, Limit}
use Rattle.zk_vm.specs.Answers.{Answer}
use Rattle.zk_vm.specs.Answers.Answer.{GameKept, File}
use Rattle.zk_vm.specs.guards.Examples.{log_of, starts, story_of}
use Rattle.zk_vm.specs.Halts.{event_waited}
use Rattle.zk_vm.specs.Log.{Entry, after, passed}
use Rattle.zk_vm.specs.Log.Entry.{Asked, At, Offered, Shown, Stopped}
use Rattle.zk_vm.specs.Log.Move.{Gets, Goes}
use Rattle.zk_vm.specs.Sessions.{Session}
use Rattle.zk_vm.specs.Plays.{image_of}
use Rattle.zk_term.specs.Signals.Signal.{Text}
use Rattle.zk_term.specs.Styles.{roman}

-- one frame, nine words, so many states to go back to, and so many instructions
abbrev pub keeping : ℕ → ℕ → Limits
keeping undo steps = record { frames = 1; words = 9; undo = undo; steps = steps; screen = plain_screen }

-- `add` of 48 to the top of the evaluation stack, and `print_char` of that: a digit
abbrev pub prints_digit : List ℕ
prints_digit = 0x54 ∷ 0 ∷ 48 ∷ 0 ∷ 0xe5 ∷ 0xbf ∷ 0 ∷ []

-- they stand at an address, and a character is shown
abbrev pub digit : ℕ → ℕ → List Entry
digit a c = At a ∷ At (a + 4) ∷ Shown (Text c roman) ∷ []

-- at 64 `save_undo`, at 68 its answer is printed, at 75 `restore_undo`, at 79 its answer is printed, at 86 `quit`
abbrev pub goes_back : List ℕ
goes_back =
    story_of (0xbe ∷ 9 ∷ 0xff ∷ 0 ∷ [] ++ prints_digit ++ 0xbe ∷ 10 ∷ 0xff ∷ 0 ∷ [] ++ prints_digit ++ 0xba ∷ [])

-- what passes where `save_undo` keeps a state, up to the `quit`
abbrev pub there_and_back : List Entry
there_and_back = At 64 ∷ digit 68 49 ++ At 75 ∷ digit 68 50 ++ At 75 ∷ digit 79 48

-- `save_undo` gives 1, `restore_undo` goes back there and gives 2, and 0 the second time; where no state is kept
-- `save_undo` gives -1 (section 15, `save_undo` and `restore_undo`)
abbrev pub StatesAreBack : Type 0
StatesAreBack =
    (log_of 11 (starts goes_back (keeping 1 10)) ≡ there_and_back ++ At 86 ∷ Stopped Quit ∷ [])
    × (log_of 11 (starts goes_back (keeping 0 10)) ≡ At 64 ∷ digit 68 47 ++ At 75 ∷ digit 79 48 ++ At 86
    ∷ Stopped Quit ∷ [])

-- each is one step
abbrev pub GoingBackIsAStep : Type 0
GoingBackIsAStep = log_of 11 (starts goes_back (keeping 1 9)) ≡ there_and_back ++ Stopped (Limit 86 Steps) ∷ []

-- two states are kept, at 64 and 68; at 72 the answer is printed, at 79 `restore_undo`, at 83 its answer, at 90 `quit`
abbrev pub goes_back_twice : List ℕ
goes_back_twice =
    story_of (0xbe ∷ 9 ∷ 0xff ∷ 0 ∷ 0xbe ∷ 9 ∷ 0xff ∷ 0 ∷ [] ++ prints_digit ++ 0xbe ∷ 10 ∷ 0xff ∷ 0 ∷ []
    ++ prints_digit ++ 0xba ∷ [])

-- what passes from the print of the answer 1 on, where the state that was kept last is back, up to the next
-- `restore_undo`
abbrev pub newest_back : List Entry
newest_back = digit 72 49 ++ At 79 ∷ digit 72 50 ++ At 79 ∷ []

-- the newest state is gone back to first
abbrev pub NewestFirst : Type 0
NewestFirst = log_of 18 (starts goes_back_twice (keeping 2 40)) ≡ At 64 ∷ At 68 ∷ newest_back ++ At 68
    ∷ newest_back ++ digit 83 48 ++ At 90 ∷ Stopped Quit ∷ []

-- no more are kept than there may be
abbrev pub NoMoreAreKept : Type 0
NoMoreAreKept = log_of 12 (starts goes_back_twice (keeping 1 40)) ≡ At 64 ∷ At 68 ∷ newest_back ++ digit 83 48
    ++ At 90 ∷ Stopped Quit ∷ []

-- at 64 `save` or `restore`, at 68 its answer is printed, at 75 `quit`
abbrev pub asks : ℕ → List ℕ
asks number = story_of (0xbe ∷ number ∷ 0xff ∷ 0 ∷ [] ++ prints_digit ++ 0xba ∷ [])

-- what passes where it gets an answer
abbrev pub answered_with : Answer → Session → List Entry
answered_with a s = passed (Goes ∷ Gets a ∷ replicate 4 Goes) s

-- the saved game that it offers
abbrev pub offered : ℕ → List ℕ
offered steps = image_of (after (Goes ∷ []) (starts (asks 0) (keeping 0 steps)))

-- a saved game that is kept gives 1, one that is not 0 (section 15, `save`)
abbrev pub SavesAreAnswered : Type 0
SavesAreAnswered =
    (answered_with (GameKept true) (starts (asks 0) (keeping 0 4)) ≡ At 64 ∷ Offered (offered 4) true
    ∷ digit 68 49 ++ At 75 ∷ Stopped Quit ∷ [])
    × (answered_with (GameKept false) (starts (asks 0) (keeping 0 4)) ≡ At 64 ∷ Offered (offered 4) false
    ∷ digit 68 48 ++ At 75 ∷ Stopped Quit ∷ [])
    × (answered_with (GameKept true) (starts (asks 0) (keeping 0 3)) ≡ At 64 ∷ Offered (offered 3) true
    ∷ digit 68 49 ++ Stopped (Limit 75 Steps) ∷ [])

-- without a saved game, or with one that is cut off, the answer is 0 (section 15, `restore`)
abbrev pub RestoresAreAnswered : Type 0
RestoresAreAnswered =
    (answered_with (File None) (starts (asks 1) (keeping 0 4)) ≡ At 64 ∷ Asked None None ∷ digit 68 48 ++ At 75
    ∷ Stopped Quit ∷ [])
    × (answered_with (File (Some (1 ∷ []))) (starts (asks 1) (keeping 0 4)) ≡ At 64
    ∷ Asked (Some (1 ∷ [])) (Some Truncated) ∷ digit 68 48 ++ At 75 ∷ Stopped Quit ∷ [])
    × (answered_with (File None) (starts (asks 1) (keeping 0 3)) ≡ At 64 ∷ Asked None None ∷ digit 68 48
    ++ Stopped (Limit 75 Steps) ∷ [])

-- a machine that has answered as many reads as there may be
abbrev pub past_reads : Session → Session
past_reads s = record s { state = record s.state { reads = 16777216 } }

-- reads alone are limited: after the most of them a `save` waits still
abbrev pub SavesWaitPastTheMostReads : Type 0
SavesWaitPastTheMostReads =
    event_waited (after (Goes ∷ []) (past_reads (starts (asks 0) (keeping 0 4)))).waiting ≡ Some event.Save
