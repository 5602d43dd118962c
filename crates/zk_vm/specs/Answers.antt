-- The answers that a machine waits for (Standard, section 15, `sread`, `aread`, `read_char`, `save` and `restore`).
use Rattle.std.specs.Prelude.{ℕ, ◌+◌, Bool, true, false, ◌&&◌, List, [], ◌∷◌, ◌++◌, is_none, Option, Some, None, Result}
use Rattle.std.specs.Prelude.{Ok, Err, if◌then◌else◌, ◌==◌}
use Rattle.zk_mem.specs.declared.fault.Fault.{Fault}
use Rattle.zk_mem.specs.Map.{MemoryMap}
use Rattle.zk_text.specs.Extra.{own_characters}
use Rattle.zk_text.specs.Shown.{shown_all}
use Rattle.zk_code.specs.declared.instr.Instr.{Instr}
use Rattle.zk_step.specs.declared.state.ending.Event.{Event}
use Rattle.zk_step.specs.declared.state.ending.Event.TheVariants.{Line, Char, Save, Restore}
use Rattle.zk_step.specs.declared.state.game_state.GameState.{GameState}
use Rattle.zk_state.specs.Frames.{FrameList}
use Rattle.zk_save.specs.declared.restore.RestoreError.{RestoreError}
use Rattle.zk_save.specs.declared.restore.RestoreError.TheVariants as restore_error
use Rattle.zk_save.specs.Loading.{restored}
use Rattle.zk_save.specs.States.{WholeState, gone_back}
use Rattle.zk_step.specs.Inputs.{line_answered, character_answered, result_answered}
use Rattle.zk_step.specs.Restarts.{windows_closed}
use Rattle.zk_step.specs.Resuming.{resumed}
use Rattle.zk_step.specs.Routing.{no_signals, script_is_on}
use Rattle.zk_step.specs.Status.{code_units}
use Rattle.zk_step.specs.Streams.{newest_of}
use Rattle.zk_step.specs.TextBuffers.{kept_of}
use Rattle.zk_vm.specs.declared.waiting.Waiting.{Waiting}
use Rattle.zk_state.specs.declared.refusal.Limit.{Limit}
use Rattle.zk_vm.specs.Step.{State, Step, goes_to, step_by}
use Rattle.zk_vm.specs.Step.Step.{Goes, Exceeds}

-- an answer: the codes of a line that was typed and the one that ended it, whether a saved game was kept, or a saved
-- game, where there is one
pub data Answer : Type 0 where
  Typed : (codes : List ℕ) (ended : ℕ) → Answer
  GameKept : (kept : Bool) → Answer
  File : (file : Option (List ℕ)) → Answer

-- the codes of an answer; what is no line has none
abbrev pub codes_of : Answer → List ℕ
codes_of (Typed codes ended) = codes
codes_of _ = []

-- the code that ended an answer; 13, a new line, for what is no line
abbrev pub end_of : Answer → ℕ
end_of (Typed codes ended) = ended
end_of _ = 13

-- a saved game was kept
abbrev pub is_kept : Answer → Bool
is_kept (GameKept kept) = kept
is_kept _ = false

-- the saved game of an answer
abbrev pub file_of : Answer → Option (List ℕ)
file_of (File file) = file
file_of _ = None

-- ---- reads

-- the first code of a line, and a new line where it has none
abbrev pub first_code : List ℕ → ℕ
first_code [] = 13
first_code (c ∷ cs) = c

-- letters, none where the text buffer can't be read
abbrev pub letters_or_none : Result (List ℕ) Fault → List ℕ
letters_or_none (Ok letters) = letters
letters_or_none (Err f) = []

-- the new line of a line that a new line ended, and nothing of another
abbrev pub end_shown : ℕ → List ℕ
end_shown ended = if ended == 13 then 10 ∷ [] else []

-- a line as the transcript shows it: what its text buffer takes of it, as it was typed, and its new line (section 15,
-- `read`)
abbrev pub line_shown : MemoryMap → ℕ → List ℕ → ℕ → List ℕ
line_shown m text codes ended =
    shown_all (own_characters m) (code_units (letters_or_none (kept_of m text codes))) ++ end_shown ended

-- the transcript is on, and no table of stream 3 is open
abbrev pub is_transcribed : GameState → Bool
is_transcribed w = script_is_on w.memory && is_none (newest_of w.streams.tables)

-- what the transcript gets of what was typed: a line, but no character (section 7.1.1.1)
abbrev pub transcribed : GameState → Event → List ℕ → ℕ → List ℕ
transcribed w (Line text parse) codes ended = if is_transcribed w then line_shown w.memory text codes ended else []
transcribed w _ codes ended = []

-- the read is answered: no steps were made since, and the transcript is to get what was typed
abbrev pub answer_settled : State → List ℕ → Result (GameState × ℕ) Fault → Step
answer_settled s due =
    step_by (λ found. Goes (record s { game = found.0; pc = found.1; steps = 0; reads = s.reads + 1; due = due })
    no_signals)

-- ---- saved games

-- 1 for a truth, 0 for a falsehood
abbrev pub truth_word : Bool → ℕ
truth_word true = 1
truth_word false = 0

-- the limit that a saved game passes, where it is refused for that
abbrev pub limit_of : RestoreError → Option Limit
limit_of (restore_error.Limit l) = Some l
limit_of _ = None

-- no saved game is back: nothing changes, and the answer is 0 or a falsehood, unless it would pass a limit
abbrev pub none_restored : State → Instr → Option Limit → Step
none_restored s i None = goes_to s s.undo (result_answered s.game i 0 false)
none_restored s i (Some l) = Exceeds l

-- a saved game is back, and goes on where it was saved
abbrev pub restored_to : State → Instr → Result (MemoryMap × FrameList × ℕ) RestoreError → Step
restored_to s i (Ok (m, f, pc)) =
    goes_to s s.undo (resumed (windows_closed (record s.game { memory = m; frames = f })) pc)
restored_to s i (Err e) = none_restored s i (limit_of e)

abbrev pub restored_from : State → Instr → Option (List ℕ) → Step
restored_from s i None = none_restored s i None
restored_from s i (Some file) = restored_to s i (restored file s.game.memory s.game.frames)

-- ---- all answers

abbrev pub answered_by : State → Instr → Event → Answer → Step
answered_by s i (Line text parse) a = answer_settled s (transcribed s.game (Line text parse) (codes_of a) (end_of a))
    (line_answered s.game i text parse (codes_of a) (end_of a))
answered_by s i Char a = answer_settled s [] (character_answered s.game i (first_code (codes_of a)))
answered_by s i Save a = goes_to s s.undo (result_answered s.game i (truth_word (is_kept a)) (is_kept a))
answered_by s i Restore a = restored_from s i (file_of a)

-- the rest of the instruction that waits, once its answer has come
unfoldable pub answered : State → Waiting → Answer → Step
answered s w a = answered_by s w.instruction w.wait a

-- ---- a host that goes back

-- the newest state is back in place of an answer, and goes on where it was saved, as `restore_undo` has it; or there is
-- none
abbrev pub undone_to : State → Option (MemoryMap × FrameList × ℕ × List WholeState) → Option Step
undone_to s None = None
undone_to s (Some (m, f, pc, others)) = Some (goes_to s others (resumed (record s.game { memory = m; frames = f }) pc))

abbrev pub undone : State → Option Step
undone s = undone_to s (gone_back s.undo s.game.memory s.game.frames)
