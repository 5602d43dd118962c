-- The log of a machine: what passes between it and its world, in order.
use Rattle.std.specs.Prelude.{◌≡◌, ◌⊎◌, ◌-◌, ◌+◌, ◌++◌, ◌==◌, ℕ, zero, suc, Bool, true, false, List, [], ◌∷◌}
use Rattle.std.specs.Prelude.{drop, filter_map, length, map, take, Option, Some, None}
use Rattle.zk_text.specs.Extra.{ExtraTable, own_characters}
use Rattle.zk_state.specs.declared.refusal.Limit.TheVariants.{Steps}
use Rattle.zk_save.specs.declared.restore.RestoreError.{RestoreError}
use Rattle.zk_step.specs.declared.state.ending.Event.{Event}
use Rattle.zk_step.specs.declared.state.ending.Event.TheVariants.{Line, Char, Save, Restore}
use Rattle.zk_step.specs.Routing.{Signals, no_signals, on_script}
use Rattle.zk_term.specs.Signals.{Signal, screen_text, script_text}
use Rattle.zk_vm.specs.declared.stop.Stop.{Stop}
use Rattle.zk_vm.specs.declared.stop.Stop.TheVariants.{Limit as LimitAt}
use Rattle.zk_vm.specs.declared.waiting.Waiting.{Waiting}
use Rattle.zk_vm.specs.Answers.{Answer, codes_of, end_of, is_kept, file_of}
use Rattle.zk_vm.specs.Sessions.{Session, given_to, with_stop}
use Rattle.zk_vm.specs.Plays.{image_of, refusal_of}
use Rattle.zk_vm.specs.Step.{State, Step, Verdict, step, verdict_of, state_after, text_of}
use Rattle.zk_vm.specs.Step.Step.{Goes as GoesTo, Waits, Quits, Faults, Exceeds}
use Rattle.zk_vm.specs.Step.Verdict.{GoesOn, WaitsFor, StopsBy}

-- ---- entries

-- What passes: the instruction at a byte address is carried out; a screen is given a signal; codes are read, by the
-- extra characters in force, and the one that ended them; a saved game is offered, and kept or not; one is asked for,
-- and comes or not, and may be refused; the machine stops.
pub data Entry : Type 0 where
  At : (address : ℕ) → Entry
  Shown : (signal : Signal) → Entry
  Read : (extra : ExtraTable) (codes : List ℕ) (ended : ℕ) → Entry
  Offered : (file : List ℕ) (kept : Bool) → Entry
  Asked : (file : Option (List ℕ)) (refusal : Option RestoreError) → Entry
  Stopped : (stop : Stop) → Entry

-- the entries of a text
abbrev pub told : Signals → List Entry
told t = map Shown t

-- the entry of an answer, by what the machine waits for
abbrev pub heard_by : Session → Event → Answer → Entry
heard_by s (Line text parse) a = Read (own_characters s.state.game.memory) (codes_of a) (end_of a)
heard_by s Char a = Read (own_characters s.state.game.memory) (codes_of a) (end_of a)
heard_by s Save a = Offered (image_of s) (is_kept a)
heard_by s Restore a = Asked (file_of a) (refusal_of s (file_of a))

abbrev pub stop_told : Option Stop → List Entry
stop_told None = []
stop_told (Some stop) = Stopped stop ∷ []

-- ---- parts of a text

-- what is still to come of the text of the next step: all of it, unless a part was shown
abbrev pub text_left : Option Signals → State → Signals
text_left None s = text_of s (step s)
text_left (Some t) s = t

-- the text of a step, whatever the limits are
abbrev pub text_shown : Step → Signals
text_shown (GoesTo s text) = text
text_shown (Waits s waiting text) = text
text_shown Quits = no_signals
text_shown (Faults f) = no_signals
text_shown (Exceeds l) = no_signals

-- a text that shows nothing
abbrev pub is_silent : Signals → Bool
is_silent t = length t == 0

-- an instruction's address is told before the first part of its text
abbrev pub address_told : Option Signals → ℕ → List Entry
address_told None pc = At pc ∷ []
address_told (Some t) pc = []

-- ---- moves

-- a machine goes on by itself, shows some signals of the text of its next step, or gets an answer
pub data Move : Type 0 where
  Goes : Move
  Part : (n : ℕ) → Move
  Gets : (a : Answer) → Move

-- how many of some moves show a part of a text
unfoldable pub parts_of : List Move → ℕ
parts_of [] = 0
parts_of (Goes ∷ ms) = parts_of ms
parts_of (Part n ∷ ms) = parts_of ms + 1
parts_of (Gets a ∷ ms) = parts_of ms

-- what passes at a move, and the machine after it
pub record Passed : Type 0 where
  pub entries : List Entry
  pub to : Session

-- A step was made, at a byte address: the run goes on, waits or stops. It stops by itself, by a fault, or by a limit
-- that the state after it would pass, on frames, words or reads (`verdict_of`); where it stops so, it shows nothing
-- (`text_of`).
abbrev pub stepped_to : Session → Verdict → State → Signals → Passed
stepped_to s GoesOn t text =
    record { entries = address_told s.left s.state.pc ++ told text; to = record s { state = t; left = None } }
stepped_to s (WaitsFor w) t text =
    record {
      entries = address_told s.left s.state.pc ++ told text;
      to = record s { state = t; waiting = Some w; left = None };
    }
stepped_to s (StopsBy stop) t text =
    record {
      entries = address_told s.left s.state.pc ++ (told text ++ Stopped stop ∷ []);
      to = with_stop (record s { state = t }) stop;
    }

-- a step is made, where the limit on instructions leaves one
abbrev pub stepped : ℕ → Session → Passed
stepped zero s =
    record { entries = Stopped (LimitAt s.state.pc Steps) ∷ []; to = with_stop s (LimitAt s.state.pc Steps) }
stepped (suc left) s =
    stepped_to s (verdict_of s.state (step s.state)) (state_after s.state (step s.state)) (text_left s.left s.state)

-- before it the transcript gets what it is still to get
abbrev pub goes_by : List ℕ → Session → Passed
goes_by [] s = stepped (s.limits.steps - s.state.steps) s
goes_by (c ∷ cs) s = record {
  entries = told (on_script (c ∷ cs));
  to = record s {
    state = record s.state { due = [] };
  };
}

-- a part of a text is shown, and the rest is left; the state is still that before the step
abbrev pub part_shown : ℕ → Session → Signals → Passed
part_shown n s text =
    record {
      entries = address_told s.left s.state.pc ++ told (take n text);
      to = record s { left = Some (drop n text) };
    }

-- a step that stops has no parts: it is made, unless whatever the limits are nothing would be shown of it
abbrev pub parted_to : Bool → ℕ → Session → Verdict → State → Signals → Passed
parted_to true n s v t text = part_shown n s text
parted_to false n s GoesOn t text = part_shown n s text
parted_to false n s (WaitsFor w) t text = part_shown n s text
parted_to false n s (StopsBy stop) t text = stepped_to s (StopsBy stop) t text

-- a part of its text is shown, where the limit on instructions leaves a step
abbrev pub parted : ℕ → ℕ → Session → Passed
parted n zero s = stepped zero s
parted n (suc left) s = parted_to (is_silent (text_shown (step s.state))) n s (verdict_of s.state (step s.state))
    (state_after s.state (step s.state)) (text_left s.left s.state)

-- none is shown before the transcript has got all
abbrev pub parts_by : ℕ → List ℕ → Session → Passed
parts_by n [] s = parted n (s.limits.steps - s.state.steps) s
parts_by n (c ∷ cs) s = record { entries = []; to = s }

-- a machine that runs goes on or shows a part, one that waits takes an answer, and else it stays as it is: each list of
-- moves is one
abbrev pub moved_by : Option Stop → Option Waiting → Session → Move → Passed
moved_by None None s Goes = goes_by s.state.due s
moved_by None None s (Part n) = parts_by n s.state.due s
moved_by None (Some w) s (Gets a) =
    record { entries = heard_by s w.wait a ∷ stop_told (given_to (Some w) s a).stopped; to = given_to (Some w) s a }
moved_by stopped waiting s m = record { entries = []; to = s }

abbrev pub moved : Session → Move → Passed
moved s m = moved_by s.stopped s.waiting s m

-- ---- logs

-- what passes at some moves, one after the other, and the machine after them
unfoldable pub passed : List Move → Session → List Entry
passed [] s = []
passed (m ∷ ms) s = (moved s m).entries ++ passed ms (moved s m).to

unfoldable pub after : List Move → Session → Session
after [] s = s
after (m ∷ ms) s = after ms (moved s m).to

-- a machine is left in a session; where it has stopped, nobody asks what else it has
abbrev pub IsLeftIn : Session → Session → Option Stop → Type 0
IsLeftIn t u None = t ≡ u
IsLeftIn t u (Some stop) = (t.stopped ≡ Some stop) × (t.waiting ≡ u.waiting) × (t.limits ≡ u.limits)

-- A log of a machine, on its way from one session to another: what passes at some moves.
pub record IsLog (s : Session) (l : List Entry) (t : Session) : Type 0 where
  pub moves : List Move
  pub is : l ≡ passed moves s
  pub left : IsLeftIn t (after moves s) (after moves s).stopped

-- a log is a first part of another
pub record IsPrefix (l m : List Entry) : Type 0 where
  pub rest : List Entry
  pub whole : m ≡ l ++ rest

-- ---- each device's part of a log

abbrev pub address_in : Entry → Option ℕ
address_in (At address) = Some address
address_in _ = None

abbrev pub signal_in : Entry → Option Signal
signal_in (Shown signal) = Some signal
signal_in _ = None

abbrev pub answer_in : Entry → Option Entry
answer_in (Read extra codes ended) = Some (Read extra codes ended)
answer_in (Offered file kept) = Some (Offered file kept)
answer_in (Asked file refusal) = Some (Asked file refusal)
answer_in _ = None

abbrev pub read_in : Entry → Option (ExtraTable × List ℕ)
read_in (Read extra codes ended) = Some (extra, codes)
read_in _ = None

-- the byte addresses of the instructions that were carried out
abbrev pub addresses : List Entry → List ℕ
addresses l = filter_map address_in l

-- what the screen was given
abbrev pub signals : List Entry → Signals
signals l = filter_map signal_in l

-- the characters on the screen, and those of the transcript
abbrev pub shown : List Entry → List ℕ
shown l = screen_text (signals l)

abbrev pub scripted : List Entry → List ℕ
scripted l = script_text (signals l)

-- what came from the world, and what was offered to it
abbrev pub answers_in : List Entry → List Entry
answers_in l = filter_map answer_in l

-- of that, the lines and characters that were read, with the extra characters in force
abbrev pub reads_in : List Entry → List (ExtraTable × List ℕ)
reads_in l = filter_map read_in (answers_in l)

-- ---- laws

-- two logs of a machine that got the same from its world are each a first part of the other, or one is
abbrev pub OneLog : Type 0
OneLog = (s t u : Session) (l m : List Entry) → IsLog s l t → IsLog s m u → answers_in l ≡ answers_in m
    → IsPrefix l m ⊎ IsPrefix m l

-- a part of a text, and then the rest of its step, are what the step is alone: the same passes, and the same machine is
-- left
abbrev pub PartsOnlyDivide : Type 0
PartsOnlyDivide =
    (s : Session) (n : ℕ) → ((moved s (Part n)).entries ++ (moved (moved s (Part n)).to Goes).entries
    ≡ (moved s Goes).entries) × ((moved (moved s (Part n)).to Goes).to ≡ (moved s Goes).to)

-- two parts, one after the other, are one
abbrev pub PartsJoin : Type 0
PartsJoin =
    (s : Session) (n k : ℕ) → ((moved s (Part n)).entries ++ (moved (moved s (Part n)).to (Part k)).entries
    ≡ (moved s (Part (n + k))).entries) × ((moved (moved s (Part n)).to (Part k)).to ≡ (moved s (Part (n + k))).to)

-- logs join
abbrev pub LogsJoin : Type 0
LogsJoin = (s t u : Session) (l m : List Entry) → IsLog s l t → IsLog t m u → IsLog s (l ++ m) u
