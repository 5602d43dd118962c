-- What the calls of a play answer, and how they leave it.
use Rattle.std.specs.Prelude.{◌≡◌, ◌≤◌, ◌⊎◌, ◌+◌, ◌-◌, ◌^◌, min, ℕ, Bool, true, false, List, length, Option, Some, None}
use Rattle.std.specs.Prelude.{Result, Ok, Err, [], drop, is_none, map, nat_lt, replicate, ◌&&◌, if◌then◌else◌}
use Rattle.std.specs.Global.{Vec, Box}
use Rattle.zk_text.specs.Extra.{own_characters}
use Rattle.zk_step.specs.declared.state.game_state.View.{View}
use Rattle.zk_vm.specs.declared.limits.Limits.{Limits}
use Rattle.zk_step.specs.declared.state.ending.Event.{Event}
use Rattle.zk_step.specs.declared.state.ending.Event.TheVariants.{Line, Char, Save, Restore}
use Rattle.zk_vm.specs.declared.stop.Stop.{Stop}
use Rattle.zk_vm.specs.Answers.{Answer, undone}
use Rattle.zk_vm.specs.Halts.{IsLeftAs, IsUndone, event_waited}
use Rattle.zk_vm.specs.Log.{Entry, signals}
use Rattle.zk_vm.specs.Logged.{Ran, RunsOn}
use Rattle.zk_vm.specs.Pausing.{StandsShort}
use Rattle.zk_vm.specs.Sessions.{Session, begun, given, with_height, with_seed}
use Rattle.zk_vm.specs.Plays.{image_of}
use Rattle.zk_host.specs.declared.collected.Collected.{Collected}
use Rattle.zk_host.specs.declared.play.Asked.{Asked}
use Rattle.zk_host.specs.declared.play.Asked.TheVariants as asked
use Rattle.zk_host.specs.declared.play.Play.{Play}
use Rattle.zk_host.specs.declared.play.SnapshotRefusal.{SnapshotRefusal}
use Rattle.zk_host.specs.declared.play.SnapshotRefusal.TheVariants as snapshot_refused
use Rattle.zk_host.specs.declared.play.Refusal.{Refusal}
use Rattle.zk_host.specs.declared.play.Refusal.TheVariants as refused
use Rattle.zk_step.specs.declared.output.status.StatusLine.{StatusLine}
use Rattle.zk_host.specs.declared.drawing.StatusFigures.{StatusFigures}
use Rattle.zk_host.specs.Collecting.{Collects, has_no_room, is_lost, no_text, nothing_collected, wants_pause}
use Rattle.zk_host.specs.Drawing.{HasStatus, figures_or_none}
use Rattle.zk_host.specs.Names.{HasName}
use Rattle.zk_mem.specs.Map.{MemoryMap}
use Rattle.zk_mem.specs.Story.{refusal}
use Rattle.zk_mem.specs.declared.story.OpenError.TheVariants.{OutOfMemory}
use Rattle.zk_snapshot.specs.Opening.{IsOpened, IsRefused}
use Rattle.zk_snapshot.specs.Snapshots.{HasSnapshot, longest_of, snapshot_of}
use Rattle.zk_step.specs.Terminating.{is_terminating}
use Rattle.zk_host.specs.Typing.{is_line, character_code}
use Rattle.zk_host.specs.Within.{AreWithin}

-- what a play waits for
abbrev pub awaited : Play → Option Event
awaited p = event_waited p.machine.waiting

-- a play of a story's machine, with no text
abbrev pub play_of : List ℕ → Session → Play
play_of story m = record {
  machine = m;
  story = story;
  text = nothing_collected;
  name = nothing_collected;
  listing = no_text;
  run = None;
  stopped = None;
  cover = None;
}

-- a play at the start of a story
abbrev pub begun_play : List ℕ → ℕ → Limits → View → Play
begun_play story seed limits view = play_of story (begun story seed limits view)

-- ---- running

abbrev pub stop_of : Result Event Stop → Option Stop
stop_of (Ok event) = None
stop_of (Err stop) = Some stop

-- what the screen and the transcript get of a log is collected; where text is lost, perhaps a first part of it alone
abbrev pub Shown : Collected → Collected → List Entry → Type 0
Shown old new l = Collects old new (signals l)

-- of the instructions nothing is noted
abbrev pub Unnoted : List ℕ → Type 0
Unnoted places = Unit {0}

-- why a run has paused
abbrev pub pause_of : Play → Asked
pause_of p = if has_no_room p.text then asked.Room else if p.text.short then asked.Memory else asked.Time

-- a play has run to an event or its stop, and collected what it shows; where text is lost, that is its stop
abbrev pub HasEnded : Play → Play → Result Event Stop → Type 0
HasEnded old new answer =
    RunsOn (Shown old.text new.text) Unnoted old.machine new.machine answer (is_lost new.text)
    × (new ≡ record old { machine = new.machine; text = new.text; stopped = stop_of answer; cover = new.cover })

-- a play has paused after so many steps and parts of texts, or once there is no room or memory for more text
abbrev pub HasPausedBy : Play → Play → ℕ → Asked → Type 0
HasPausedBy old new steps why =
    ((parts : ℕ) × Ran Collects wants_pause is_lost Unnoted old.text new.text (old.machine.state.steps + steps)
    parts old.machine new.machine (Ok tt))
    × (why ≡ pause_of new)
    × (new ≡ record old { machine = new.machine; text = new.text; cover = new.cover })

-- a play has come to an instruction that keeps a state, for which there is no memory, and stands before it
abbrev pub HasRunShort : Play → Play → ℕ → Type 0
HasRunShort old new steps =
    ((parts : ℕ) × StandsShort Collects is_lost old.text new.text (old.machine.state.steps + steps) parts
    old.machine new.machine)
    × (new ≡ record old { machine = new.machine; text = new.text; cover = new.cover })

-- a play has run for so many steps at most, by what the turn tells
abbrev pub HasRun : Play → Play → ℕ → Result Asked Stop → Type 0
HasRun old new steps (Ok (asked.Answer event)) = HasEnded old new (Ok event)
HasRun old new steps (Ok asked.Room) = HasPausedBy old new steps asked.Room
HasRun old new steps (Ok asked.Time) = HasPausedBy old new steps asked.Time
HasRun old new steps (Ok asked.Memory) = HasPausedBy old new steps asked.Memory ⊎ HasRunShort old new steps
HasRun old new steps (Err stop) = HasEnded old new (Err stop)

-- a play with so much room for text
abbrev pub with_room : Play → ℕ → Play
with_room p room = record p { text = record p.text { room = room } }

-- and without memory for text, or with it
abbrev pub with_short : Play → Bool → Play
with_short p short = record p { text = record p.text { short = short } }

-- by whether there is no memory
abbrev pub IsTurnedOn : Bool → Play → Play → ℕ → Result Asked Stop → Type 0
IsTurnedOn true old new steps answer = (answer ≡ Ok asked.Memory) × (new ≡ old)
IsTurnedOn false old new steps answer = HasRun old new steps answer

-- by whether there is no room
abbrev pub IsTurnedIn : Bool → Play → Play → ℕ → Result Asked Stop → Type 0
IsTurnedIn true old new steps answer = (answer ≡ Ok asked.Room) × (new ≡ old)
IsTurnedIn false old new steps answer = (short : Bool) × IsTurnedOn short (with_short old short) new steps answer

-- a turn, by what was waited for and why the story has stopped before: both are told again, and nothing is run
abbrev pub IsTurnedBy : Option Event → Option Stop → Play → Play → (steps room : ℕ) → Result Asked Stop → Type 0
IsTurnedBy (Some event) stopped old new steps room answer = (answer ≡ Ok (asked.Answer event)) × (new ≡ old)
IsTurnedBy None (Some stop) old new steps room answer = (answer ≡ Err stop) × (new ≡ old)
IsTurnedBy None None old new steps room answer =
    IsTurnedIn (has_no_room (with_room old room).text) (with_room old room) new steps answer

abbrev pub IsTurned : Play → Play → (steps room : ℕ) → Result Asked Stop → Type 0
IsTurned old new steps room answer = IsTurnedBy (awaited old) old.stopped old new steps room answer

-- ---- answering

-- an answer was given to the machine, and nothing else has changed
pub record IsGiven (before : Session) (old new : Play) (a : Answer) : Type 0 where
  pub machine : IsLeftAs new.machine (given before a) (given before a).stopped
  pub beside : new ≡ record old { machine = new.machine }

-- an answer, by why it is refused, if it is: then nothing changes
abbrev pub IsGivenUnless : Option Refusal → Session → Play → Play → Result (Unit {0}) Refusal → Answer → Type 0
IsGivenUnless None before old new result a = (result ≡ Ok tt) × IsGiven before old new a
IsGivenUnless (Some r) before old new result a = (result ≡ Err r) × (new ≡ old)

-- a machine after an answer by a saved game: a restore closes the upper window, and past version 3 it is given back
-- with the height that it had, as `split_window` would (section 15)
abbrev pub with_height_kept : ℕ → Session → Session
with_height_kept height s =
    if nat_lt 3 s.state.game.memory.version && nat_lt s.state.game.windows.height height
    then with_height s height
    else s

-- such an answer was given to the machine, and nothing else has changed
pub record IsRestored (old new : Play) (a : Answer) : Type 0 where
  pub before : Session
  pub answered : IsLeftAs before (given old.machine a) (given old.machine a).stopped
  pub machine : new.machine ≡ with_height_kept old.machine.state.game.windows.height before
  pub beside : new ≡ record old { machine = new.machine }

abbrev pub IsRestoredUnless : Option Refusal → Play → Play → Result (Unit {0}) Refusal → Answer → Type 0
IsRestoredUnless None old new result a = (result ≡ Ok tt) × IsRestored old new a
IsRestoredUnless (Some r) old new result a = (result ≡ Err r) × (new ≡ old)

-- why a line is refused that a key has ended, by what is waited for
abbrev pub line_refused : Option Event → MemoryMap → List ℕ → ℕ → Option Refusal
line_refused (Some (Line text parse)) m line key =
    if is_line line then (if is_terminating m key then None else Some refused.NotAKey) else Some refused.NotALine
line_refused (Some Char) m line key = Some refused.NotAwaited
line_refused (Some Save) m line key = Some refused.NotAwaited
line_refused (Some Restore) m line key = Some refused.NotAwaited
line_refused None m line key = Some refused.NotAwaited

-- why the answers to other events are
abbrev pub character_refused : Option Event → Option Refusal
character_refused (Some Char) = None
character_refused (Some (Line text parse)) = Some refused.NotAwaited
character_refused (Some Save) = Some refused.NotAwaited
character_refused (Some Restore) = Some refused.NotAwaited
character_refused None = Some refused.NotAwaited

abbrev pub save_refused : Option Event → Option Refusal
save_refused (Some Save) = None
save_refused (Some (Line text parse)) = Some refused.NotAwaited
save_refused (Some Char) = Some refused.NotAwaited
save_refused (Some Restore) = Some refused.NotAwaited
save_refused None = Some refused.NotAwaited

abbrev pub restore_refused : Option Event → Option Refusal
restore_refused (Some Restore) = None
restore_refused (Some (Line text parse)) = Some refused.NotAwaited
restore_refused (Some Char) = Some refused.NotAwaited
restore_refused (Some Save) = Some refused.NotAwaited
restore_refused None = Some refused.NotAwaited

-- the code of a character, by the extra characters in force and whether there are keys that give none
abbrev pub character_read : Session → Bool → ℕ → ℕ
character_read s keys c = character_code (own_characters s.state.game.memory) keys c

-- the file of a saved game, by why it is refused, if it is; or there was no memory for it
abbrev pub IsImage : Option Refusal → Play → Result (Vec ℕ) Refusal → Type 0
IsImage (Some r) p result = result ≡ Err r
IsImage None p (Ok file) = file.items ≡ image_of p.machine
IsImage None p (Err r) = r ≡ refused.Memory

-- ---- going back

-- why a host can't go back, by what is waited for
abbrev pub read_refused : Option Event → Option Refusal
read_refused (Some (Line text parse)) = None
read_refused (Some Char) = None
read_refused (Some Save) = Some refused.NotAwaited
read_refused (Some Restore) = Some refused.NotAwaited
read_refused None = Some refused.NotAwaited

-- whether it was done, as it is told
abbrev pub done_or_none : Bool → Result (Unit {0}) Refusal
done_or_none true = Ok tt
done_or_none false = Err refused.NoState

-- a host has gone back to the newest state, or there is none; or that is refused
abbrev pub IsGoneBack : Option Refusal → Play → Play → Result (Unit {0}) Refusal → Type 0
IsGoneBack None old new result =
    (done : Bool) × (result ≡ done_or_none done) × IsUndone old.machine new.machine done
    (undone old.machine.state) × (new ≡ record old { machine = new.machine })
IsGoneBack (Some r) old new result = (result ≡ Err r) × (new ≡ old)

-- ---- coverage

-- where instructions are noted, each address of the story is marked or not; none is at first
abbrev pub no_marks : Play → List Bool
no_marks p = replicate (length p.machine.state.game.memory.bytes) false

-- instructions are noted from now on, or there is no memory for it
abbrev pub IsNoting : Play → Play → Result (Unit {0}) Refusal → Type 0
IsNoting old new (Ok u) = new ≡ record old { cover = Some (no_marks old) }
IsNoting old new (Err r) = (r ≡ refused.Memory) × (new ≡ old)

-- a mark, as a byte
abbrev pub mark_byte : Bool → ℕ
mark_byte false = 0
mark_byte true = 1

-- the marks from an address on; there are none where nothing is noted
abbrev pub marks_from : Option (List Bool) → ℕ → List ℕ
marks_from None address = []
marks_from (Some marks) address = map mark_byte (drop address marks)

-- ---- the upper window

-- the upper window can't be given a height in the middle of an instruction's text
abbrev pub split_refused : Play → Option Refusal
split_refused p = if is_none p.machine.left then None else Some refused.NotAwaited

-- how it is told whether something was refused
abbrev pub done_unless : Option Refusal → Result (Unit {0}) Refusal
done_unless None = Ok tt
done_unless (Some r) = Err r

-- ---- the status line

-- the figures of the status line were told, and its name was collected
pub record IsStatus (old new : Play) (f : StatusFigures) : Type 0 where
  pub status : Option StatusLine
  pub is : HasStatus old.machine.state.game.memory status
  pub figures : f ≡ figures_or_none status
  pub name : HasName old.machine.state.game.memory status new.name
  pub beside : new ≡ record old { name = new.name }

-- ---- snapshots

-- the most bytes of a snapshot of a play with so many bytes of states, as far as a number of 64 bits tells it
abbrev pub longest_snapshot : Play → ℕ → ℕ
longest_snapshot p most = min (longest_of p.machine.limits p.machine.state.game.memory.static_base most) (2 ^ 64 - 1)

-- the snapshot of a play, which has one, with the newest states that fit in so many bytes; or it has none, or there is
-- no memory for it
abbrev pub IsSnapshot : Play → ℕ → Result (Vec ℕ) Refusal → Type 0
IsSnapshot p most (Ok bytes) =
    HasSnapshot p.machine × (bytes.items ≡ snapshot_of most p.machine)
    × (length bytes.items ≤ longest_of p.machine.limits p.machine.state.game.memory.static_base most)
IsSnapshot p most (Err r) =
    ((r ≡ refused.NotAwaited) × (HasSnapshot p.machine → ⊥)) ⊎ ((r ≡ refused.Memory) × HasSnapshot p.machine)

-- a play goes on from a snapshot of a story: its machine is one that has these bytes as its snapshot
abbrev pub IsOpenedPlay : List ℕ → List ℕ → Play → Type 0
IsOpenedPlay story bytes p = IsOpened story bytes p.machine × (p ≡ play_of story p.machine)

-- a machine has these bytes as its snapshot, and a limit that is beyond the one that it may have
abbrev pub IsBeyond : List ℕ → List ℕ → Limits → Type 0
IsBeyond story bytes most = (m : Session) × IsOpened story bytes m × (AreWithin m.limits most → ⊥)

-- a play goes on from a snapshot, within limits; or the snapshot is refused, or its limits
abbrev pub IsPlayOpened : List ℕ → List ℕ → Limits → Result (Box Play) SnapshotRefusal → Type 0
IsPlayOpened story bytes most (Ok p) = IsOpenedPlay story bytes p.value × AreWithin p.value.machine.limits most
IsPlayOpened story bytes most (Err (snapshot_refused.Story e)) = ⊥
IsPlayOpened story bytes most (Err (snapshot_refused.Snapshot e)) = IsRefused story bytes e
IsPlayOpened story bytes most (Err snapshot_refused.Limits) = IsBeyond story bytes most

-- bytes are a story, and others a snapshot of it within limits; or they are refused, the story first and the limits
-- last
abbrev pub IsOpenedFrom : List ℕ → List ℕ → Limits → Result (Box Play) SnapshotRefusal → Type 0
IsOpenedFrom story bytes most (Ok p) =
    (refusal story ≡ None) × IsOpenedPlay story bytes p.value × AreWithin p.value.machine.limits most
IsOpenedFrom story bytes most (Err (snapshot_refused.Story e)) =
    (refusal story ≡ Some e) ⊎ ((e ≡ OutOfMemory) × (refusal story ≡ None))
IsOpenedFrom story bytes most (Err (snapshot_refused.Snapshot e)) = (refusal story ≡ None) × IsRefused story bytes e
IsOpenedFrom story bytes most (Err snapshot_refused.Limits) = (refusal story ≡ None) × IsBeyond story bytes most

-- ---- plays of one story

-- a second play of a story begins at its start, where there are limits; or there is no memory for it
abbrev pub IsBegunBeside : List ℕ → ℕ → Option Limits → View → Result (Box Play) SnapshotRefusal → Type 0
IsBegunBeside story seed None view result = result ≡ Err snapshot_refused.Limits
IsBegunBeside story seed (Some limits) view (Ok p) = p.value ≡ begun_play story seed limits view
IsBegunBeside story seed (Some limits) view (Err r) = r ≡ snapshot_refused.Story OutOfMemory

-- a second play of a story goes on from a snapshot, where there are limits
abbrev pub IsPlayOpenedBeside : List ℕ → List ℕ → Option Limits → Result (Box Play) SnapshotRefusal → Type 0
IsPlayOpenedBeside story bytes None result = result ≡ Err snapshot_refused.Limits
IsPlayOpenedBeside story bytes (Some most) result = IsPlayOpened story bytes most result

-- ---- clones

-- a second play goes on from where one waits for a line or a character, without text; or that one waits for nothing of
-- the kind, or there is no memory
abbrev pub IsClone : Play → Result (Box Play) Refusal → Type 0
IsClone p (Ok clone) = HasSnapshot p.machine × (clone.value ≡ play_of p.story p.machine)
IsClone p (Err r) =
    ((r ≡ refused.NotAwaited) × (HasSnapshot p.machine → ⊥)) ⊎ ((r ≡ refused.Memory) × HasSnapshot p.machine)

-- its random numbers begin anew, where it waits for a line or a character
abbrev pub IsReseeded : ℕ → Play → Play → Result (Unit {0}) Refusal → Type 0
IsReseeded seed old new (Ok u) = HasSnapshot old.machine × (new ≡ record old { machine = with_seed old.machine seed })
IsReseeded seed old new (Err r) = (r ≡ refused.NotAwaited) × (HasSnapshot old.machine → ⊥) × (new ≡ old)
