-- The numbers by which C is told.
use Rattle.std.specs.Prelude.{ℕ, Bool, Option, Some, None, Result, Ok, Err, if◌then◌else◌}
use Rattle.zk_mem.specs.Faults.{fault_number}
use Rattle.zk_mem.specs.Story.{refusal_number}
use Rattle.zk_snapshot.specs.declared.opening.SnapshotError.TheVariants.{NotASnapshot, OtherVersion, OtherStory}
use Rattle.zk_snapshot.specs.declared.opening.SnapshotError.TheVariants.{Damaged, OutOfMemory}
use Rattle.zk_state.specs.Limits.{limit_number}
use Rattle.zk_step.specs.declared.state.ending.Event.{Event}
use Rattle.zk_step.specs.declared.state.ending.Event.TheVariants.{Line, Char, Save, Restore}
use Rattle.zk_vm.specs.declared.stop.Stop.{Stop}
use Rattle.zk_vm.specs.declared.stop.Stop.TheVariants.{Quit, Fault, Limit, EndOfInput, Read, Write, Memory}
use Rattle.zk_host.specs.declared.play.Asked.{Asked}
use Rattle.zk_host.specs.declared.play.Asked.TheVariants as asked
use Rattle.zk_host.specs.declared.play.Refusal.{Refusal}
use Rattle.zk_host.specs.declared.play.SnapshotRefusal.{SnapshotRefusal}
use Rattle.zk_host.specs.declared.play.SnapshotRefusal.TheVariants as snapshot_refused
use Rattle.zk_host.specs.declared.play.Refusal.TheVariants as refused

-- what a turn asks for; 0 where the story has stopped
abbrev pub event_number : Event → ℕ
event_number (Line text parse) = 1
event_number Char = 2
event_number Save = 3
event_number Restore = 4

abbrev pub turn_number : Result Asked Stop → ℕ
turn_number (Ok (asked.Answer event)) = event_number event
turn_number (Ok asked.Room) = 5
turn_number (Ok asked.Time) = 6
turn_number (Ok asked.Memory) = 7
turn_number (Err stop) = 0

-- how an answer was taken
abbrev pub refused_number : Refusal → ℕ
refused_number refused.NotAwaited = 1
refused_number refused.NotALine = 2
refused_number refused.Memory = 4
refused_number refused.NoState = 5
refused_number refused.TooLong = 6
refused_number refused.TooManyWords = 7
refused_number refused.NotAKey = 10
refused_number refused.NotChanged = 12

abbrev pub answer_number : Result (Unit {0}) Refusal → ℕ
answer_number (Ok u) = 0
answer_number (Err r) = refused_number r

-- whether more of a listing is to come
abbrev pub part_number : Result Bool Refusal → ℕ
part_number (Ok more) = if more then 13 else 0
part_number (Err r) = refused_number r

-- why a story has stopped; 0 where it has not
abbrev pub stop_number : Stop → ℕ
stop_number Quit = 1
stop_number (Fault a f) = 2
stop_number (Limit a l) = 3
stop_number EndOfInput = 4
stop_number Read = 4
stop_number Write = 5
stop_number Memory = 5

-- lack of memory for text and too much text are told apart
abbrev pub status_number : Bool → Option Stop → ℕ
status_number too_much None = 0
status_number too_much (Some stop) = if too_much then 6 else stop_number stop

-- which fault or limit it was, where it was one
abbrev pub reason_number : Option Stop → ℕ
reason_number (Some (Fault a f)) = fault_number f
reason_number (Some (Limit a l)) = limit_number l
reason_number _ = 0

-- the byte address of its instruction
abbrev pub address_number : Option Stop → ℕ
address_number (Some (Fault a f)) = a
address_number (Some (Limit a l)) = a
address_number _ = 0

-- why no play goes on from a snapshot: the numbers of a story's refusals and of limits, and after them those of a
-- snapshot's
abbrev pub snapshot_number : SnapshotRefusal → ℕ
snapshot_number (snapshot_refused.Story e) = refusal_number e
snapshot_number (snapshot_refused.Snapshot NotASnapshot) = 8
snapshot_number (snapshot_refused.Snapshot OtherVersion) = 9
snapshot_number (snapshot_refused.Snapshot OtherStory) = 10
snapshot_number (snapshot_refused.Snapshot Damaged) = 11
snapshot_number (snapshot_refused.Snapshot OutOfMemory) = 6
snapshot_number snapshot_refused.Limits = 7
