-- What calls promise of a machine's log: each device had its part of it, and the machine is left where it leads.
use Rattle.std.specs.Prelude.{◌≡◌, ◌⊎◌, ◌<◌, ◌+◌, ◌++◌, ℕ, Bool, true, false, List, [], ◌∷◌, IfSome, Option, Some, None}
use Rattle.std.specs.Prelude.{Result, Ok, Err}
use Rattle.std.specs.List.{AllByRecursion}
use Rattle.zk_text.specs.Extra.{ExtraTable, is_input_code}
use Rattle.zk_term.specs.declared.lines.InputEnd.{InputEnd}
use Rattle.zk_term.specs.Devices.{Shows}
use Rattle.zk_term.specs.Lines.{Heard}
use Rattle.zk_step.specs.declared.state.ending.Event.{Event}
use Rattle.zk_vm.specs.declared.stop.Stop.{Stop}
use Rattle.zk_vm.specs.declared.stop.Stop.TheVariants.{Memory, Write}
use Rattle.zk_vm.specs.Halts.{Halt, IsKeeping, event_waited}
use Rattle.zk_vm.specs.Log.{Entry, IsLog, Move, addresses, answers_in, moved, parts_of, reads_in, scripted, shown}
use Rattle.zk_vm.specs.Log.{stop_told, signals}
use Rattle.zk_vm.specs.Log.Entry.{Offered, Asked}
use Rattle.zk_vm.specs.Sessions.{Session}
use Rattle.zk_vm.specs.Plays.{AsksForFile, AsksForLine, FoundNoLine, IsHeard, IsTold, SlotTells, SourceTells, Taken}
use Rattle.zk_vm.specs.Plays.{TookLines, stop_behind}
use Rattle.zk_vm.specs.Step.{State}
use Rattle.zk_step.specs.Routing.{Signals}

-- ---- where there is no memory

-- a machine goes on: it has no stop, waits for nothing, and the transcript has got all
pub record IsOn (s : Session) : Type 0 where
  pub runs : s.stopped ≡ None
  pub free : s.waiting ≡ None
  pub silent : s.state.due ≡ []

-- the next step of a machine is to keep a state, for which there is no memory: its state stands
pub record LacksState (s : Session) (state : State) : Type 0 where
  pub on : IsOn s
  pub few : s.state.steps < s.limits.steps
  pub keeping : IsKeeping s.state
  pub stands : state ≡ s.state

-- so it is, or there is no memory for a saved game
abbrev pub LacksRoom : Session → State → Type 0
LacksRoom s state = LacksState s state ⊎ AsksForFile s

-- the addresses of a log were noted; where the next step is to keep a state, for which there is no memory, its own may
-- be too
abbrev pub WasNoted : (List ℕ → Type 0) → List Entry → Session → Type 0
WasNoted Noted l to =
    Noted (addresses l) ⊎ (((state : State) × LacksState to state) × Noted (addresses l ++ to.state.pc ∷ []))

-- ---- a run on a screen: what `run` and `run_for` promise

-- What holds of a screen came to hold at the last move of a log: it did not hold of the screen that got all before.
pub record AtLast {S : Type 0} (shows : S → S → Signals → Type 0) (holds : S → Bool) (a b : S)
    (old to : Session) (l : List Entry) : Type 0 where
  pub first : List Entry
  pub mid : Session
  pub before : IsLog old first mid
  pub between : S
  pub got : shows a between (signals first)
  pub not : holds between ≡ false
  pub move : Move
  pub whole : l ≡ first ++ (moved mid move).entries
  pub there : to ≡ (moved mid move).to
  pub gets : shows between b (signals (moved mid move).entries)
  pub now : holds b ≡ true

-- how a run is left that has come to a session: it has paused, once its steps and the parts of texts that it has shown
-- reach a bound, or since its screen is full; it waits; or it has stopped there; or there is no memory for a state; or
-- its screen has failed
abbrev pub RunEnds : {S : Type 0} → (S → S → Signals → Type 0) → (S → Bool) → (S → Bool) → S → S → ℕ → ℕ
    → Session → Session → Session → List Entry → Result (Unit {0}) Halt → Type 0
RunEnds {S} shows full failed a b bound parts old to new l (Ok u) =
    (new ≡ to) × IsOn to × (failed b ≡ false)
    × (((to.state.steps + parts ≡ bound) × (to.state.steps < to.limits.steps)) ⊎ AtLast shows full a b old to l)
RunEnds {S} shows full failed a b bound parts old to new l (Err (Ok event)) =
    (new ≡ to) × (event_waited to.waiting ≡ Some event)
RunEnds {S} shows full failed a b bound parts old to new l (Err (Err stop)) =
    (new.waiting ≡ None) × ((to.stopped ≡ Some stop) ⊎ (((stop ≡ Memory) × LacksState to new.state)
    ⊎ ((stop ≡ Write) × IsOn to × (failed b ≡ true) × (new.state ≡ to.state))))

-- A machine was run, and so many parts of texts were shown: its screen got what a log shows, and has failed at its last
-- move, if it has.
pub record Ran {S : Type 0} (shows : S → S → Signals → Type 0) (full failed : S → Bool)
    (Noted : List ℕ → Type 0) (a b : S) (bound parts : ℕ) (old new : Session)
    (answer : Result (Unit {0}) Halt) : Type 0 where
  pub log : List Entry
  pub to : Session
  pub is : IsLog old log to
  pub counted : parts_of is.moves ≡ parts
  pub alone : answers_in log ≡ []
  pub got : shows a b (signals log)
  pub noted : WasNoted Noted log to
  pub ends : RunEnds shows full failed a b bound parts old to new log answer
  pub at_once : failed a ≡ false → failed b ≡ true → AtLast shows failed a b old to log

-- what a run answers, as its steps tell it
abbrev pub halted : Result (Option Event) Stop → Result (Unit {0}) Halt
halted (Ok None) = Ok tt
halted (Ok (Some event)) = Err (Ok event)
halted (Err stop) = Err (Err stop)

-- ---- a run on two targets: what `run_on` promises

-- the screen and the transcript's target took what is shown: all of it, or each a first part where a write has failed
pub record Wrote (old new : Taken) (failed : Bool) (l : List Entry) : Type 0 where
  pub screen : Shows (record { taken = old.screen; failed = false })
      (record { taken = new.screen; failed = failed }) (shown l)
  pub script : Shows (record { taken = old.script; failed = false })
      (record { taken = new.script; failed = failed }) (scripted l)

-- of a log up to its last answer they took all that is shown, and of the rest all, or each a first part where a write
-- has failed
pub record WroteFirst (old new : Taken) (failed : Bool) (l : List Entry) : Type 0 where
  pub first : List Entry
  pub last : List Entry
  pub whole : l ≡ first ++ last
  pub alone : answers_in last ≡ []
  pub between : Taken
  pub all : Wrote old between false first
  pub part : Wrote between new failed last

-- how a machine is left that came to a session: it waits there; or it has stopped there; or lack of memory or a failed
-- write has stopped it
abbrev pub Ends : (Session → State → Type 0) → Bool → Session → Session → Result Event Stop → Type 0
Ends Lacks unwritten to new (Ok event) = (unwritten ≡ false) × (new ≡ to) × (event_waited to.waiting ≡ Some event)
Ends Lacks true to new (Err stop) = (new.stopped ≡ Some stop) × (new.waiting ≡ None) × (stop ≡ Write)
Ends Lacks false to new (Err stop) = (new.stopped ≡ Some stop) × (new.waiting ≡ None)
    × ((to.stopped ≡ Some stop) ⊎ ((stop ≡ Memory) × Lacks to new.state))

-- A machine was run up to an event or its stop: what was to get its text got that of a log.
pub record RunsOn (Got : List Entry → Type 0) (Noted : List ℕ → Type 0) (old new : Session)
    (answer : Result Event Stop) (unwritten : Bool) : Type 0 where
  pub log : List Entry
  pub to : Session
  pub is : IsLog old log to
  pub alone : answers_in log ≡ []
  pub got : Got log
  pub noted : WasNoted Noted log to
  pub ends : Ends LacksState unwritten to new answer

-- ---- a slot for saved games: what `serve` and `turn` promise

-- a slot was offered a file or asked for one
abbrev pub Served : {K : Type 0} → SlotTells K → Entry → K → K → Type 0
Served {K} t (Offered file kept) a b =
    IfSome (t.keeps a file) (λ k. kept ≡ k) × (kept ≡ true → IfSome (t.held b) (λ f. f ≡ Some file))
    × (kept ≡ false → t.held b ≡ t.held a) × t.puts a b file kept
Served {K} t (Asked file refusal) a b =
    IfSome (t.held a) (λ f. file ≡ f) × (t.held b ≡ t.held a)
    × ((mid : K) × (t.gets a mid file × IsTold t.hears mid b refusal))
Served {K} t _ a b = b ≡ a

abbrev pub IsOfSlot : Entry → Type 0
IsOfSlot (Offered file kept) = Unit {0}
IsOfSlot (Asked file refusal) = Unit {0}
IsOfSlot _ = ⊥

-- so it was for each of some answers, one after the other
unfoldable pub SlotDid : {K : Type 0} → SlotTells K → List Entry → K → K → Type 0
SlotDid {K} t [] a b = b ≡ a
SlotDid {K} t (x ∷ l) a b = (mid : K) × (Served t x a mid × SlotDid t l mid b)

-- a slot has answered a machine that waits for a saved game
pub record Serves {K : Type 0} (t : SlotTells K) (old new : Session) (a b : K) : Type 0 where
  pub entry : Entry
  pub is : IsLog old (entry ∷ stop_told new.stopped) new
  pub of_slot : IsOfSlot entry
  pub served : Served t entry a b

-- a slot is as the log has left it; or it was asked once more, for a saved game for which there is no memory: it holds
-- what it held
abbrev pub IsLeftFor : {K : Type 0} → SlotTells K → Session → Result Event Stop → K → K → Type 0
IsLeftFor {K} t to answer a b = (b ≡ a) ⊎ ((answer ≡ Err Memory) × AsksForFile to × (t.held b ≡ t.held a))

-- A machine was run up to a read or its stop, and a slot has answered it on its way.
pub record Turns {K : Type 0} (t : SlotTells K) (Noted : List ℕ → Type 0) (slot0 slot1 : K) (old new : Session)
    (answer : Result Event Stop) (unwritten : Bool) (a b : Taken) : Type 0 where
  pub log : List Entry
  pub to : Session
  pub is : IsLog old log to
  pub no_reads : reads_in log ≡ []
  pub wrote : WroteFirst a b unwritten log
  pub noted : WasNoted Noted log to
  pub slot : K
  pub did : SlotDid t (answers_in log) slot0 slot
  pub left : IsLeftFor t to answer slot slot1
  pub ends : Ends LacksRoom unwritten to new answer

-- ---- a play: what `play` promises

-- How a play ends, where its machine has come to: a write has failed, the machine has stopped, there is no memory, or a
-- read finds no line. Where none was sought, and nothing was read before, the source was left alone.
pub data EndsBy {R : Type 0} (r : SourceTells R) (a b : R) (reads : List (ExtraTable × List ℕ)) (unwritten : Bool)
    (to : Session) (stop : Stop) : Type 0 where
  Unwritten : unwritten ≡ true → stop ≡ Write → (reads ≡ [] → b ≡ a) → EndsBy r a b reads unwritten to stop
  Itself : unwritten ≡ false → to.stopped ≡ Some stop → (reads ≡ [] → b ≡ a) → EndsBy r a b reads unwritten to stop
  NoMemory : unwritten ≡ false → stop ≡ Memory → (state : State) → LacksRoom to state → (reads ≡ [] → b ≡ a)
      → EndsBy r a b reads unwritten to stop
  NoLine : unwritten ≡ false → (over : InputEnd) → stop ≡ stop_behind over → AsksForLine to
      → FoundNoLine r a b reads over → EndsBy r a b reads unwritten to stop

-- none is left where a read finds no line
abbrev pub IsOver : {R : Type 0} {r : SourceTells R} {a b : R} {reads : List (ExtraTable × List ℕ)}
    {unwritten : Bool} {to : Session} {stop : Stop} → EndsBy r a b reads unwritten to stop → List (List ℕ)
    → InputEnd → Type 0
IsOver (NoLine written over is asks found) left how = (left ≡ []) × (how ≡ over)
IsOver _ left how = Unit {0}

-- the reads took the lines of an input, of whose bytes these are left
abbrev pub TookOf : List ℕ → List ℕ → Bool → List (ExtraTable × List ℕ) → (List (List ℕ) → InputEnd → Type 0) → Type 0
TookOf bytes later failed reads Over =
    (h : Heard) × ((left : List (List ℕ)) × (IsHeard bytes later failed h left × TookLines reads h.lines left
    × Over left h.over))

-- A machine was played: there is a log of it, of which each device has its part.
pub record Plays {K R : Type 0} (t : SlotTells K) (r : SourceTells R) (tells : R → Option (List ℕ))
    (Noted : List ℕ → Type 0) (slot0 slot1 : K) (reader0 reader1 : R) (old : Session) (stop : Stop)
    (unwritten : Bool) (a b : Taken) : Type 0 where
  pub log : List Entry
  pub to : Session
  pub is : IsLog old log to
  pub ends : EndsBy r reader0 reader1 (reads_in log) unwritten to stop
  pub wrote : WroteFirst a b unwritten log
  pub noted : WasNoted Noted log to
  pub slot : K
  pub did : SlotDid t (answers_in log) slot0 slot
  pub left : IsLeftFor t to (Err stop) slot slot1
  pub typed : AllByRecursion (λ x. AllByRecursion (λ c. is_input_code c ≡ true) x.1) (reads_in log)
  pub heard : (bytes : List ℕ) → tells reader0 ≡ Some bytes → (later : List ℕ)
      × ((tells reader1 ≡ Some later) × TookOf bytes later (r.failed reader1) (reads_in log) (IsOver ends))
