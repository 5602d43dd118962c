-- What a play has shown of a run, and lost of it.
use Rattle.std.specs.Prelude.{if◌then◌else◌}
use Rattle.std.proofs.Common.{IfErr, ◌≡◌, ◌∙◌, ◌+◌, inl, ℕ, Bool, true, false, Some, None, Option, Result, Ok, Err, ap}
use Rattle.std.proofs.Common.{refl, subst, sym}
use Rattle.zk_step.specs.declared.state.ending.Event.{Event}
use Rattle.zk_vm.specs.declared.machine.pausing.Reached.{Reached}
use Rattle.zk_vm.specs.declared.machine.pausing.Reached.TheVariants as reached
use Rattle.zk_vm.specs.declared.stop.Stop.{Stop}
use Rattle.zk_vm.specs.declared.stop.Stop.TheVariants.{Write}
use Rattle.zk_vm.specs.Halts.{Halt}
use Rattle.zk_vm.specs.Logged.{Ran, RunsOn}
use Rattle.zk_vm.specs.Pausing.{HasCome, come_to}
use Rattle.zk_vm.specs.Sessions.{Session}
use Rattle.zk_vm.proofs.LogPlays.{ends_whole}
use Rattle.zk_host.specs.declared.collected.Collected.{Collected}
use Rattle.zk_host.specs.declared.play.Asked.{Asked}
use Rattle.zk_host.specs.declared.play.Asked.TheVariants as asked
use Rattle.zk_host.specs.declared.play.Play.{Play}
use Rattle.zk_host.specs.Calls.{HasPausedBy, HasRun, IsTurned, IsTurnedBy, IsTurnedIn, IsTurnedOn, Shown, Unnoted}
use Rattle.zk_host.specs.Calls.{awaited, pause_of, with_room, with_short}
use Rattle.zk_host.specs.Collecting.{Collects, has_no_room, is_lost, wants_pause}

lost_ran : (r : Result (Unit {0}) Halt) (m n closed : Session) (a b : Collected) (bound parts : ℕ)
    → Ran Collects wants_pause is_lost Unnoted a b bound parts m n r → is_lost b ≡ true
    → closed.stopped ≡ Some Write → closed.waiting ≡ None
    → RunsOn (Shown a b) Unnoted m closed (Err Write) (is_lost b)
lost_ran r m n closed a b bound parts ran lost stopped free =
    record {
      log = ran.log;
      to = ran.to;
      is = ran.is;
      alone = ran.alone;
      got = ran.got;
      noted = ran.noted;
      ends = rw (lost) (stopped, free, refl);
    }

-- what a run has come to, as it tells it
pub come_as : (r x : Result Reached Stop) (m n : Session) (a b : Collected) (bound : ℕ) → r ≡ x
    → HasCome Collects wants_pause is_lost a b bound m n (come_to r)
    → HasCome Collects wants_pause is_lost a b bound m n (come_to x)
come_as r x m n a b bound told come =
    subst (λ (y : Result Reached Stop). HasCome Collects wants_pause is_lost a b bound m n (come_to y)) told come

-- text was lost, and that is the stop
pub lost_run : (r : Result Reached Stop) (m n closed : Session) (a b : Collected) (bound : ℕ)
    → HasCome Collects wants_pause is_lost a b bound m n (come_to r) → is_lost b ≡ true
    → closed.stopped ≡ Some Write → closed.waiting ≡ None
    → RunsOn (Shown a b) Unnoted m closed (Err Write) (is_lost b)
lost_run (Ok (reached.Answer event)) m n closed a b bound come lost stopped free =
    lost_ran (Err (Ok event)) m n closed a b bound come.0 come.1 lost stopped free
lost_run (Ok reached.Pause) m n closed a b bound come lost stopped free =
    lost_ran (Ok tt) m n closed a b bound come.0 come.1 lost stopped free
lost_run (Ok reached.NoMemory) m n closed a b bound come lost stopped free =
    let works = sym come.1.works ∙ lost in absurd cc
lost_run (Err stop) m n closed a b bound come lost stopped free =
    lost_ran (Err (Err stop)) m n closed a b bound come.0 come.1 lost stopped free

-- no text was lost
pub whole_run : (m n : Session) (a b : Collected) (bound parts : ℕ) (answer : Result Event Stop)
    → Ran Collects wants_pause is_lost Unnoted a b bound parts m n (Err answer)
    → IfErr answer (λ stop. n.stopped ≡ Some stop) → is_lost b ≡ false
    → RunsOn (Shown a b) Unnoted m n answer (is_lost b)
whole_run m n a b bound parts answer ran stops works =
    record {
      log = ran.log;
      to = ran.to;
      is = ran.is;
      alone = ran.alone;
      got = ran.got;
      noted = ran.noted;
      ends =
          rw (works) (ends_whole Collects wants_pause is_lost a b bound parts m ran.to n ran.log answer stops
          (λ lost. let never = sym works ∙ lost in absurd cc) ran.ends);
    }

-- why it has paused
paused_in : (old new : Play) (steps : ℕ) (full short : Bool)
    → HasPausedBy old new steps (if full then asked.Room else if short then asked.Memory else asked.Time)
    → HasRun old new steps (Ok (if full then asked.Room else if short then asked.Memory else asked.Time))
paused_in old new steps true short h = h
paused_in old new steps false true h = inl h
paused_in old new steps false false h = h

pub has_paused : (old new : Play) (steps : ℕ) (why : Asked) → why ≡ pause_of new
    → (parts : ℕ) × Ran Collects wants_pause is_lost Unnoted old.text new.text (old.machine.state.steps + steps)
    parts old.machine new.machine (Ok tt)
    → new ≡ record old { machine = new.machine; text = new.text; cover = new.cover } → HasRun old new steps (Ok why)
has_paused old new steps why is come same =
    subst (λ (x : Asked). HasRun old new steps (Ok x)) (sym is)
    (paused_in old new steps (has_no_room new.text) new.text.short (come, refl, same))

-- a turn that finds no memory
turned_by : (event : Option Event) (stopped : Option Stop) (old new : Play) (steps room : ℕ)
    (answer : Result Asked Stop) → event ≡ None → stopped ≡ None
    → IsTurnedIn (has_no_room (with_room old room).text) (with_room old room) new steps answer
    → IsTurnedBy event stopped old new steps room answer
turned_by None None old new steps room answer waits runs h = h
turned_by None (Some stop) old new steps room answer waits runs h = absurd cc
turned_by (Some event) stopped old new steps room answer waits runs h = absurd cc

turned_in : (full : Bool) (old new : Play) (steps : ℕ) (answer : Result Asked Stop) → full ≡ false
    → (short : Bool) × IsTurnedOn short (with_short old short) new steps answer → IsTurnedIn full old new steps answer
turned_in false old new steps answer roomy h = h
turned_in true old new steps answer roomy h = absurd cc

short_by : (short : Bool) → (if short then false else true) ≡ false → short ≡ true
short_by true told = refl
short_by false told = absurd cc

pub turned_short : (old : Play) (steps room : ℕ) (text : Collected) → awaited old ≡ None → old.stopped ≡ None
    → has_no_room (with_room old room).text ≡ false → text ≡ record old.text { room = room; short = text.short }
    → (if text.short then false else true) ≡ false → IsTurned old (record old { text = text }) steps room
    (Ok asked.Memory)
turned_short old steps room text waits runs roomy same told =
    let last : text ≡ (with_short (with_room old room) true).text = same
    ∙ ap (λ (x : Bool). (with_short (with_room old room) x).text) (short_by text.short told) in
    let there = ap (λ (t : Collected). let p : Play = record old { text = t } in p) last in
    turned_by (awaited old) old.stopped old (record old { text = text }) steps room (Ok asked.Memory) waits runs
    (turned_in (has_no_room (with_room old room).text) (with_room old room) (record old { text = text }) steps
    (Ok asked.Memory) roomy (true, (refl, there)))
