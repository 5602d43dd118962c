-- The log of a turn, and of a play.
use Rattle.std.proofs.Common.{IfErr, ◌≡◌, ◌∙◌, inl, inr, ℕ, Bool, true, false, List, [], ◌∷◌, ◌++◌, append_assoc}
use Rattle.std.proofs.Common.{append-nil, Option, Some, None, Result, Ok, Err, refl, ap, sym, subst}
use Rattle.std.specs.Prelude.{IfSome, filter_map}
use Rattle.std.specs.List.{AllByRecursion}
use Rattle.std.proofs.lemmas.List.Elements.{filter_map-append}
use Rattle.zk_text.specs.Extra.{ExtraTable, is_input_code, own_characters}
use Rattle.zk_term.specs.declared.lines.InputEnd.{InputEnd}
use Rattle.zk_term.specs.declared.lines.InputEnd.TheVariants.{End}
use Rattle.zk_term.specs.BufferedScreens.{Targets, Written}
use Rattle.zk_term.specs.Characters.{line_codes}
use Rattle.std.specs.Str.Lines.{strip_carriage_return}
use Rattle.zk_term.specs.Lines.{GaveLines, Heard, IsNextLine, TakesLine, behind, heard, nothing_more}
use Rattle.zk_term.proofs.Giving.{gave_more, gave_none}
use Rattle.zk_term.proofs.Shown.{shows_nothing, shows_twice}
use Rattle.zk_step.specs.declared.state.ending.Event.{Event}
use Rattle.zk_step.specs.declared.state.ending.Event.TheVariants as event
use Rattle.zk_vm.specs.declared.stop.Stop.{Stop}
use Rattle.zk_vm.specs.declared.stop.Stop.TheVariants.{Memory, Write}
use Rattle.zk_vm.specs.Answers.{Answer}
use Rattle.zk_vm.specs.Answers.Answer.{Typed, GameKept, File}
use Rattle.zk_vm.specs.Halts.{IsLeftAs, event_waited}
use Rattle.zk_vm.specs.Log.{Entry, IsLeftIn, IsLog, address_in, addresses, answer_in, answers_in, heard_by, read_in}
use Rattle.zk_vm.specs.Log.{reads_in, scripted, shown, stop_told, signals, signal_in}
use Rattle.zk_term.specs.Signals.{script_in, text_in}
use Rattle.zk_vm.specs.Log.Entry.{At, Shown, Read, Offered, Asked, Stopped}
use Rattle.zk_vm.specs.Logged.{Ends, EndsBy, IsLeftFor, IsOfSlot, IsOver, LacksRoom, LacksState, Plays, Ran, RunEnds}
use Rattle.zk_vm.specs.Logged.{RunsOn, Served, Serves, SlotDid, TookOf, Turns, WasNoted, Wrote, WroteFirst}
use Rattle.zk_vm.specs.Logged.EndsBy.{Itself, NoLine, NoMemory, Unwritten}
use Rattle.zk_vm.specs.Sessions.{Session, given, with_stop}
use Rattle.zk_vm.specs.Plays.{AsksForFile, FoundNoLine, IsHeard, IsTold, SlotTells, SourceTells, Taken, TookLines}
use Rattle.zk_vm.specs.Plays.{image_of, refusal_of, stop_behind}
use Rattle.zk_vm.specs.Step.{is_read}
use Rattle.zk_vm.proofs.Logs.{given_free, given_logged, log_left, logs_join, no_log, stays_free}
use Rattle.zk_vm.proofs.LogSteps.{waits_so}
use Rattle.zk_vm.proofs.Playing.{heard_on, heard_whole, no_end}
use Rattle.zk_vm.proofs.RunningOn.{IsFinished, IsFresh, both_show, known_failed, never_cut_off}
use Rattle.zk_step.specs.Routing.{Signals}

-- ---- a run on two targets

left_as : (t u : Session) (x : Option Stop) → u.waiting ≡ None → IsLeftAs t u x → IsLeftIn t u x
left_as t u None free left = left
left_as t u (Some stop) free left = (left.0, left.1 ∙ sym free, left.2)

-- on targets that bytes wait for, up to where all is given out
wrote_on : (a b c : Targets) (l : List Entry) → IsFresh a → IsFinished c → Written a b (shown l) (scripted l)
    → Written b c [] [] → Wrote (record { screen = a.screen; script = a.script })
    (record { screen = c.screen; script = c.script }) c.failed l
wrote_on a b c l fresh done first rest =
    let both = both_show a b c (signals l) fresh done first rest in
    record { screen = both.0; script = both.1 }

-- how a run ends whose screen has not failed
pub ends_whole : {S : Type 0} (shows : S → S → Signals → Type 0) (full failed : S → Bool) (x y : S)
    (bound parts : ℕ) (old to new : Session) (l : List Entry) (answer : Result Event Stop)
    → IfErr answer (λ stop. new.stopped ≡ Some stop) → (failed y ≡ true → ⊥)
    → RunEnds shows full failed x y bound parts old to new l (Err answer) → Ends LacksState false to new answer
ends_whole shows full failed x y bound parts old to new l (Ok e) stops works (there, waits) = (refl, there, waits)
ends_whole shows full failed x y bound parts old to new l (Err stop) stops works (free, inl h) = (stops, free, inl h)
ends_whole shows full failed x y bound parts old to new l (Err stop) stops works (free, inr (inl (e, lacks))) =
    (stops, free, inr (e, lacks))
ends_whole shows full failed x y bound parts old to new l (Err stop) stops works
    (free, inr (inr (e, on, broken, same))) = absurd (works broken)

-- no write has failed
pub ran_whole : {S : Type 0} (shows : S → S → Signals → Type 0) (full failed : S → Bool)
    (Noted : List ℕ → Type 0) (x y : S) (bound parts : ℕ) (old new : Session) (answer : Result Event Stop)
    (a b c : Targets) (r : Ran shows full failed Noted x y bound parts old new (Err answer))
    → IfErr answer (λ stop. new.stopped ≡ Some stop) → (failed y ≡ true → b.failed ≡ true)
    → Written a b (shown r.log) (scripted r.log) → Written b c [] [] → IsFresh a → IsFinished c → c.failed ≡ false
    → RunsOn (Wrote (record { screen = a.screen; script = a.script })
    (record { screen = c.screen; script = c.script }) c.either) Noted old new answer c.either
ran_whole shows full failed Noted x y bound parts old new answer a b c r stops broken first rest fresh done sound =
    let known = known_failed a b c (signals r.log) fresh first rest in
    let either : c.either ≡ false = sym known ∙ sound in
    record {
      log = r.log;
      to = r.to;
      is = r.is;
      alone = r.alone;
      got =
          subst (λ (z : Bool). Wrote (record { screen = a.screen; script = a.script })
          (record { screen = c.screen; script = c.script }) z r.log) known
          (wrote_on a b c r.log fresh done first rest);
      noted = r.noted;
      ends =
          rw (either) (ends_whole shows full failed x y bound parts old r.to new r.log answer stops
          (λ f. never_cut_off ⊥ b c rest sound (broken f)) r.ends);
    }

-- one has failed
pub ran_part : {S : Type 0} (shows : S → S → Signals → Type 0) (full failed : S → Bool)
    (Noted : List ℕ → Type 0) (x y : S) (bound parts : ℕ) (old new closed : Session) (answer : Result Event Stop)
    (a b c : Targets) (r : Ran shows full failed Noted x y bound parts old new (Err answer))
    → Written a b (shown r.log) (scripted r.log) → Written b c [] [] → IsFresh a → IsFinished c → c.failed ≡ true
    → closed.stopped ≡ Some Write → closed.waiting ≡ None
    → RunsOn (Wrote (record { screen = a.screen; script = a.script })
    (record { screen = c.screen; script = c.script }) c.either) Noted old closed (Err Write) c.either
ran_part shows full failed Noted x y bound parts old new closed answer a b c r first rest fresh done broken
    stopped free =
    let known = known_failed a b c (signals r.log) fresh first rest in
    let either : c.either ≡ true = sym known ∙ broken in
    record {
      log = r.log;
      to = r.to;
      is = r.is;
      alone = r.alone;
      got =
          subst (λ (z : Bool). Wrote (record { screen = a.screen; script = a.script })
          (record { screen = c.screen; script = c.script }) z r.log) known
          (wrote_on a b c r.log fresh done first rest);
      noted = r.noted;
      ends = rw (either) (stopped, free, refl);
    }

-- a machine that asks has run
pub waits_by_moves : (s t u : Session) (e : Event) (x : Option Stop) → s.stopped ≡ x → s.waiting ≡ None
    → (l : List Entry) → IsLog s l t → event_waited t.waiting ≡ Some e → s.stopped ≡ None
waits_by_moves s t u e None same free l log waits = same
waits_by_moves s t u e (Some stop) same free l log waits =
    let never = ap event_waited (stays_free s t stop l same log ∙ free) in let is = sym never ∙ waits in absurd cc

pub asked_runs : (Got : List Entry → Type 0) (Noted : List ℕ → Type 0) (s t : Session) (e : Event)
    (unwritten : Bool) → s.waiting ≡ None → RunsOn Got Noted s t (Ok e) unwritten → s.stopped ≡ None
asked_runs Got Noted s t e unwritten free r = waits_by_moves s r.to t e s.stopped refl free r.log r.is r.ends.2

-- ---- a slot

same_stop : (t u : Session) (x : Option Stop) → u.stopped ≡ x → IsLeftAs t u x → t.stopped ≡ u.stopped
same_stop t u None e left = ap (λ (s : Session). s.stopped) left
same_stop t u (Some stop) e left = left.0 ∙ sym e

pub answer_logged : (old new : Session) (event : Event) (a : Answer) → old.stopped ≡ None
    → event_waited old.waiting ≡ Some event → IsLeftAs new (given old a) (given old a).stopped
    → IsLog old (heard_by old event a ∷ stop_told new.stopped) new
answer_logged old new event a runs waits left =
    let w = waits_so old.waiting event waits in
    let given_to = given_logged old w.0 a runs w.1.0 in
    let all = log_left old (given old a) new _ given_to
    (left_as new (given old a) (given old a).stopped (given_free old a) left) in
    let same = same_stop new (given old a) (given old a).stopped refl left in
    subst (λ (x : Option Stop). IsLog old (heard_by old event a ∷ stop_told x) new) (sym same)
    (subst (λ (e : Event). IsLog old (heard_by old e a ∷ stop_told (given old a).stopped) new) w.1.1 all)

pub offered : {K : Type 0} (t : SlotTells K) (a b : K) (old new : Session) (kept : Bool) → old.stopped ≡ None
    → event_waited old.waiting ≡ Some event.Save → IsLeftAs new (given old (GameKept kept))
    (given old (GameKept kept)).stopped
    → IfSome (t.keeps a (image_of old)) (λ k. kept ≡ k)
    → (kept ≡ true → IfSome (t.held b) (λ f. f ≡ Some (image_of old))) → (kept ≡ false → t.held b ≡ t.held a)
    → t.puts a b (image_of old) kept → Serves t old new a b
offered t a b old new kept runs waits left keeps held stays puts =
    record {
      entry = heard_by old event.Save (GameKept kept);
      is = answer_logged old new event.Save
          (GameKept kept) runs waits left;
      of_slot = tt;
      served = (keeps, held, stays, puts);
    }

pub asked : {K : Type 0} (t : SlotTells K) (a mid b : K) (old new : Session) (file : Option (List ℕ))
    → old.stopped ≡ None → event_waited old.waiting ≡ Some event.Restore
    → IsLeftAs new (given old (File file)) (given old (File file)).stopped
    → IfSome (t.held a) (λ f. file ≡ f) → t.held b ≡ t.held a → t.gets a mid file
    → IsTold t.hears mid b (refusal_of old file) → Serves t old new a b
asked t a mid b old new file runs waits left found stays gets told =
    record {
      entry = heard_by old event.Restore (File file);
      is = answer_logged old new event.Restore (File file)
          runs waits left;
      of_slot = tt;
      served = (found, stays, (mid, (gets, told)));
    }

-- ---- one after the other

pub wrote_twice : (a b c : Taken) (failed : Bool) (l m : List Entry) → Wrote a b false l → Wrote b c failed m
    → Wrote a c failed (l ++ m)
wrote_twice a b c failed l m h k =
    record {
      screen = rw (filter_map-append signal_in l m, filter_map-append text_in (signals l) (signals m)) (shows_twice _
          _ _ _ _ h.screen k.screen);
      script = rw (filter_map-append signal_in l m, filter_map-append script_in (signals l) (signals m)) (shows_twice
          _ _ _ _ _ h.script k.script);
    }

pub did_twice : {K : Type 0} (t : SlotTells K) (l m : List Entry) (a b c : K) → SlotDid t l a b → SlotDid t m b c
    → SlotDid t (l ++ m) a c
unfolding SlotDid
did_twice {K} t [] m a b c h k = subst (λ (x : K). SlotDid t m x c) h k
did_twice {K} t (x ∷ l) m a b c h k = (h.0, (h.1.0, did_twice t l m h.0 b c h.1.1 k))

reads_both : (l m : List Entry) (a b : List (ExtraTable × List ℕ)) → reads_in l ≡ a → reads_in m ≡ b
    → reads_in (l ++ m) ≡ a ++ b
reads_both l m a b e f =
    rw (filter_map-append answer_in l m, filter_map-append read_in (answers_in l) (answers_in m), e, f) refl

no_reads : (l : List Entry) → answers_in l ≡ [] → reads_in l ≡ []
no_reads l e = ap (λ (x : List Entry). filter_map read_in x) e

did_both : {K : Type 0} (t : SlotTells K) (l m : List Entry) (a b c : K) → SlotDid t (answers_in l) a b
    → SlotDid t (answers_in m) b c → SlotDid t (answers_in (l ++ m)) a c
did_both t l m a b c h k = rw (filter_map-append answer_in l m) (did_twice t (answers_in l) (answers_in m) a b c h k)

did_alone : {K : Type 0} (t : SlotTells K) (l : List Entry) (a : K) → answers_in l ≡ [] → SlotDid t (answers_in l) a a
unfolding SlotDid
did_alone t l a e = rw e refl

-- what a slot answers shows nothing, stands nowhere, and is no read
record IsSilent (l : List Entry) : Type 0 where
  given : signals l ≡ []
  nowhere : addresses l ≡ []

wrote_none : (taken : Taken) (l : List Entry) → IsSilent l → Wrote taken taken false l
wrote_none taken l h = record { screen = rw (h.given) (shows_nothing _); script = rw (h.given) (shows_nothing _) }

-- an entry of a slot, in each device's part
record SlotEntry (x : Entry) : Type 0 where
  given : signal_in x ≡ None
  nowhere : address_in x ≡ None
  answer : answer_in x ≡ Some x
  no_read : read_in x ≡ None

slot_entry : (x : Entry) → IsOfSlot x → SlotEntry x
slot_entry (Offered file kept) of =
    record { given = refl; nowhere = refl; answer = refl; no_read = refl }
slot_entry (Asked file refusal) of =
    record { given = refl; nowhere = refl; answer = refl; no_read = refl }
slot_entry (At address) of = absurd of
slot_entry (Shown signal) of = absurd of
slot_entry (Read extra codes ended) of = absurd of
slot_entry (Stopped stop) of = absurd of

slot_silent : (x : Entry) (stop : Option Stop) → SlotEntry x → IsSilent (x ∷ stop_told stop)
slot_silent x None h =
    record { given = rw (h.given) refl; nowhere = rw (h.nowhere) refl }
slot_silent x (Some stop) h =
    record { given = rw (h.given) refl; nowhere = rw (h.nowhere) refl }

slot_answers : (x : Entry) (stop : Option Stop) → SlotEntry x → answers_in (x ∷ stop_told stop) ≡ x ∷ []
slot_answers x None h = rw (h.answer) refl
slot_answers x (Some stop) h = rw (h.answer) refl

slot_reads : (x : Entry) (stop : Option Stop) → SlotEntry x → reads_in (x ∷ stop_told stop) ≡ []
slot_reads x stop h = rw (slot_answers x stop h, h.no_read) refl

slot_did : {K : Type 0} (t : SlotTells K) (x : Entry) (stop : Option Stop) (a b : K) → SlotEntry x
    → Served t x a b → SlotDid t (answers_in (x ∷ stop_told stop)) a b
unfolding SlotDid
slot_did t x stop a b h served = rw (slot_answers x stop h) (b, (served, refl))

-- ---- a turn

-- where the instructions of a log stand was noted, and so of one after it
module _ {P : Type 0} (notes : P → P → List ℕ → Type 0) (chain : (a b c : P) (s t : List ℕ) → notes a b s
    → notes b c t → notes a c (s ++ t)) where
  noted_then : (p q r : P) (l m : List Entry) → notes p q (addresses l) → notes q r (addresses m)
      → notes p r (addresses (l ++ m))
  noted_then p q r l m h k = rw (filter_map-append address_in l m) (chain p q r (addresses l) (addresses m) h k)

  -- nothing that stands anywhere comes after it
  noted_still : (p q : P) (l m : List Entry) → notes p q (addresses l) → addresses m ≡ []
      → notes p q (addresses (l ++ m))
  noted_still p q l m h none = rw (filter_map-append address_in l m, none, append-nil (addresses l)) h

  was_noted : (p q r : P) (l m : List Entry) (to : Session) → notes p q (addresses l) → WasNoted (notes q r) m to
      → WasNoted (notes p r) (l ++ m) to
  was_noted p q r l m to h (inl k) = inl (noted_then p q r l m h k)
  was_noted p q r l m to h (inr (lacks, k)) =
      inr (
        lacks,
        rw (filter_map-append address_in l m)
            (subst (notes p r) (sym (append_assoc (addresses l) (addresses m) (to.state.pc ∷ [])))
            (chain p q r (addresses l) (addresses m ++ to.state.pc ∷ []) h k)),
      )

-- of a machine that waits there is memory for a state
waits_noted : (Noted : List ℕ → Type 0) (l : List Entry) (to : Session) (e : Event)
    → event_waited to.waiting ≡ Some e → WasNoted Noted l to → Noted (addresses l)
waits_noted Noted l to e waits (inl h) = h
waits_noted Noted l to e waits (inr (lacks, h)) =
    let free = lacks.1.on.free in let never = sym (ap event_waited free) ∙ waits in absurd cc

module _ {K P : Type 0} (t : SlotTells K) (notes : P → P → List ℕ → Type 0) (chain : (a b c : P) (s t : List ℕ)
    → notes a b s → notes b c t → notes a c (s ++ t)) where
  -- a turn up to where its machine is run again
  pub record TurnLog (start now : Session) (slot0 slot1 : K) (p q : P) (taken0 taken1 : Taken) : Type 0 where
    pub log : List Entry
    pub is : IsLog start log now
    pub no_reads : reads_in log ≡ []
    pub wrote : Wrote taken0 taken1 false log
    pub did : SlotDid t (answers_in log) slot0 slot1
    pub noted : notes p q (addresses log)

  pub log_begins : (start : Session) (slot : K) (p : P) (taken : Taken) → notes p p []
      → TurnLog start start slot slot p p taken taken
  unfolding SlotDid
  log_begins start slot p taken none =
      record {
        log = [];
        is = no_log start;
        no_reads = refl;
        wrote = wrote_none taken []
            (record { given = refl; nowhere = refl });
        did = refl;
        noted = none;
      }

  pub log_goes : (start now mid next : Session) (slot0 slot1 slot2 : K) (p q r : P) (taken0 taken1 taken2 : Taken)
      (e : Event) → TurnLog start now slot0 slot1 p q taken0 taken1 → RunsOn (Wrote taken1 taken2 false) (notes q r)
      now mid (Ok e) false → Serves t mid next slot1 slot2
      → TurnLog start next slot0 slot2 p r taken0 taken2
  log_goes start now mid next slot0 slot1 slot2 p q r taken0 taken1 taken2 e s run v =
      let x = v.entry ∷ stop_told next.stopped in
      let entry = slot_entry v.entry v.of_slot in
      let silent = slot_silent v.entry next.stopped entry in
      let did = slot_did t v.entry next.stopped slot1 slot2 entry v.served in
      let there : IsLog now run.log mid = subst (λ (m : Session). IsLog now run.log m) (sym run.ends.1) run.is in
      let places = waits_noted (notes q r) run.log run.to e run.ends.2 run.noted in
      record {
        log = s.log ++ (run.log ++ x);
        is = logs_join start now next s.log (run.log ++ x) s.is (logs_join now mid next run.log x there v.is);
        no_reads =
            reads_both s.log (run.log ++ x) [] [] s.no_reads
            (reads_both run.log x [] [] (no_reads run.log run.alone) (slot_reads v.entry next.stopped entry));
        wrote = wrote_twice taken0 taken1 taken2 false s.log (run.log ++ x) s.wrote
            (wrote_twice taken1 taken2 taken2 false run.log x run.got (wrote_none taken2 x silent));
        did =
            did_both t s.log (run.log ++ x) slot0 slot1 slot2 s.did
            (did_both t run.log x slot1 slot1 slot2 (did_alone t run.log slot1 run.alone) did);
        noted = noted_then notes chain p q r s.log (run.log ++ x) s.noted
            (noted_still notes chain q r run.log x places silent.nowhere);
      }

  -- how it ends, by the way in which its last run does
  ends_turn : (z : Bool) (to new : Session) (answer : Result Event Stop) → Ends LacksState z to new answer
      → Ends LacksRoom z to new answer
  ends_turn z to new (Ok e) h = h
  ends_turn true to new (Err stop) h = h
  ends_turn false to new (Err stop) (stopped, free, inl h) = (stopped, free, inl h)
  ends_turn false to new (Err stop) (stopped, free, inr (memory, lacks)) = (stopped, free, inr (memory, inl lacks))

  pub log_over : (start now new : Session) (slot0 slot1 : K) (p q r : P) (taken0 taken1 taken2 : Taken)
      (answer : Result Event Stop) (unwritten : Bool) → TurnLog start now slot0 slot1 p q taken0 taken1
      → RunsOn (Wrote taken1 taken2 unwritten) (notes q r) now new answer unwritten
      → Turns t (notes p r) slot0 slot1 start new answer unwritten taken0 taken2
  log_over start now new slot0 slot1 p q r taken0 taken1 taken2 answer unwritten s run = record {
    log = s.log ++ run.log;
    to = run.to;
    is = logs_join start now run.to s.log run.log s.is run.is;
    no_reads = reads_both s.log run.log [] [] s.no_reads (no_reads run.log run.alone);
    wrote = record {
      first = s.log;
      last = run.log;
      whole = refl;
      alone = run.alone;
      between = taken1;
      all = s.wrote;
      part = run.got;
    };
    noted = was_noted notes chain p q r s.log run.log run.to s.noted run.noted;
    slot = slot1;
    did = did_both t s.log run.log slot0 slot1 slot1 s.did (did_alone t run.log slot1 run.alone);
    left = inl refl;
    ends = ends_turn unwritten run.to new answer run.ends;
  }

  -- there is no memory for a saved game
  pub log_lacks : (start now mid : Session) (slot0 slot1 slot2 : K) (p q r : P) (taken0 taken1 taken2 : Taken)
      (e : Event) → TurnLog start now slot0 slot1 p q taken0 taken1 → RunsOn (Wrote taken1 taken2 false) (notes q r)
      now mid (Ok e) false
      → AsksForFile mid → t.held slot2 ≡ t.held slot1 → Turns t (notes p r) slot0 slot2 start
      (with_stop mid Memory) (Err Memory) false taken0 taken2
  unfolding log_over
  log_lacks start now mid slot0 slot1 slot2 p q r taken0 taken1 taken2 e s run asks held =
      let whole = log_over start now mid slot0 slot1 p q r taken0 taken1 taken2 (Ok e) false s run in
      let there : AsksForFile run.to = subst (λ (m : Session). AsksForFile m) run.ends.1 asks in
      record {
        log = whole.log;
        to = run.to;
        is = whole.is;
        no_reads = whole.no_reads;
        wrote = whole.wrote;
        noted = whole.noted;
        slot = slot1;
        did = whole.did;
        left = inr (refl, there, held);
        ends = (refl, refl, inr (refl, inr there));
      }

abbrev Line : Type 0
Line = ExtraTable × List ℕ

abbrev AreTyped : List Line → Type 0
AreTyped reads = AllByRecursion (λ x. AllByRecursion (λ c. is_input_code c ≡ true) x.1) reads

-- ---- what is heard

-- what is heard from here on is heard after what was read so far
abbrev pub HeardSoFar : List ℕ → List ℕ → Option InputEnd → List Line → Type 0
HeardSoFar bytes now over reads = (final : List ℕ) (failed : Bool) (h : Heard) (left : List (List ℕ))
    (more : List Line) → (over ≡ Some End → failed ≡ false) → IsHeard now final failed h left
    → TookLines more h.lines left
    → (g : Heard) × (IsHeard bytes final failed g left × TookLines (reads ++ more) g.lines left × (g.over ≡ h.over))

heard_more : (bytes now next : List ℕ) (over how : Option InputEnd) (reads : List Line) (read : Line)
    (line : List ℕ) → (over ≡ Some End → ⊥) → IsNextLine now next line how → read.1 ≡ line_codes read.0 line
    → HeardSoFar bytes now over reads → HeardSoFar bytes next how (reads ++ read ∷ [])
heard_more bytes now next over how reads read line goes is codes so final failed h left more sound heard took =
    let all = so final failed (behind line h) left (read ∷ more) (λ e. absurd (goes e))
    (heard_on now next final line failed how h left is sound heard) (codes, took) in (
      all.0,
      (
        all.1.0,
        subst (λ (l : List Line). TookLines l all.0.lines left)
            (sym (append_assoc reads (read ∷ []) more)) all.1.1,
        all.1.2,
      ),
    )

-- the source that a play has come to
pub record SourceSoFar {R : Type 0} (tells : R → Option (List ℕ)) (gives : R → R → List ℕ → Type 0) (a b : R)
    (ahead : List ℕ) (over : Option InputEnd) (reads : List Line) : Type 0 where
  pub typed : AreTyped reads
  pub unread : reads ≡ [] → b ≡ a
  pub given : over ≡ None → (lines : List (List ℕ)) × (GaveLines gives a b lines ahead × TookLines reads lines [])
  pub heard : (bytes : List ℕ) → tells a ≡ Some bytes → (later : List ℕ)
      × ((tells b ≡ Some later) × (over ≡ Some End → ahead ++ later ≡ []) × HeardSoFar bytes
      (ahead ++ later) over reads)

pub source_begins : {R : Type 0} (tells : R → Option (List ℕ)) (gives : R → R → List ℕ → Type 0) (a : R)
    (ahead : List ℕ) (over : Option InputEnd) → ahead ≡ [] → over ≡ None → SourceSoFar tells gives a a ahead over []
source_begins tells gives a ahead over e f = record {
  typed = tt;
  unread = λ none. refl;
  given = λ goes. ([], (rw e (gave_none gives a), refl));
  heard =
      λ bytes told. (
        bytes,
        (
          told,
          λ ends. no_end over (ahead ++ bytes ≡ []) f ends,
          rw e (λ final failed h left more sound heard took. (h, (heard, took, refl))),
        ),
      );
}

-- ---- a play

-- a turn that asks has run, and one that stops has that stop
pub turned_runs : {K : Type 0} (t : SlotTells K) (Noted : List ℕ → Type 0) (k l : K) (now mid : Session)
    (e : Event) (unwritten : Bool) (a b : Taken) → now.waiting ≡ None
    → Turns t Noted k l now mid (Ok e) unwritten a b → now.stopped ≡ None
turned_runs t Noted k l now mid e unwritten a b free u =
    waits_by_moves now u.to mid e now.stopped refl free u.log u.is u.ends.2

pub turn_stopped : {K : Type 0} (t : SlotTells K) (Noted : List ℕ → Type 0) (k l : K) (now new : Session)
    (stop : Stop) (unwritten : Bool) (a b : Taken) → Turns t Noted k l now new (Err stop) unwritten a b
    → new.stopped ≡ Some stop
turn_stopped t Noted k l now new stop unwritten a b u = go unwritten u.ends
  where
    go : (z : Bool) → Ends LacksRoom z u.to new (Err stop) → new.stopped ≡ Some stop
    go true h = h.0
    go false h = h.0

all_wrote : (a b : Taken) (l : List Entry) → WroteFirst a b false l → Wrote a b false l
all_wrote a b l w = subst (λ (x : List Entry). Wrote a b false x) (sym w.whole)
    (wrote_twice a w.between b false w.first w.last w.all w.part)

same_slot : {K : Type 0} (t : SlotTells K) (to : Session) (e : Event) (a b : K) → IsLeftFor t to (Ok e) a b → b ≡ a
same_slot t to e a b (inl h) = h
same_slot t to e a b (inr h) = let never = h.0 in absurd cc

-- the entries of a read
abbrev pub read_entries : Session → List ℕ → Session → List Entry
read_entries mid codes next = Read (own_characters mid.state.game.memory) codes 13 ∷ stop_told next.stopped

read_is : (s : Session) (e : Event) (codes : List ℕ) → is_read e ≡ true
    → heard_by s e (Typed codes 13) ≡ Read (own_characters s.state.game.memory) codes 13
read_is s (event.Line text parse) codes h = refl
read_is s event.Char codes h = refl
read_is s event.Save codes h = absurd cc
read_is s event.Restore codes h = absurd cc

read_silent : (extra : ExtraTable) (codes : List ℕ) (x : Option Stop) → IsSilent (Read extra codes 13 ∷ stop_told x)
read_silent extra codes None = record { given = refl; nowhere = refl }
read_silent extra codes (Some stop) = record { given = refl; nowhere = refl }

read_does : {K : Type 0} (t : SlotTells K) (extra : ExtraTable) (codes : List ℕ) (x : Option Stop) (a : K)
    → SlotDid t (answers_in (Read extra codes 13 ∷ stop_told x)) a a
unfolding SlotDid
read_does t extra codes None a = (a, (refl, refl))
read_does t extra codes (Some stop) a = (a, (refl, refl))

-- the reads of a turn and of the read behind it
pub reads_behind : (log turn : List Entry) (mid next : Session) (codes : List ℕ) → reads_in turn ≡ []
    → reads_in (log ++ (turn ++ read_entries mid codes next)) ≡ reads_in log
    ++ (own_characters mid.state.game.memory, codes) ∷ []
reads_behind log turn mid next codes none =
    reads_both log (turn ++ read_entries mid codes next) (reads_in log) _
    refl (reads_both turn (read_entries mid codes next) [] _ none (one next.stopped))
  where
    one : (x : Option Stop) → reads_in (Read (own_characters mid.state.game.memory) codes 13 ∷ stop_told x)
        ≡ (own_characters mid.state.game.memory, codes) ∷ []
    one None = refl
    one (Some stop) = refl

typed_more : (reads : List Line) (read : Line) → AreTyped reads → AllByRecursion (λ c. is_input_code c ≡ true)
    read.1 → AreTyped (reads ++ read ∷ [])
typed_more [] read h k = (k, tt)
typed_more (x ∷ reads) read h k = (h.0, typed_more reads read h.1 k)

some_read : (reads : List Line) (read : Line) (A : Type 0) → reads ++ read ∷ [] ≡ [] → A
some_read [] read A h = absurd cc
some_read (x ∷ reads) read A h = absurd cc

took_more : (reads : List Line) (read : Line) (lines : List (List ℕ)) (line : List ℕ) → TookLines reads lines []
    → read.1 ≡ line_codes read.0 line → TookLines (reads ++ read ∷ []) (lines ++ line ∷ []) []
took_more [] read [] line h e = (e, refl)
took_more [] read (x ∷ lines) line h e = absurd cc
took_more (x ∷ reads) read [] line h e = absurd h
took_more (x ∷ reads) read (y ∷ lines) line h e = (h.0, took_more reads read lines line h.1 e)

pub source_goes : {R : Type 0} (tells : R → Option (List ℕ)) (gives : R → R → List ℕ → Type 0) (a b c : R)
    (ahead next : List ℕ) (over how : Option InputEnd) (reads : List Line) (read : Line)
    → SourceSoFar tells gives a b ahead over reads → over ≡ None → AllByRecursion (λ c. is_input_code c ≡ true) read.1
    → ((bytes : List ℕ) → tells b ≡ Some bytes → (later : List ℕ) × (tells c ≡ Some later)
    × ((line : List ℕ) × IsNextLine (ahead ++ bytes) (next ++ later) line how × (read.1 ≡ line_codes read.0 line)))
    → ((bytes later line : List ℕ) → IsNextLine bytes later line how → how ≡ Some End → later ≡ [])
    → (how ≡ None → TakesLine gives b c ahead next read.0 read.1)
    → SourceSoFar tells gives a c next how (reads ++ read ∷ [])
source_goes tells gives a b c ahead next over how reads read s goes typed hears none takes = record {
  typed = typed_more reads read s.typed typed;
  unread = some_read reads read (c ≡ a);
  given = λ goes_on.
      let before = s.given goes in
      let line = takes goes_on in (
        before.0 ++ strip_carriage_return line.part ∷ [],
        (
          gave_more gives a b c before.0 ahead next line.part before.1.0 line.taken line.plain,
          took_more reads read before.0 (strip_carriage_return line.part) before.1.1 line.is,
        ),
      );
  heard = λ bytes told.
      let h = s.heard bytes told in
      let k = hears h.0 h.1.0 in (
        k.0,
        (
          k.1,
          none (ahead ++ h.0) (next ++ k.0) k.2.0 k.2.1,
          heard_more bytes (ahead ++ h.0) (next ++ k.0)
              over how reads read k.2.0 (no_end over ⊥ goes) k.2.1 k.2.2 h.1.2,
        ),
      );
}

-- ---- the end of a play

-- what a source was read for in all
pub record SourceDid {R : Type 0} (tells : R → Option (List ℕ)) (failed : Bool) (a b : R) (reads : List Line)
    (Over : List (List ℕ) → InputEnd → Type 0) : Type 0 where
  pub typed : AreTyped reads
  pub heard : (bytes : List ℕ) → tells a ≡ Some bytes → (later : List ℕ)
      × ((tells b ≡ Some later) × TookOf bytes later failed reads Over)

took_all : (bytes now final : List ℕ) (over : Option InputEnd) (failed : Bool) (reads : List Line)
    (Over : List (List ℕ) → InputEnd → Type 0) (h : Heard) (left : List (List ℕ)) → HeardSoFar bytes now over reads
    → (over ≡ Some End → failed ≡ false) → IsHeard now final failed h left → h.lines ≡ left → Over left h.over
    → TookOf bytes final failed reads Over
took_all bytes now final over failed reads Over h left so sound heard none over_is =
    let all = so final failed h left [] sound heard none in (
      all.0,
      (
        left,
        (
          all.1.0,
          subst (λ (l : List Line). TookLines l all.0.lines left) (append-nil reads) all.1.1,
          subst (λ (z : InputEnd). Over left z) (sym all.1.2) over_is,
        ),
      ),
    )

-- it was not asked again
pub source_stays : {R : Type 0} (tells : R → Option (List ℕ)) (gives : R → R → List ℕ → Type 0) (failed : Bool)
    (a b : R) (ahead : List ℕ) (over : Option InputEnd) (reads : List Line) (Over : List (List ℕ) → InputEnd
    → Type 0) → failed ≡ false → ((l : List (List ℕ)) (x : InputEnd) → Over l x)
    → SourceSoFar tells gives a b ahead over reads → SourceDid tells failed a b reads Over
source_stays tells gives failed a b ahead over reads Over sound none s = record {
  typed = s.typed;
  heard = λ bytes told.
      let h = s.heard bytes told in
      let all = heard (ahead ++ h.0) in (
        h.0,
        (
          h.1.0,
          took_all bytes (ahead ++ h.0) h.0 over failed reads Over all all.lines h.1.2
              (λ e. sound) (heard_whole (ahead ++ h.0) h.0 failed all.lines sound) refl (none all.lines all.over),
        ),
      );
}

-- it has found no line
pub source_over : {R : Type 0} (tells : R → Option (List ℕ)) (gives : R → R → List ℕ → Type 0) (failed : Bool)
    (a b c : R) (ahead : List ℕ) (over : Option InputEnd) (o : InputEnd) (reads : List Line)
    (Over : List (List ℕ) → InputEnd → Type 0) → (over ≡ Some End → failed ≡ false) → Over [] o
    → ((bytes : List ℕ) → tells b ≡ Some bytes → (over ≡ Some End → ahead ++ bytes ≡ [])
    → (later : List ℕ) × (tells c ≡ Some later) × IsHeard (ahead ++ bytes) later failed (nothing_more o) [])
    → SourceSoFar tells gives a b ahead over reads → SourceDid tells failed a c reads Over
source_over tells gives failed a b c ahead over o reads Over sound none hears s = record {
  typed = s.typed;
  heard = λ bytes told.
      let h = s.heard bytes told in
      let k = hears h.0 h.1.0 h.1.1 in (
        k.0,
        (
          k.1,
          took_all bytes (ahead ++ h.0) k.0 over failed reads Over (nothing_more o) [] h.1.2 sound k.2
              refl none,
        ),
      );
}

reads_of : (log turn : List Entry) → reads_in turn ≡ [] → reads_in log ≡ reads_in (log ++ turn)
reads_of log turn none = sym (reads_both log turn (reads_in log) [] refl none ∙ append-nil (reads_in log))

-- after a turn without reads
source_then : {R : Type 0} {tells : R → Option (List ℕ)} {gives : R → R → List ℕ → Type 0} {a b : R}
    {ahead : List ℕ} {over : Option InputEnd} (log turn : List Entry)
    → SourceSoFar tells gives a b ahead over (reads_in log) → reads_in turn ≡ []
    → SourceSoFar tells gives a b ahead over (reads_in (log ++ turn))
source_then {R} {tells} {gives} {a} {b} {ahead} {over} log turn s none =
    subst (λ (l : List Line). SourceSoFar tells gives a b ahead over l) (reads_of log turn none) s

module _ {K P : Type 0} (t : SlotTells K) (notes : P → P → List ℕ → Type 0) (chain : (a b c : P) (s t : List ℕ)
    → notes a b s → notes b c t → notes a c (s ++ t)) where
  pub record PlayLog (start now : Session) (slot0 slot1 : K) (p q : P) (a b : Taken) (log : List Entry) : Type 0 where
    pub is : IsLog start log now
    pub wrote : Wrote a b false log
    pub did : SlotDid t (answers_in log) slot0 slot1
    pub noted : notes p q (addresses log)

  pub play_begins : (start : Session) (slot : K) (p : P) (a : Taken) → notes p p []
      → PlayLog start start slot slot p p a a []
  unfolding SlotDid
  play_begins start slot p a none =
      record {
        is = no_log start;
        wrote = wrote_none a [] (record { given = refl; nowhere = refl });
        did = refl;
        noted = none;
      }

  pub play_goes : (start now mid next : Session) (slot0 slot1 slot2 : K) (p q r : P) (a b c : Taken)
      (log : List Entry) (e : Event) (codes : List ℕ) → PlayLog start now slot0 slot1 p q a b log
      → (u : Turns t (notes q r) slot1 slot2 now mid (Ok e) false b c)
      → mid.stopped ≡ None → event_waited mid.waiting ≡ Some e → is_read e ≡ true
      → IsLeftAs next (given mid (Typed codes 13)) (given mid (Typed codes 13)).stopped
      → PlayLog start next slot0 slot2 p r a c (log ++ (u.log ++ read_entries mid codes next))
  play_goes start now mid next slot0 slot1 slot2 p q r a b c log e codes s u runs waits reads left =
      let x = read_entries mid codes next in
      let extra = own_characters mid.state.game.memory in
      let silent = read_silent extra codes next.stopped in
      let there : IsLog now u.log mid = subst (λ (m : Session). IsLog now u.log m) (sym u.ends.1) u.is in
      let read : IsLog mid x next = subst (λ (y : Entry). IsLog mid (y ∷ stop_told next.stopped) next)
      (read_is mid e codes reads) (answer_logged mid next e (Typed codes 13) runs waits left) in
      let did : SlotDid t (answers_in u.log) slot1 slot2 = subst (λ (k : K). SlotDid t (answers_in u.log) slot1 k)
      (sym (same_slot t u.to e u.slot slot2 u.left)) u.did in
      let places = waits_noted (notes q r) u.log u.to e u.ends.2 u.noted in
      record {
        is = logs_join start now next log (u.log ++ x) s.is (logs_join now mid next u.log x there read);
        wrote =
            wrote_twice a b c false log (u.log ++ x) s.wrote
            (wrote_twice b c c false u.log x (all_wrote b c u.log u.wrote) (wrote_none c x silent));
        did =
            did_both t log (u.log ++ x) slot0 slot1 slot2 s.did
            (did_both t u.log x slot1 slot2 slot2 did (read_does t extra codes next.stopped slot2));
        noted =
            noted_then notes chain p q r log (u.log ++ x) s.noted
            (noted_still notes chain q r u.log x places silent.nowhere);
      }

  module _ {R : Type 0} (src : SourceTells R) (tells : R → Option (List ℕ)) where
    play_over : (start now new : Session) (slot0 slot1 slot2 : K) (p q r : P) (reader0 reader1 : R)
        (a b c : Taken) (log : List Entry) (answer : Result Event Stop) (unwritten : Bool) (stop : Stop)
        → PlayLog start now slot0 slot1 p q a b log → (u : Turns t (notes q r) slot1 slot2 now new answer unwritten b c)
        → (ends : EndsBy src reader0 reader1 (reads_in (log ++ u.log)) unwritten u.to stop)
        → IsLeftFor t u.to (Err stop) u.slot slot2 → SourceDid tells (src.failed reader1) reader0 reader1
        (reads_in (log ++ u.log)) (IsOver ends) → Plays t src tells (notes p r) slot0 slot2 reader0 reader1
        start stop unwritten a c
    play_over start now new slot0 slot1 slot2 p q r reader0 reader1 a b c log answer unwritten stop s u ends left
        did = record {
          log = log ++ u.log;
          to = u.to;
          is = logs_join start now u.to log u.log s.is u.is;
          ends = ends;
          wrote = record {
            first = log ++ u.wrote.first;
            last = u.wrote.last;
            whole = ap (λ (l : List Entry). log ++ l) u.wrote.whole ∙ sym (append_assoc log u.wrote.first u.wrote.last);
            alone = u.wrote.alone;
            between = u.wrote.between;
            all = wrote_twice a b u.wrote.between false log u.wrote.first s.wrote u.wrote.all;
            part = u.wrote.part;
          };
          noted = was_noted notes chain p q r log u.log u.to s.noted u.noted;
          slot = u.slot;
          did = did_both t log u.log slot0 slot1 u.slot s.did u.did;
          left = left;
          typed = did.typed;
          heard = did.heard;
        }

    -- a turn that comes to its stop
    pub play_stops : (start now new : Session) (slot0 slot1 slot2 : K) (p q r : P) (reader0 reader1 : R)
        (ahead : List ℕ) (over : Option InputEnd) (a b c : Taken) (log : List Entry) (unwritten : Bool)
        (stop : Stop) → src.failed reader1 ≡ false → PlayLog start now slot0 slot1 p q a b log
        → (u : Turns t (notes q r) slot1 slot2 now new (Err stop) unwritten b c)
        → SourceSoFar tells src.gives reader0 reader1 ahead over (reads_in log)
        → Plays t src tells (notes p r) slot0 slot2 reader0 reader1 start stop unwritten a c
    play_stops start now new slot0 slot1 slot2 p q r reader0 reader1 ahead over a b c log unwritten stop sound s u
        source = go unwritten u u.ends
      where
        go : (z : Bool) (v : Turns t (notes q r) slot1 slot2 now new (Err stop) z b c)
            → Ends LacksRoom z v.to new (Err stop) → Plays t src tells (notes p r) slot0 slot2 reader0 reader1
            start stop z a c
        go true v (stopped, free, write) =
            let so = source_then log v.log source v.no_reads in
            play_over start now new slot0 slot1 slot2 p q r reader0 reader1 a b c log (Err stop) true stop s v
            (Unwritten refl write so.unread) v.left (source_stays tells src.gives (src.failed reader1) reader0
            reader1 ahead over _ _ sound (λ l x. tt) so)
        go false v (stopped, free, inl itself) =
            let so = source_then log v.log source v.no_reads in
            play_over start now new slot0 slot1 slot2 p q r reader0 reader1 a b c log (Err stop) false stop s v
            (Itself refl itself so.unread) v.left (source_stays tells src.gives (src.failed reader1) reader0
            reader1 ahead over _ _ sound (λ l x. tt) so)
        go false v (stopped, free, inr (memory, lacks)) =
            let so = source_then log v.log source v.no_reads in
            play_over start now new slot0 slot1 slot2 p q r reader0 reader1 a b c log (Err stop) false stop s v
            (NoMemory refl memory new.state lacks so.unread) v.left
            (source_stays tells src.gives (src.failed reader1) reader0 reader1 ahead over _ _ sound (λ l x. tt) so)

    -- a read that finds no line
    pub play_finds_none : (start now mid : Session) (slot0 slot1 slot2 : K) (p q r : P)
        (reader0 reader1 reader2 : R) (ahead : List ℕ) (over : Option InputEnd) (a b c : Taken) (log : List Entry)
        (e : Event) (o : InputEnd) → PlayLog start now slot0 slot1 p q a b log
        → (u : Turns t (notes q r) slot1 slot2 now mid (Ok e) false b c)
        → is_read e ≡ true → FoundNoLine src reader0 reader2 (reads_in log) o
        → (over ≡ Some End → src.failed reader2 ≡ false)
        → ((bytes : List ℕ) → tells reader1 ≡ Some bytes → (over ≡ Some End → ahead ++ bytes ≡ [])
        → (later : List ℕ) × (tells reader2 ≡ Some later) × IsHeard (ahead ++ bytes) later
        (src.failed reader2) (nothing_more o) [])
        → SourceSoFar tells src.gives reader0 reader1 ahead over (reads_in log)
        → Plays t src tells (notes p r) slot0 slot2 reader0 reader2 start (stop_behind o) false a c
    play_finds_none start now mid slot0 slot1 slot2 p q r reader0 reader1 reader2 ahead over a b c log e o s u
        reads found sound hears source =
        let so = source_then log u.log source u.no_reads in
        play_over start now mid slot0 slot1 slot2 p q r reader0 reader2 a b c log (Ok e) false (stop_behind o) s u
        (NoLine refl o refl (e, (u.ends.2, reads))
        (subst (λ (l : List Line). FoundNoLine src reader0 reader2 l o) (reads_of log u.log u.no_reads)
        found)) (inl (same_slot t u.to e u.slot slot2 u.left))
        (source_over tells src.gives (src.failed reader2) reader0 reader1 reader2 ahead over o _ _ sound
        (refl, refl) hears so)
