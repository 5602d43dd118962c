-- Runs of a story with a clean set of addresses.
use Rattle.std.proofs.Common.{◌≡◌, ◌∙◌, ◌≤◌, ◌+◌, ◌-◌, ◌&&◌, ℕ, zero, suc, Bool, true, false, List, [], ◌∷◌, Option}
use Rattle.std.proofs.Common.{Some, None, Result, Ok, Err, refl, ap, sym, subst, arith, nat_lt}
use Rattle.std.specs.Prelude.{All, if◌then◌else◌}
use Rattle.std.proofs.lemmas.Bool.Decides.{nat_tests}
use Rattle.std.proofs.lemmas.List.Elements.{All-nil, All-cons, All-head, All-tail}
use Rattle.zk_mem.specs.declared.memory.Setup.{Setup}
use Rattle.zk_mem.specs.declared.fault.Fault.{Fault}
use Rattle.zk_mem.specs.Fresh.{fresh}
use Rattle.zk_mem.specs.Header.{header_of}
use Rattle.zk_mem.specs.Map.{MemoryMap}
use Rattle.zk_mem.specs.Story.{refusal}
use Rattle.zk_state.specs.declared.refusal.Limit.TheVariants.{Reads}
use Rattle.zk_state.specs.declared.refusal.Refusal.{Refusal}
use Rattle.zk_state.specs.declared.refusal.Refusal.TheVariants as refused
use Rattle.zk_state.specs.Frames.{FrameList, within_bounds}
use Rattle.zk_mem.proofs.Bounds.{none_bounds}
use Rattle.zk_mem.proofs.Fields.{length-with_fields, drop-with_fields}
use Rattle.zk_code.specs.declared.instr.Instr.{Instr}
use Rattle.zk_code.specs.Clean.{IsClean, leads_by_variable}
use Rattle.zk_code.specs.Grammar.{IsInstruction}
use Rattle.zk_code.specs.Reach.{goes_on}
use Rattle.zk_code.specs.Reading.{instr_at}
use Rattle.zk_code.proofs.Longer.{ends_inside as instruction_ends}
use Rattle.zk_code.proofs.Reached.{has_one}
use Rattle.zk_code.proofs.Saved.{saved_from_five}
use Rattle.zk_save.specs.Loading.{restored}
use Rattle.zk_save.specs.States.{WholeState}
use Rattle.zk_step.specs.declared.state.game_state.View.{View}
use Rattle.zk_step.specs.Laws.{IsOneStory, KeepsStory, is_of_reading}
use Rattle.zk_step.specs.Routing.{Signals}
use Rattle.zk_step.proofs.Inside.{ends_inside, goes_inside, next_inside, read_inside}
use Rattle.zk_step.proofs.Sweep.{Anywhere, ResumesInto, ends_anywhere, leads_anywhere, return_anywhere}
use Rattle.zk_vm.specs.Bounds.{setup_of}
use Rattle.zk_vm.specs.declared.limits.Limits.{Limits}
use Rattle.zk_vm.specs.declared.stop.Stop.{Stop}
use Rattle.zk_vm.specs.declared.stop.Stop.TheVariants.{Fault as FaultAt, Limit as LimitAt}
use Rattle.zk_vm.specs.declared.waiting.Waiting.{Waiting}
use Rattle.zk_vm.specs.Answers.{Answer, answered, file_of}
use Rattle.zk_vm.specs.Inside.{CleanStays, CleanStopsRead, IsInside, IsKeptInside, IsRead, NoneLeaves, StaysClean}
use Rattle.zk_vm.specs.Inside.{StopsRead, found_by_variable, goes_by_variable, is_loaded, is_restore, leaves, leaves_by}
use Rattle.zk_vm.specs.Inside.{loads_file}
use Rattle.zk_vm.specs.Log.{Move, after, goes_by, is_silent, moved, moved_by, parted, parted_to, parts_by, stepped}
use Rattle.zk_vm.specs.Log.{stepped_to, text_left, text_shown}
use Rattle.zk_vm.specs.Log.Move.{Gets, Goes, Part}
use Rattle.zk_vm.specs.Sessions.{Session, begun, resumed}
use Rattle.zk_vm.specs.Step.{State, Step, Verdict, verdict_within, is_past_reads, saved_pc, state_after, step}
use Rattle.zk_vm.specs.Step.{verdict_of}
use Rattle.zk_vm.specs.Step.Step.{Goes as GoesTo, Waits, Quits, Faults, Exceeds}
use Rattle.zk_vm.specs.Step.Verdict.{GoesOn, WaitsFor, StopsBy}
use Rattle.zk_vm.proofs.FrameLimits.{no_fault}
use Rattle.zk_vm.proofs.Loaded.{loaded_keeps}
use Rattle.zk_vm.proofs.Moves.{IsKeptBy, after_keeps, has_run, moved_keeps}
use Rattle.zk_vm.proofs.StepFaults.{answer_is_later, step_is_later}
use Rattle.zk_vm.proofs.Staying.{FilesInto, Inside, KeptIn, Knows, RunsInside, each_inside}

-- ---- where a run begins

-- a story at its start keeps itself
fresh_keeps : (story : List ℕ) (k : Setup) → refusal story ≡ None → KeepsStory (fresh story k)
unfolding fresh header_of
fresh_keeps story k e =
    let is = none_bounds story e in
    record {
      header = is.static_low;
      inside = is.static_high;
      size = length-with_fields (header_of story).version k story;
      keeps = drop-with_fields (header_of story).static_base (header_of story).version k story is.static_low;
    }

fresh_story : (story : List ℕ) (k l : Setup) → IsOneStory (fresh story k) (fresh story l)
unfolding fresh
fresh_story story k l = record { version = refl; base = refl; file = refl }

begins : (story : List ℕ) (k : Setup) (P : ℕ → Type 0) (seed : ℕ) (l : Limits) (view : View) → refusal story ≡ None
    → P (header_of story).first_instruction → RunsInside (fresh story k) P (begun story seed l view)
unfolding begun
begins story k P seed l view is first = record {
  state = record {
    memory = fresh_keeps story (setup_of l) is;
    story = fresh_story story k (setup_of l);
    pc = first;
    returns = tt;
    undo = All-nil (KeptIn (fresh story k) P);
  };
  waits = tt;
}

-- ---- anywhere

module _ (m : MemoryMap) where
  resumes_anywhere : (pc : ℕ) → ResumesInto Anywhere m.version pc
  resumes_anywhere pc = record { branch = λ b a early. leads_anywhere _; store = λ late. tt }

  known_anywhere : (s : State) (i : Instr) → Knows m Anywhere s i
  known_anywhere s i = record {
    ends = λ u v vs e taken by keeps story. ends_anywhere v.memory i e;
    on = λ on truth. leads_anywhere _;
    kept = λ by. (resumes_anywhere (saved_pc s i), tt);
  }

  files_anywhere : (s : State) (w : Waiting) (a : Answer) → Inside m Anywhere s → FilesInto m Anywhere s w a
  files_anywhere s w a h file n f pc restore there e =
      let k = loaded_keeps file s.game.memory s.game.frames n f pc h.memory e in
      let story = h.story in
      let back = k.1 in
      record {
        memory = k.0;
        story =
            record {
              version = back.version ∙ story.version;
              base = back.base ∙ story.base;
              file = back.file ∙ story.file;
            };
        returns = return_anywhere f.current.pc f.callers;
        resumes = resumes_anywhere pc;
      }

  pub after_anywhere : (ms : List Move) (s : Session) → RunsInside m Anywhere s → (after ms s).stopped ≡ None
      → RunsInside m Anywhere (after ms s)
  after_anywhere =
      after_keeps (RunsInside m Anywhere) (λ s n h. each_inside m Anywhere s n
      (λ i runs free silent is e. known_anywhere s.state i)
      (λ w a runs there is. files_anywhere s.state w a h.state) h)

-- ---- inside a clean set

same_instr : (i j : Instr) → ◌≡◌ {A = Result Instr Fault} (Ok i) (Ok j) → i ≡ j
same_instr i j e = cc

module _ (m : MemoryMap) (P : ℕ → Type 0) (clean : IsClean m P) (keeps : KeepsStory m) where
  there : (s : State) → Inside m P s → (i : Instr) × IsInstruction m s.pc i i.next
      × (instr_at s.game.memory s.pc ≡ Ok i)
  there s h =
      let d = clean.decodes s.pc h.pc in (
        d.0,
        d.1,
        read_inside m P clean keeps s.pc d.0 h.pc d.1 s.game.memory
            h.memory h.story,
      )

  kept_pc : (s : State) (i : Instr) → IsOneStory m s.game.memory → IsInstruction m s.pc i i.next → 5 ≤ m.version
      → saved_pc s i + 1 ≡ i.next
  kept_pc s i story stands late =
      let version = story.version in
      let test : nat_lt s.game.memory.version 4 ≡ false = grind (arith, nat_tests) in
      let some = (instruction_ends m s.pc i i.next stands).0 in
      rw test (omega (arith, some))

  knows : (s : State) → Inside m P s → (i : Instr) → IsInstruction m s.pc i i.next → leads_by_variable i ≡ false
      → Knows m P s i
  unfolding goes_on
  knows s h i stands known = record {
    ends = λ u v vs e taken by k story. ends_inside m P clean keeps s.pc i h.pc stands v.memory k story known
        s.game u vs taken e by;
    on = goes_inside m P clean keeps s.pc i h.pc stands;
    kept = λ by.
        (let late = saved_from_five m s.pc i i.next stands by in
        let on = next_inside m P clean keeps s.pc i h.pc stands (ap goes_on by) in
        let after : P (saved_pc s i + 1) = subst P (sym (kept_pc s i h.story stands late)) on in
        let old : nat_lt m.version 4 ≡ false = grind (arith, nat_tests) in
        (record { branch = λ b a early. absurd cc; store = λ k. after }, after));
  }

  known : (s : State) → Inside m P s → goes_by_variable s ≡ false → (i : Instr)
      → instr_at s.game.memory s.pc ≡ Ok i → Knows m P s i
  unfolding goes_by_variable
  known s h more i e =
      let t = there s h in
      let same : t.0 ≡ i = same_instr t.0 i (sym t.2 ∙ e) in
      let by : leads_by_variable t.0 ≡ false = ap found_by_variable (sym t.2) ∙ more in
      subst (λ (j : Instr). Knows m P s j) same (knows s h t.0 t.1 by)

  both : (x y : Bool) → (x && y) ≡ false → x ≡ true → y ≡ true → ⊥
  both true true h e k = absurd cc
  both true false h e k = absurd cc
  both false y h e k = absurd cc

  loaded_so : (s : State) (o : Option (List ℕ)) (file : List ℕ) (r : _) → o ≡ Some file
      → restored file s.game.memory s.game.frames ≡ Ok r → is_loaded s o ≡ true
  loaded_so s None file r e k = absurd cc
  loaded_so s (Some x) file r e k = let same : x ≡ file = cc in rw (same, k) refl

  no_files : (s : State) (w : Waiting) (a : Answer) → Inside m P s → loads_file s w a ≡ false → FilesInto m P s w a
  unfolding loads_file
  no_files s w a h more file n f pc restore there e =
      absurd (both (is_restore w.wait) (is_loaded s (file_of a)) more restore
      (loaded_so s (file_of a) file (n, f, pc) there e))

  kept_seen : (us : List WholeState) → All (KeptIn m P) us → All (IsKeptInside P) us
  kept_seen [] h = All-nil (IsKeptInside P)
  kept_seen (u ∷ us) h =
      let k = All-head (KeptIn m P) u us h in
      All-cons (IsKeptInside P) u us (record { frames = k.frames; pc = k.after })
      (kept_seen us (All-tail (KeptIn m P) u us h))

  seen : (s : State) → Inside m P s → IsInside P s
  seen s h = record { pc = h.pc; frames = h.returns; undo = kept_seen s.undo h.undo }

  -- a move that does not leave
  goes_known : (s : Session) (n : Move) → leaves s n ≡ false → s.stopped ≡ None → s.waiting ≡ None
      → s.state.due ≡ [] → n ≡ Goes → goes_by_variable s.state ≡ false
  goes_known s n more runs free silent is =
      sym (ap (λ (k : Move). leaves s k) is ∙ ap (λ (x : Option Stop). leaves_by x s.waiting s.state.due s Goes)
      runs ∙ ap (λ (x : Option Waiting). leaves_by None x s.state.due s Goes) free
      ∙ ap (λ (due : List ℕ). leaves_by None None due s Goes) silent) ∙ more

  loads_none : (s : Session) (n : Move) (w : Waiting) (a : Answer) → leaves s n ≡ false → s.stopped ≡ None
      → s.waiting ≡ Some w → n ≡ Gets a → loads_file s.state w a ≡ false
  loads_none s n w a more runs there is =
      sym (ap (λ (k : Move). leaves s k) is ∙ ap (λ (x : Option Stop). leaves_by x s.waiting s.state.due s
      (Gets a)) runs ∙ ap (λ (x : Option Waiting). leaves_by None x s.state.due s (Gets a)) there) ∙ more

  stays_inside : (s : Session) (n : Move) → leaves s n ≡ false → RunsInside m P s → IsKeptBy (RunsInside m P) s n
  stays_inside s n more h =
      each_inside m P s n (λ i runs free silent is e. known s.state h.state
      (goes_known s n more runs free silent is) i e)
      (λ w a runs there is. no_files s.state w a h.state (loads_none s n w a more runs there is)) h

  pub after_inside : (ms : List Move) (s : Session) → RunsInside m P s → NoneLeaves ms s
      → (after ms s).stopped ≡ None → RunsInside m P (after ms s)
  unfolding after NoneLeaves
  after_inside [] s h none runs = h
  after_inside (n ∷ ms) s h none runs =
      after_inside ms (moved s n).to (moved_keeps (RunsInside m P) s h n (stays_inside s n none.0 h)
      (has_run ms (moved s n).to runs)) none.1 runs

  is_read : (s : State) → Inside m Anywhere s → IsRead P s
  is_read s h inside f e =
      let d = clean.decodes s.pc inside in
      step_is_later s d.0 f (read_inside m P clean keeps s.pc d.0 inside d.1 s.game.memory h.memory h.story) e

-- ---- how a machine stops

module _ (P : ℕ → Type 0) where
  -- a stop is no fault of reading at an address of the set
  abbrev IsReadStop : Stop → Type 0
  IsReadStop (FaultAt a f) = P a → is_of_reading f ≡ false
  IsReadStop _ = Unit {0}

  abbrev IsReadOn : Verdict → Type 0
  IsReadOn GoesOn = Unit {0}
  IsReadOn (WaitsFor w) = Unit {0}
  IsReadOn (StopsBy stop) = IsReadStop stop

  abbrev IsReadBy : Option Stop → Type 0
  IsReadBy None = Unit {0}
  IsReadBy (Some stop) = IsReadStop stop

  goes_read : (pc : ℕ) (r : Result FrameList Refusal) → ((f : Fault) → r ≡ Err (refused.Fault f) → ⊥)
      → IsReadOn (verdict_within pc r)
  goes_read pc (Ok u) h = tt
  goes_read pc (Err (refused.Limit m)) h = tt
  goes_read pc (Err (refused.Fault f)) h = absurd (h f refl)

  waits_read : (b : Bool) (pc : ℕ) (w : Waiting) → IsReadOn (if b then StopsBy (LimitAt pc Reads) else WaitsFor w)
  waits_read true pc w = tt
  waits_read false pc w = tt

  -- a step that is no fault of reading stops by none
  step_read : (s : State) (x : Step) → (P s.pc → (f : Fault) → x ≡ Faults f → is_of_reading f ≡ false)
      → IsReadOn (verdict_of s x)
  step_read s (GoesTo t text) h = goes_read s.pc (within_bounds t.game.frames) (no_fault t.game.frames)
  step_read s (Waits t w text) h = waits_read (is_past_reads s.reads w.wait) s.pc w
  step_read s Quits h = tt
  step_read s (Faults f) h = λ inside. h inside f refl
  step_read s (Exceeds l) h = tt

  to_read : (s : Session) (v : Verdict) (t : State) (text : Signals) → IsReadBy s.stopped → IsReadOn v
      → IsReadBy (stepped_to s v t text).to.stopped
  to_read s GoesOn t text h on = h
  to_read s (WaitsFor w) t text h on = h
  to_read s (StopsBy stop) t text h on = on

  steps_read : (n : ℕ) (s : Session) → IsReadBy s.stopped → IsRead P s.state → IsReadBy (stepped n s).to.stopped
  steps_read zero s h read = tt
  steps_read (suc n) s h read = to_read s (verdict_of s.state (step s.state)) (state_after s.state (step s.state))
      (text_left s.left s.state) h (step_read s.state (step s.state) read)

  parted_read : (silent : Bool) (n : ℕ) (s : Session) (v : Verdict) (t : State) (text : Signals)
      → IsReadBy s.stopped → IsReadOn v → IsReadBy (parted_to silent n s v t text).to.stopped
  parted_read true n s v t text h on = h
  parted_read false n s GoesOn t text h on = h
  parted_read false n s (WaitsFor w) t text h on = h
  parted_read false n s (StopsBy stop) t text h on = on

  part_read : (n k : ℕ) (s : Session) → IsReadBy s.stopped → IsRead P s.state → IsReadBy (parted n k s).to.stopped
  part_read n zero s h read = tt
  part_read n (suc k) s h read =
      parted_read (is_silent (text_shown (step s.state))) n s (verdict_of s.state (step s.state))
      (state_after s.state (step s.state)) (text_left s.left s.state) h (step_read s.state (step s.state) read)

  parts_read : (n : ℕ) (due : List ℕ) (s : Session) → IsReadBy s.stopped → IsRead P s.state
      → IsReadBy (parts_by n due s).to.stopped
  parts_read n [] s h read = part_read n (s.limits.steps - s.state.steps) s h read
  parts_read n (c ∷ cs) s h read = h

  due_read : (due : List ℕ) (s : Session) → IsReadBy s.stopped → IsRead P s.state → IsReadBy (goes_by due s).to.stopped
  due_read [] s h read = steps_read (s.limits.steps - s.state.steps) s h read
  due_read (c ∷ cs) s h read = h

  resumed_read : (s : Session) (v : Verdict) (t : State) → IsReadBy s.stopped → IsReadOn v
      → IsReadBy (resumed s v t).stopped
  resumed_read s GoesOn t h on = h
  resumed_read s (WaitsFor w) t h on = h
  resumed_read s (StopsBy stop) t h on = on

  module _ (later : (s : State) (w : Waiting) (a : Answer) (f : Fault) → answered s w a ≡ Faults f
      → is_of_reading f ≡ false) where
    moved_read : (x : Option Stop) (y : Option Waiting) (s : Session) (n : Move) → IsReadBy s.stopped
        → (x ≡ None → IsRead P s.state) → IsReadBy (moved_by x y s n).to.stopped
    moved_read None None s Goes h read = due_read s.state.due s h (read refl)
    moved_read None None s (Part n) h read = parts_read n s.state.due s h (read refl)
    moved_read None None s (Gets a) h read = h
    moved_read None (Some w) s Goes h read = h
    moved_read None (Some w) s (Part n) h read = h
    moved_read None (Some w) s (Gets a) h read =
        let x = answered s.state w a in
        resumed_read s (verdict_of s.state x) (state_after s.state x) h
        (step_read s.state x (λ inside f faults. later s.state w a f faults))
    moved_read (Some stop) y s n h read = h

    after_read : (ms : List Move) (s : Session) → IsReadBy s.stopped
        → ((ns : List Move) → (after ns s).stopped ≡ None → IsRead P (after ns s).state) → IsReadBy (after ms s).stopped
    unfolding after
    after_read [] s h read = h
    after_read (n ∷ ms) s h read =
        after_read ms (moved s n).to (moved_read s.stopped s.waiting s n h (read [])) (λ ns. read (n ∷ ns))

pub stops_read : (story : List ℕ) (P : ℕ → Type 0) → StaysClean story P → StopsRead story P
unfolding StopsRead begun
stops_read story P clean seed l view ms a f e inside =
    subst (IsReadBy P) e (after_read P clean.answers ms (begun story seed l view) tt (clean.read seed l view)) inside

pub clean_stops_read : CleanStopsRead
clean_stops_read story is_in clean = stops_read story (λ a. is_in a ≡ true) clean

-- ---- the laws

pub stays_clean : (story : List ℕ) (k : Setup) (P : ℕ → Type 0) → refusal story ≡ None → IsClean (fresh story k) P
    → StaysClean story P
unfolding fresh
stays_clean story k P is clean =
    let keeps = fresh_keeps story k is in
    record {
      inside = λ seed l view ms none runs. seen (fresh story k) P clean keeps
          (after ms (begun story seed l view)).state (after_inside (fresh story k) P clean keeps ms
          (begun story seed l view) (begins story k P seed l view is (clean.closed.roots _ (has_one _))) none
          runs).state;
      read = λ seed l view ms runs. is_read (fresh story k) P clean keeps
          (after ms (begun story seed l view)).state (after_anywhere (fresh story k) ms (begun story seed l view)
          (begins story k Anywhere seed l view is tt) runs).state;
      answers = answer_is_later;
      memory =
          λ seed l view ms runs. (after_anywhere (fresh story k) ms (begun story seed l view)
          (begins story k Anywhere seed l view is tt) runs).state.memory;
    }

pub clean_stays : CleanStays
clean_stays story k is_in is clean = stays_clean story k (λ a. is_in a ≡ true) is clean
