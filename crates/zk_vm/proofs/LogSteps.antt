-- The log of a run: first what the transcript is still to get, then step after step.
use Rattle.std.proofs.Common.{◌≡◌, ◌∙◌, ◌≤◌, ◌<◌, ◌-◌, ◌+◌, inl, inr, ℕ, zero, suc, Bool, true, false, List, [], ◌∷◌}
use Rattle.std.proofs.Common.{◌++◌, length, append_assoc, append-nil, Option, Some, None, Result, Ok, Err, refl, ap}
use Rattle.std.proofs.Common.{sym, subst, arith}
use Rattle.std.specs.Prelude.{MatchResult}
use Rattle.std.proofs.lemmas.List.Elements.{filter_map-append}
use Rattle.zk_state.specs.declared.refusal.Limit.TheVariants.{Steps}
use Rattle.zk_step.specs.declared.state.ending.Event.{Event}
use Rattle.zk_step.specs.declared.state.game_state.GameState.{GameState}
use Rattle.zk_step.specs.Routing.{Signals, no_signals, on_script}
use Rattle.zk_fast.specs.QuietSteps.{GoesBy, IsQuietStep}
use Rattle.zk_fast.specs.QuietSteps.GoesBy.{nowhere, along}
use Rattle.zk_vm.specs.declared.stop.Stop.{Stop}
use Rattle.zk_vm.specs.declared.stop.Stop.TheVariants as stops
use Rattle.zk_vm.specs.declared.waiting.Waiting.{Waiting}
use Rattle.zk_vm.specs.Answers.Answer.{Typed}
use Rattle.zk_vm.specs.Going.{GoesAhead, StopsAhead, after_steps, stop_by}
use Rattle.zk_vm.specs.Halts.{Halt, IsLeftAt, IsStep, StepsTo, event_waited, halt_by}
use Rattle.zk_vm.specs.Log.{Entry, IsLog, Passed, address_told, addresses, answers_in, goes_by, moved}
use Rattle.zk_vm.specs.Log.{signal_in, signals, stepped_to, text_left, told}
use Rattle.zk_vm.specs.Log.Entry.{At}
use Rattle.zk_vm.specs.Log.Move.{Gets, Goes}
use Rattle.zk_vm.specs.Logged.{AtLast, IsOn, LacksState, Ran, RunEnds, WasNoted}
use Rattle.zk_vm.specs.Pausing.{told_due}
use Rattle.zk_vm.specs.Sessions.{Session}
use Rattle.zk_vm.specs.Step.{State, Verdict, step, state_after, text_of, verdict_of}
use Rattle.zk_vm.specs.Step.Verdict.{GoesOn, WaitsFor, StopsBy}
use Rattle.zk_vm.proofs.Ahead.{more_behind, none_behind, refused_step, silent_step}
use Rattle.zk_vm.proofs.Logs.{LogWith, Says, addresses_both, answers_both, logs_join, move_is, no_log, says_nothing}
use Rattle.zk_vm.proofs.Logs.{says_told, says_step, says_stop, told_nowhere, step_stands, with_both, with_none}
use Rattle.zk_vm.proofs.Logs.{with_step}

step_move : (s : Session) → IsOn s → s.left ≡ None → s.state.steps < s.limits.steps
    → moved s Goes ≡ stepped_to s (verdict_of s.state (step s.state)) (state_after s.state (step s.state))
    (text_of s.state (step s.state))
step_move s on whole room =
    move_is (suc (s.limits.steps - s.state.steps - 1)) s on.runs on.free on.silent (omega (arith, room))
    ∙ ap (λ (left : Option Signals). stepped_to s (verdict_of s.state (step s.state))
    (state_after s.state (step s.state)) (text_left left s.state)) whole

-- a machine with no text left is so after a step
whole_after : (s : Session) (t : State) → s.left ≡ None → ◌≡◌ {A = Session} (record s { state = t; left = None })
    (record s { state = t })
whole_after s t whole =
    ap (λ (left : Option Signals). let x : Session = record s { state = t; left = left } in x) (sym whole)

-- a machine that goes on stays so where its state changes
still_on : (s : Session) (t : State) → IsOn s → t.due ≡ [] → IsOn (record s { state = t })
still_on s t on silent = record { runs = on.runs; free = on.free; silent = silent }

-- one that waits for nothing gets no answer
stays : (s : Session) → IsOn s → moved s (Gets (Typed [] 13)) ≡ record { entries = []; to = s }
stays s on = rw (on.runs, on.free) refl

-- ---- steps that are made in silence

record Quiet (s t : Session) (places : List ℕ) : Type 0 where
  log : List Entry
  is : LogWith 0 s log t
  says : Says log no_signals
  stands : addresses log ≡ places

quiet_step : (s : Session) (v : GameState) (next : ℕ) → IsOn s → s.left ≡ None → s.state.steps < s.limits.steps
    → IsQuietStep s.state.game s.state.pc v next
    → LogWith 0 s (At s.state.pc ∷ [])
    (record s { state = record s.state { game = v; pc = next; steps = s.state.steps + 1 } })
quiet_step s v next on whole room quiet =
    let one = silent_step s.state v next quiet in
    let t : State = record s.state { game = v; pc = next; steps = s.state.steps + 1 } in
    let is : moved s Goes ≡ stepped_to s GoesOn t no_signals = step_move s on whole room
    ∙ ap (λ (x : Verdict). stepped_to s x (state_after s.state (step s.state)) (text_of s.state (step s.state)))
    one.goes
    ∙ ap (λ (x : State). stepped_to s GoesOn x (text_of s.state (step s.state))) one.after
    ∙ ap (λ (x : Signals). stepped_to s GoesOn t x) one.shows in
    let there : LogWith 0 s (address_told s.left s.state.pc ++ []) (record s { state = t; left = None }) =
    subst (λ (p : Passed). LogWith 0 s p.entries p.to) is (with_step s) in
    subst (λ (u : Session). LogWith 0 s (At s.state.pc ∷ []) u) (whole_after s t whole)
    (subst (λ (left : Option Signals). LogWith 0 s (address_told left s.state.pc ++ [])
    (record s { state = t; left = None })) whole there)

goes_quiet : (places : List ℕ) (w end : GameState) (pc last : ℕ) → GoesBy places w pc end last → (s : Session)
    → s.state.game ≡ w → s.state.pc ≡ pc → IsOn s → s.left ≡ None → s.state.steps + length places ≤ s.limits.steps
    → Quiet s (record s { state = after_steps s.state (length places) end last }) places
goes_quiet _ _ _ _ _ (nowhere {w} {pc}) s here there on whole few =
    let e : after_steps s.state zero w pc ≡ s.state = rw (← here, ← there) (none_behind s.state) in
    subst (λ (t : State). Quiet s (record s { state = t }) []) (sym e)
    (record { log = []; is = with_none s; says = says_nothing; stands = refl })
goes_quiet _ _ _ _ _ (along {places} {w} {v} {end} {pc} {next} {last} quiet rest) s here there on whole few =
    let now : IsQuietStep s.state.game s.state.pc v next = rw (here, there) quiet in
    let mid : Session = record s { state = record s.state { game = v; pc = next; steps = s.state.steps + 1 } } in
    let first = quiet_step s v next on whole (omega (arith, few)) now in
    let more = goes_quiet places v end next last rest mid refl refl (still_on s mid.state on on.silent) whole
    (omega (arith, few)) in
    let all : Quiet s (record mid { state = after_steps mid.state (length places) end last }) (pc ∷ places) = record {
      log = At s.state.pc ∷ more.log;
      is = with_both 0 0 0 s mid _ (At s.state.pc ∷ []) more.log (omega arith) on.runs first more.is;
      says = record { given = more.says.given; alone = more.says.alone };
      stands = ap (λ (a : ℕ). a ∷ addresses more.log) there ∙ ap (λ (l : List ℕ). pc ∷ l) more.stands;
    } in
    subst (λ (t : State). Quiet s (record s { state = t }) (pc ∷ places))
    (more_behind s.state v end next last (length places)) all

-- ---- on a screen

-- a log so far, with so many parts of texts, which a screen got, of a machine that goes on and has no text left
pub record On {S : Type 0} (shows : S → S → Signals → Type 0) (Noted : List ℕ → Type 0) (parts : ℕ)
    (a now : S) (old s : Session) : Type 0 where
  pub log : List Entry
  pub is : LogWith parts old log s
  pub alone : answers_in log ≡ []
  pub got : shows a now (signals log)
  pub noted : Noted (addresses log)
  pub left : s ≡ record old { state = s.state }
  pub on : IsOn s
  pub whole : s.left ≡ None

module _ {S : Type 0} (shows : S → S → Signals → Type 0) (nothing : (a : S) → shows a a [])
    (twice : (a b c : S) (s t : Signals) → shows a b s → shows b c t → shows a c (s ++ t)) where
  got_both : (a b c : S) (l m : List Entry) (text : Signals) → shows a b (signals l) → Says m text
      → shows b c text → shows a c (signals (l ++ m))
  got_both a b c l m text h says k =
      rw (filter_map-append signal_in l m, says.given) (twice a b c (signals l) text h k)

  got_twice : (a b c : S) (l m : List Entry) → shows a b (signals l) → shows b c (signals m)
      → shows a c (signals (l ++ m))
  got_twice a b c l m h k = rw (filter_map-append signal_in l m) (twice a b c (signals l) (signals m) h k)

  -- what holds of the screen since the last move of a log
  last_by : (holds : S → Bool) (a now b : S) (old s : Session) (log : List Entry) (m : _) → IsLog old log s
      → shows a now (signals log) → shows now b (signals (moved s m).entries) → holds now ≡ false → holds b ≡ true
      → AtLast shows holds a b old (moved s m).to (log ++ (moved s m).entries)
  last_by holds a now b old s log m is got gets before after =
      record {
        first = log;
        mid = s;
        before = is;
        between = now;
        got = got;
        not = before;
        move = m;
        whole = refl;
        there = refl;
        gets = gets;
        now = after;
      }

  -- it holds since a move at which nothing passed
  last_silent : (holds : S → Bool) (a now b : S) (old s : Session) (log : List Entry) → IsOn s → IsLog old log s
      → shows a now (signals log) → shows now b [] → holds now ≡ false → holds b ≡ true
      → AtLast shows holds a b old s log
  last_silent holds a now b old s log on is got gets before after =
      let none = stays s on in
      let gets_none : shows now b (signals (moved s (Gets (Typed [] 13))).entries) =
      subst (λ (p : Passed). shows now b (signals p.entries)) (sym none) gets in
      let last = last_by holds a now b old s log (Gets (Typed [] 13)) is got gets_none before after in
      subst (λ (l : List Entry). AtLast shows holds a b old s l) (append-nil log)
      (subst (λ (p : Passed). AtLast shows holds a b old p.to (log ++ p.entries)) none last)

  -- ---- what the transcript is still to get

  pub record Dued (a b : S) (s : Session) : Type 0 where
    pub log : List Entry
    pub is : LogWith 0 s log (told_due s)
    pub alone : answers_in log ≡ []
    pub nowhere : addresses log ≡ []
    pub got : shows a b (signals log)
    pub last : (holds : S → Bool) → holds a ≡ false → holds b ≡ true → AtLast shows holds a b s (told_due s) log

  due_by : (a b : S) (s : Session) (due : List ℕ) → s.state.due ≡ due → s.stopped ≡ None → s.waiting ≡ None
      → shows a b (on_script due) → Dued a b s
  due_by a b s [] e runs free h =
      let same : s ≡ told_due s = ap (λ (d : List ℕ). let x : Session = record s
      { state = record s.state { due = d } } in x) e in
      let on : IsOn s = record { runs = runs; free = free; silent = e } in
      record {
        log = [];
        is = subst (λ (t : Session). LogWith 0 s [] t) same (with_none s);
        alone = refl;
        nowhere = refl;
        got = h;
        last = λ holds before after. subst (λ (t : Session). AtLast shows holds a b s t []) same
            (last_silent holds a a b s s [] on (no_log s) (nothing a) h before after);
      }
  due_by a b s (c ∷ cs) e runs free h =
      let is : moved s Goes ≡ goes_by (c ∷ cs) s = rw (runs, free, e) refl in
      let says = says_told (on_script (c ∷ cs)) in
      let got : shows a b (signals (told (on_script (c ∷ cs)))) = rw says.given h in
      record {
        log = told (on_script (c ∷ cs));
        is = subst (λ (p : Passed). LogWith 0 s p.entries p.to) is (with_step s);
        alone = says.alone;
        nowhere = told_nowhere (on_script (c ∷ cs));
        got = got;
        last = λ holds before after.
            let gets : shows a b (signals (moved s Goes).entries) =
            subst (λ (p : Passed). shows a b (signals p.entries)) (sym is) got in
            subst (λ (p : Passed). AtLast shows holds a b s p.to p.entries) is
            (last_by holds a a b s s [] Goes (no_log s) (nothing a) gets before after);
      }

  pub due_got : (a b : S) (s : Session) → s.stopped ≡ None → s.waiting ≡ None → shows a b (on_script s.state.due)
      → Dued a b s
  due_got a b s runs free h = due_by a b s s.state.due refl runs free h

  last_on : (holds : S → Bool) (a b c : S) (old mid to : Session) (l m : List Entry) → IsLog old l mid
      → shows a b (signals l) → AtLast shows holds b c mid to m → AtLast shows holds a c old to (l ++ m)
  last_on holds a b c old mid to l m is got x = record {
    first = l ++ x.first;
    mid = x.mid;
    before = logs_join old mid x.mid l x.first is x.before;
    between = x.between;
    got = got_twice a b x.between l x.first got x.got;
    not = x.not;
    move = x.move;
    whole = ap (λ (n : List Entry). l ++ n) x.whole ∙ sym (append_assoc l x.first (moved x.mid x.move).entries);
    there = x.there;
    gets = x.gets;
    now = x.now;
  }

  -- ---- steps, whose addresses are noted

  module _ {P : Type 0} (notes : P → P → List ℕ → Type 0) (chain : (a b c : P) (s t : List ℕ) → notes a b s
      → notes b c t → notes a c (s ++ t)) where
    pub on_start : (p : P) (a : S) (s : Session) → IsOn s → s.left ≡ None → notes p p []
        → On shows (notes p p) 0 a a s s
    on_start p a s on whole none =
        record {
          log = [];
          is = with_none s;
          alone = refl;
          got = nothing a;
          noted = none;
          left = refl;
          on = on;
          whole = whole;
        }

    noted_both : (p q r : P) (l m : List Entry) (places : List ℕ) → notes p q (addresses l) → addresses m ≡ places
        → notes q r places → notes p r (addresses (l ++ m))
    noted_both p q r l m places h e k =
        subst (notes p r) (sym (addresses_both l m (addresses l) places refl e)) (chain p q r (addresses l) places h k)

    -- in silence, where the last of the addresses is yet to come
    quiet_on : (Noted : List ℕ → Type 0) (p q : P) (parts : ℕ) (a now : S) (old s : Session) (t : State)
        (places : List ℕ) (on : On shows (notes p q) parts a now old s)
        (quiet : Quiet s (record s { state = t }) places) → t.due ≡ [] → Noted (addresses (on.log ++ quiet.log))
        → On shows Noted parts a now old (record s { state = t })
    quiet_on Noted p q parts a now old s t places on quiet silent h = record {
      log = on.log ++ quiet.log;
      is =
          with_both parts 0 parts old s (record s { state = t }) on.log quiet.log (omega arith) on.on.runs
          on.is quiet.is;
      alone = answers_both on.log quiet.log on.alone quiet.says.alone;
      got = got_both a now now on.log quiet.log no_signals on.got quiet.says (nothing now);
      noted = h;
      left = ap (λ (m : Session). let x : Session = record m { state = t } in x) on.left;
      on = still_on s t on.on silent;
      whole = on.whole;
    }

    pub on_ahead : (p q r : P) (parts : ℕ) (a now : S) (old s mid : Session)
        → On shows (notes p q) parts a now old s → GoesAhead (notes q r) s mid → mid.state.steps ≤ mid.limits.steps
        → On shows (notes p r) parts a now old mid
    on_ahead p q r parts a now old s mid on ahead few =
        let t = after_steps s.state (length ahead.addresses) mid.state.game mid.state.pc in
        let count : mid.state.steps ≡ s.state.steps + length ahead.addresses = ap (λ (m : Session). m.state.steps)
        ahead.there in
        let limits = ap (λ (m : Session). m.limits.steps) ahead.there in
        let quiet = goes_quiet ahead.addresses _ _ _ _ ahead.goes s refl refl on.on on.whole
        (omega (arith, few, count, limits)) in
        subst (λ (m : Session). On shows (notes p r) parts a now old m) (sym ahead.there)
        (quiet_on (notes p r) p q parts a now old s t ahead.addresses on quiet on.on.silent
        (noted_both p q r on.log quiet.log ahead.addresses on.noted quiet.stands ahead.noted))

    -- ---- one move

    -- a screen got what a machine's next move shows
    pub record Next (Noted : List ℕ → Type 0) (parts : ℕ) (a now b : S) (old s : Session)
        (log : List Entry) : Type 0 where
      pub is : LogWith parts old (log ++ (moved s Goes).entries) (moved s Goes).to
      pub alone : answers_in (log ++ (moved s Goes).entries) ≡ []
      pub got : shows a b (signals (log ++ (moved s Goes).entries))
      pub noted : Noted (addresses (log ++ (moved s Goes).entries))
      pub last : (holds : S → Bool) → holds now ≡ false → holds b ≡ true
          → AtLast shows holds a b old (moved s Goes).to (log ++ (moved s Goes).entries)

    next_on : (Before Noted : List ℕ → Type 0) (parts : ℕ) (a now b : S) (old s : Session) (text : Signals)
        (on : On shows Before parts a now old s) → Says (moved s Goes).entries text
        → shows now b text → Noted (addresses (on.log ++ (moved s Goes).entries))
        → Next Noted parts a now b old s on.log
    next_on Before Noted parts a now b old s text on says h n = record {
      is = with_both parts 0 parts old s (moved s Goes).to on.log (moved s Goes).entries (omega arith) on.on.runs
          on.is (with_step s);
      alone = answers_both on.log (moved s Goes).entries on.alone says.alone;
      got = got_both a now b on.log (moved s Goes).entries text on.got says h;
      noted = n;
      last = λ holds before after. last_by holds a now b old s on.log Goes on.is.is on.got
          (rw says.given h) before after;
    }

    step_on : (Before Noted : List ℕ → Type 0) (parts : ℕ) (a now b : S) (old s : Session)
        (on : On shows Before parts a now old s) → s.state.steps < s.limits.steps
        → shows now b (text_of s.state (step s.state))
        → Noted (addresses on.log ++ s.state.pc ∷ []) → Next Noted parts a now b old s on.log
    step_on Before Noted parts a now b old s on room h n =
        let is = step_move s on.on on.whole room in
        let says = subst (λ (p : Passed). Says p.entries (text_of s.state (step s.state))) (sym is)
        (says_step s (verdict_of s.state (step s.state)) (state_after s.state (step s.state))
        (text_of s.state (step s.state))) in
        let stands : addresses (moved s Goes).entries ≡ s.state.pc ∷ [] = ap (λ (p : Passed). addresses p.entries)
        is ∙ step_stands s (verdict_of s.state (step s.state)) (state_after s.state (step s.state))
        (text_of s.state (step s.state))
        ∙ ap (λ (left : Option Signals). addresses (address_told left s.state.pc)) on.whole in
        next_on Before Noted parts a now b old s (text_of s.state (step s.state)) on says h
        (subst Noted (sym (addresses_both on.log (moved s Goes).entries (addresses on.log) (s.state.pc ∷ [])
        refl stands)) n)

    -- ---- the ends

    module _ (full failed : S → Bool) (bound : ℕ) where
      never : (a b : S) (old to : Session) (l : List Entry) → failed b ≡ false → failed a ≡ false
          → failed b ≡ true → AtLast shows failed a b old to l
      never a b old to l works before after = absurd cc

      -- where it ends by a move
      by_next : (Before Noted : List ℕ → Type 0) (parts : ℕ) (a now b : S) (old s new : Session) (h : Halt)
          (on : On shows Before parts a now old s) → failed now ≡ false
          → (next : Next Noted parts a now b old s on.log) → RunEnds shows full failed a b bound parts old
          (moved s Goes).to new (on.log ++ (moved s Goes).entries) (Err h)
          → Ran shows full failed Noted a b bound parts old new (Err h)
      by_next Before Noted parts a now b old s new h on works next ends = record {
        log = on.log ++ (moved s Goes).entries;
        to = (moved s Goes).to;
        is = next.is.is;
        counted = next.is.counted;
        alone = next.alone;
        got = next.got;
        noted = inl next.noted;
        ends = ends;
        at_once = λ before after. next.last failed works after;
      }

      -- at an instruction that is refused after steps in silence
      pub on_stop : (p q r : P) (parts : ℕ) (a now : S) (old s new : Session) (h : Halt)
          → On shows (notes p q) parts a now old s → failed now ≡ false → StopsAhead (notes q r) s new h
          → Ran shows full failed (notes p r) a now bound parts old new (Err h)
      unfolding quiet_on
      on_stop p q r parts a now old s new h on works ahead =
          let places = ahead.addresses in
          let t = after_steps s.state (length places) ahead.end ahead.pc in
          let quiet = goes_quiet places _ _ _ _ ahead.goes s refl refl on.on on.whole (omega (arith, ahead.few)) in
          let m : Session = record s { state = t } in
          let mid = quiet_on (λ l. Unit {0}) p q parts a now old s t places on quiet on.on.silent tt in
          let room : m.state.steps < m.limits.steps = omega (arith, ahead.few) in
          let made = refused_step t ahead.refusal ahead.refused in
          let is = step_move m mid.on mid.whole room in
          let stopped : (moved m Goes).to.stopped ≡ Some (stop_by ahead.pc ahead.refusal) =
          ap (λ (x : Passed). x.to.stopped) is
          ∙ ap (λ (v : Verdict). (stepped_to m v (state_after t (step t)) (text_of t (step t))).to.stopped)
          made.0 in
          let still : shows now now (text_of t (step t)) = rw (made.1)
          (nothing now) in
          let stands : addresses (on.log ++ quiet.log) ≡ addresses on.log ++ places = addresses_both on.log
          quiet.log (addresses on.log) places refl quiet.stands in
          let all : notes p r (addresses mid.log ++ ahead.pc ∷ []) = subst (notes p r)
          (sym (ap (λ (l : List ℕ). l ++ ahead.pc ∷ []) stands ∙ append_assoc (addresses on.log) places
          (ahead.pc ∷ []))) (chain p q r (addresses on.log) (places ++ ahead.pc ∷ []) on.noted ahead.noted) in
          by_next (λ l. Unit {0}) (notes p r) parts a now now old m new h mid works
          (step_on (λ l. Unit {0}) (notes p r) parts a now now old m mid room still all)
          (rw (ahead.tells) (ahead.free, inl stopped))

      -- at a bound, or where no step is left
      pub on_bound : (p q : P) (parts : ℕ) (a now : S) (old s : Session) (r : Result (Unit {0}) Halt)
          → On shows (notes p q) parts a now old s → failed now ≡ false
          → (s.state.steps < s.limits.steps → s.state.steps + parts ≡ bound)
          → MatchResult r (λ _. s.state.steps < s.limits.steps)
          (λ h. (h ≡ Err (stops.Limit s.state.pc Steps)) × (s.limits.steps ≤ s.state.steps))
          → Ran shows full failed (notes p q) a now bound parts old s r
      on_bound p q parts a now old s (Ok u) on works at few = record {
        log = on.log;
        to = s;
        is = on.is.is;
        counted = on.is.counted;
        alone = on.alone;
        got = on.got;
        noted = inl on.noted;
        ends = (refl, on.on, works, inl (at few, few));
        at_once = never a now old s on.log works;
      }
      on_bound p q parts a now old s (Err h) on works at few =
          let is = move_is zero s on.on.runs on.on.free on.on.silent (omega (arith, few.1)) in
          let says = subst (λ (x : Passed). Says x.entries no_signals) (sym is)
          (says_stop (stops.Limit s.state.pc Steps)) in
          let nowhere : addresses (moved s Goes).entries ≡ [] = ap (λ (x : Passed). addresses x.entries) is in
          let stopped : (moved s Goes).to.stopped ≡ Some (stops.Limit s.state.pc Steps) =
          ap (λ (x : Passed). x.to.stopped) is in
          let same : addresses (on.log ++ (moved s Goes).entries) ≡ addresses on.log = addresses_both on.log
          (moved s Goes).entries (addresses on.log) [] refl nowhere ∙ append-nil (addresses on.log) in
          by_next (notes p q) (notes p q) parts a now now old s s h on works
          (next_on (notes p q) (notes p q) parts a now now old s no_signals on says (nothing now)
          (subst (notes p q) (sym same) on.noted)) (rw (few.0) (on.on.free, inl stopped))

      -- with a step
      ends_so : (parts : ℕ) (a b : S) (old s new : Session) (l : List Entry) (h : Halt) (v : Verdict) (t : State)
          (text : Signals) → Err h ≡ halt_by v → IsLeftAt s new v t → s.left ≡ None
          → RunEnds shows full failed a b bound parts old (stepped_to s v t text).to new l (Err h)
      ends_so parts a b old s new l h GoesOn t text tells left whole = absurd cc
      ends_so parts a b old s new l (Ok e) (WaitsFor w) t text tells left whole = (
        left ∙ ap (λ (x : Session). let y : Session = record x { waiting = Some w } in y)
            (sym (whole_after s t whole)),
        cc,
      )
      ends_so parts a b old s new l (Err stop) (WaitsFor w) t text tells left whole = absurd cc
      ends_so parts a b old s new l (Ok e) (StopsBy stop) t text tells left whole = absurd cc
      ends_so parts a b old s new l (Err x) (StopsBy stop) t text tells left whole = (left, inl cc)

      pub on_end : (p q r : P) (parts : ℕ) (a now b : S) (old s new : Session) (h : Halt)
          → On shows (notes p q) parts a now old s → s.state.steps < s.limits.steps → failed now ≡ false
          → notes q r (s.state.pc ∷ []) → IsStep s new (Err h) (λ t. shows now b t)
          → Ran shows full failed (notes p r) a b bound parts old new (Err h)
      on_end p q r parts a now b old s new h on room works one (inl made) =
          let is = step_move s on.on on.whole room in
          let all = chain p q r (addresses on.log) (s.state.pc ∷ []) on.noted one in
          let next = step_on (notes p q) (notes p r) parts a now b old s on room made.shown all in
          by_next (notes p q) (notes p r) parts a now b old s new h on works next
          (subst (λ (x : Passed). RunEnds shows full failed a b bound parts old x.to new
          (on.log ++ (moved s Goes).entries) (Err h)) (sym is)
          (ends_so parts a b old s new (on.log ++ (moved s Goes).entries) h (verdict_of s.state (step s.state))
          (state_after s.state (step s.state)) (text_of s.state (step s.state)) made.tells made.left on.whole))
      on_end p q r parts a now b old s new h on room works one (inr (tells, same, (keeping, got))) =
          let memory : h ≡ Err stops.Memory = cc in
          let lacks : LacksState s new.state = record {
            on = on.on;
            few = room;
            keeping = keeping;
            stands = ap (λ (m : Session). m.state) same;
          } in
          record {
            log = on.log;
            to = s;
            is = on.is.is;
            counted = on.is.counted;
            alone = on.alone;
            got = rw (append-nil (signals on.log)) at (twice a now b (signals on.log) [] on.got got);
            noted = inr ((new.state, lacks), chain p q r (addresses on.log) (s.state.pc ∷ []) on.noted one);
            ends = rw (memory) (ap (λ (m : Session). m.waiting) same ∙ on.on.free, inr (inl (refl, lacks)));
            at_once = λ before after. last_silent failed a now b old s on.log on.on on.is.is on.got got works after;
          }

      -- a step that goes on
      pub record WentOn (Noted : List ℕ → Type 0) (parts : ℕ) (a now b : S) (old new : Session) : Type 0 where
        pub on : On shows Noted parts a b old new
        pub last : (holds : S → Bool) → holds now ≡ false → holds b ≡ true → AtLast shows holds a b old new on.log

      goes_step : (s new : Session) (Shown : Signals → Type 0) → IsStep s new (Ok tt) Shown
          → StepsTo (step s.state) s new (Ok tt) Shown
      goes_step s new Shown (inl h) = h
      goes_step s new Shown (inr h) = let not = h.0 in absurd cc

      goes_by_halt : (v : Verdict) → Ok tt ≡ halt_by v → v ≡ GoesOn
      goes_by_halt GoesOn h = refl
      goes_by_halt (WaitsFor w) h = absurd cc
      goes_by_halt (StopsBy stop) h = absurd cc

      pub on_step : (p q r : P) (parts : ℕ) (a now b : S) (old s new : Session)
          → On shows (notes p q) parts a now old s → s.state.steps < s.limits.steps → new.state.due ≡ s.state.due
          → notes q r (s.state.pc ∷ []) → IsStep s new (Ok tt) (λ t. shows now b t)
          → WentOn (notes p r) parts a now b old new
      on_step p q r parts a now b old s new on room due one stepped =
          let made = goes_step s new (λ (t : Signals). shows now b t) stepped in
          let goes = goes_by_halt (verdict_of s.state (step s.state)) made.tells in
          let t = state_after s.state (step s.state) in
          let left : new ≡ record s { state = t } = subst (λ (v : Verdict). IsLeftAt s new v t) goes made.left in
          let is = step_move s on.on on.whole room in
          let to : (moved s Goes).to ≡ new = ap (λ (x : Passed). x.to) is
          ∙ ap (λ (v : Verdict). (stepped_to s v t (text_of s.state (step s.state))).to) goes
          ∙ whole_after s t on.whole ∙ sym left in
          let next = step_on (notes p q) (notes p r) parts a now b old s on room made.shown
          (chain p q r (addresses on.log) (s.state.pc ∷ []) on.noted one) in
          record {
            on = record {
              log = on.log ++ (moved s Goes).entries;
              is = subst (λ (m : Session). LogWith parts old (on.log ++ (moved s Goes).entries) m) to next.is;
              alone = next.alone;
              got = next.got;
              noted = next.noted;
              left = left ∙ ap (λ (m : Session). let x : Session = record m { state = t } in x) on.left
                  ∙ ap (λ (u : State). let x : Session = record old { state = u } in x)
                  (sym (ap (λ (m : Session). m.state) left));
              on =
                  record {
                    runs = ap (λ (m : Session). m.stopped) left ∙ on.on.runs;
                    free = ap (λ (m : Session). m.waiting) left ∙ on.on.free;
                    silent = due ∙ on.on.silent;
                  };
              whole = ap (λ (m : Session). m.left) left ∙ on.whole;
            };
            last =
                λ holds before after. subst (λ (m : Session). AtLast shows holds a b old m
                (on.log ++ (moved s Goes).entries)) to (next.last holds before after);
          }

      -- after which the screen has failed, or is full
      pub on_failed : (Noted : List ℕ → Type 0) (parts : ℕ) (a now b : S) (old new : Session)
          → WentOn Noted parts a now b old new → failed now ≡ false → failed b ≡ true
          → Ran shows full failed Noted a b bound parts old new (Err (Err stops.Write))
      on_failed Noted parts a now b old new went works broken = record {
        log = went.on.log;
        to = new;
        is = went.on.is.is;
        counted = went.on.is.counted;
        alone = went.on.alone;
        got = went.on.got;
        noted = inl went.on.noted;
        ends = (went.on.on.free, inr (inr (refl, went.on.on, broken, refl)));
        at_once = λ before after. went.last failed works after;
      }

      pub on_full : (Noted : List ℕ → Type 0) (parts : ℕ) (a now b : S) (old new : Session)
          → WentOn Noted parts a now b old new → failed b ≡ false → full now ≡ false → full b ≡ true
          → Ran shows full failed Noted a b bound parts old new (Ok tt)
      on_full Noted parts a now b old new went works before after = record {
        log = went.on.log;
        to = new;
        is = went.on.is.is;
        counted = went.on.is.counted;
        alone = went.on.alone;
        got = went.on.got;
        noted = inl went.on.noted;
        ends = (refl, went.on.on, works, inr (went.last full before after));
        at_once = never a b old new went.on.log works;
      }

  -- ---- the steps after what was due

  module _ (full failed : S → Bool) (Noted : List ℕ → Type 0) where
    ends_on : (a b c : S) (bound parts : ℕ) (old mid to new : Session) (l m : List Entry)
        (answer : Result (Unit {0}) Halt) → IsLog old l mid → shows a b (signals l)
        → RunEnds shows full failed b c bound parts mid to new m answer
        → RunEnds shows full failed a c bound parts old to new (l ++ m) answer
    ends_on a b c bound parts old mid to new l m (Ok u) is got (there, on, works, inl at) = (there, on, works, inl at)
    ends_on a b c bound parts old mid to new l m (Ok u) is got (there, on, works, inr last) =
        (there, on, works, inr (last_on full a b c old mid to l m is got last))
    ends_on a b c bound parts old mid to new l m (Err (Ok event)) is got ends = ends
    ends_on a b c bound parts old mid to new l m (Err (Err stop)) is got ends = ends

    noted_on : (l m : List Entry) (to : Session) → addresses l ≡ [] → WasNoted Noted m to → WasNoted Noted (l ++ m) to
    noted_on l m to none (inl h) = inl (subst Noted (sym (addresses_both l m [] (addresses m) none refl)) h)
    noted_on l m to none (inr (lacks, h)) =
        inr (
          lacks,
          subst (λ (x : List ℕ). Noted (x ++ to.state.pc ∷ []))
              (sym (addresses_both l m [] (addresses m) none refl)) h,
        )

    pub steps_on : (a b c : S) (bound parts : ℕ) (old new : Session) (answer : Result (Unit {0}) Halt)
        → Dued a b old → failed b ≡ false → old.stopped ≡ None → Ran shows full failed Noted b c bound parts
        (told_due old) new answer → Ran shows full failed Noted a c bound parts old new answer
    steps_on a b c bound parts old new answer d works runs r =
        let both = with_both 0 parts parts old (told_due old) r.to d.log r.log (omega arith) runs d.is
        (record { is = r.is; counted = r.counted }) in
        record {
          log = d.log ++ r.log;
          to = r.to;
          is = both.is;
          counted = both.counted;
          alone = answers_both d.log r.log d.alone r.alone;
          got = got_twice a b c d.log r.log d.got r.got;
          noted = noted_on d.log r.log r.to d.nowhere r.noted;
          ends = ends_on a b c bound parts old (told_due old) r.to new d.log r.log answer d.is.is d.got r.ends;
          at_once =
              λ before after. last_on failed a b c old (told_due old) r.to d.log r.log d.is.is d.got
              (r.at_once works after);
        }

    -- where it has not paused, its bound is no matter
    pub any_bound : (a b : S) (bound bound' parts : ℕ) (old new : Session) (h : Halt)
        → Ran shows full failed Noted a b bound parts old new (Err h)
        → Ran shows full failed Noted a b bound' parts old new (Err h)
    any_bound a b bound bound' parts old new h r =
        record {
          log = r.log;
          to = r.to;
          is = r.is;
          counted = r.counted;
          alone = r.alone;
          got = r.got;
          noted = r.noted;
          ends = go h r.ends;
          at_once = r.at_once;
        }
      where
        go : (x : Halt) → RunEnds shows full failed a b bound parts old r.to new r.log (Err x)
            → RunEnds shows full failed a b bound' parts old r.to new r.log (Err x)
        go (Ok event) ends = ends
        go (Err stop) ends = ends

    -- its stop is set
    pub ran_closed : (a b : S) (bound parts : ℕ) (old mid new : Session) (stop : Stop)
        → Ran shows full failed Noted a b bound parts old mid (Err (Err stop)) → new.waiting ≡ mid.waiting
        → new.state ≡ mid.state → Ran shows full failed Noted a b bound parts old new (Err (Err stop))
    ran_closed a b bound parts old mid new stop r waiting state = record {
      log = r.log;
      to = r.to;
      is = r.is;
      counted = r.counted;
      alone = r.alone;
      got = r.got;
      noted = r.noted;
      ends = go r.ends;
      at_once = r.at_once;
    }
      where
        go : RunEnds shows full failed a b bound parts old r.to mid r.log (Err (Err stop))
            → RunEnds shows full failed a b bound parts old r.to new r.log (Err (Err stop))
        go (free, inl h) = (waiting ∙ free, inl h)
        go (free, inr (inl (e, lacks))) = (waiting ∙ free, inr (inl (e, rw (state) lacks)))
        go (free, inr (inr (e, on, broken, same))) = (waiting ∙ free, inr (inr (e, on, broken, state ∙ same)))

    -- it has stopped before
    pub ran_stopped : (a : S) (bound : ℕ) (s : Session) (stop : Stop) → s.stopped ≡ Some stop → s.waiting ≡ None
        → Noted [] → Ran shows full failed Noted a a bound 0 s s (Err (Err stop))
    ran_stopped a bound s stop e free none = record {
      log = [];
      to = s;
      is = (with_none s).is;
      counted = (with_none s).counted;
      alone = refl;
      got = nothing a;
      noted = inl none;
      ends = (free, inl e);
      at_once = λ before after. let never = sym before ∙ after in absurd cc;
    }

    due_on : (s : Session) → s.stopped ≡ None → s.waiting ≡ None → IsOn (told_due s)
    due_on s runs free = record { runs = runs; free = free; silent = refl }

    -- the screen has failed at what was due, or is full
    pub due_failed : (a b : S) (bound : ℕ) (s new : Session) → Dued a b s → s.stopped ≡ None → s.waiting ≡ None
        → failed b ≡ true → new.waiting ≡ None → new.state ≡ (told_due s).state → Noted []
        → Ran shows full failed Noted a b bound 0 s new (Err (Err stops.Write))
    due_failed a b bound s new d runs free broken waits state none = record {
      log = d.log;
      to = told_due s;
      is = d.is.is;
      counted = d.is.counted;
      alone = d.alone;
      got = d.got;
      noted = inl (subst Noted (sym d.nowhere) none);
      ends = (waits, inr (inr (refl, due_on s runs free, broken, state)));
      at_once = λ before after. d.last failed before after;
    }

    pub due_full : (a b : S) (bound : ℕ) (s new : Session) → Dued a b s → s.stopped ≡ None → s.waiting ≡ None
        → failed b ≡ false → full a ≡ false → full b ≡ true → new ≡ told_due s → Noted []
        → Ran shows full failed Noted a b bound 0 s new (Ok tt)
    due_full a b bound s new d runs free works before after there none = record {
      log = d.log;
      to = told_due s;
      is = d.is.is;
      counted = d.is.counted;
      alone = d.alone;
      got = d.got;
      noted = inl (subst Noted (sym d.nowhere) none);
      ends = (there, due_on s runs free, works, inr (d.last full before after));
      at_once = λ x y. let never = sym works ∙ y in absurd cc;
    }

-- ---- what callers are told

pub waits_so : (w : Option Waiting) (event : Event) → event_waited w ≡ Some event
    → (v : Waiting) × ((w ≡ Some v) × (v.wait ≡ event))
waits_so None event h = absurd cc
waits_so (Some v) event h = (v, (refl, cc))

pub asked_waits : (new to : Session) (e : Event) → (new ≡ to) × (event_waited to.waiting ≡ Some e)
    → (w : Waiting) × (new.waiting ≡ Some w)
asked_waits new to e (same, h) = let w = waits_so to.waiting e h in (w.0, ap (λ (s : Session). s.waiting) same ∙ w.1.0)

-- a run whose screen is never full comes to no pause that is further than its limit
pub no_pause : {S : Type 0} (shows : S → S → Signals → Type 0) (full failed : S → Bool)
    (Noted : List ℕ → Type 0) (a b : S) (bound : ℕ) (old new : Session) → ((x : S) → full x ≡ false)
    → new.limits.steps ≤ bound → Ran shows full failed Noted a b bound 0 old new (Ok tt) → ⊥
no_pause {S} shows full failed Noted a b bound old new endless far r = go r.ends
  where
    go : RunEnds shows full failed a b bound 0 old r.to new r.log (Ok tt) → ⊥
    go (there, on, works, inl (at, few)) =
        let e = ap (λ (s : Session). s.limits.steps) there in absurd (omega (arith, e, at, few, far))
    go (there, on, works, inr last) = let never = sym (endless b) ∙ last.now in absurd cc
