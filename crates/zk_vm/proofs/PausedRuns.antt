-- The log of a run that pauses in texts.
use Rattle.std.proofs.Common.{◌≡◌, ◌∙◌, ◌<◌, ◌≤◌, ◌-◌, ◌+◌, ◌⊎◌, inl, inr, ℕ, zero, suc, Bool, true, false, List, []}
use Rattle.std.proofs.Common.{take, drop, ◌∷◌, ◌++◌, IfSome, append_assoc, append-nil, Option, Some, None, Result, Ok}
use Rattle.std.proofs.Common.{Err, refl, ap, sym, subst, arith, nat_le}
use Rattle.std.specs.Prelude.{MatchResult}
use Rattle.std.proofs.lemmas.Bool.Decides.{nat_tests}
use Rattle.std.proofs.lemmas.List.Elements.{filter_map-append}
use Rattle.zk_code.specs.declared.instr.Instr.{Instr}
use Rattle.zk_code.specs.declared.opcode.Opcode.TheVariants.{Saving}
use Rattle.zk_code.specs.declared.opcode.Saving.TheVariants.{SaveUndo}
use Rattle.zk_code.specs.Reading.{instr_at}
use Rattle.zk_state.specs.declared.refusal.Limit.TheVariants.{Steps}
use Rattle.zk_term.specs.Windows.{Windows}
use Rattle.zk_step.specs.declared.output.parts.Half.{Half}
use Rattle.zk_step.specs.declared.state.ending.Effect.{Effect}
use Rattle.zk_step.specs.declared.state.ending.Event.{Event}
use Rattle.zk_step.specs.declared.state.game_state.GameState.{GameState}
use Rattle.zk_step.specs.Effects.{effect_of}
use Rattle.zk_step.specs.Halves.{IsHalf, rest_text, text_due}
use Rattle.zk_step.specs.Printing.{IsLong}
use Rattle.zk_step.specs.Routing.{Signals, no_signals}
use Rattle.zk_step.specs.Saving.{saving}
use Rattle.zk_vm.specs.declared.stop.Stop.TheVariants as stops
use Rattle.zk_vm.specs.Going.{GoesAhead, StopsAhead}
use Rattle.zk_vm.specs.Answers.Answer.{Typed}
use Rattle.zk_vm.specs.Halts.{CanAnswer, Halt, IsAnswerable, IsKeeping, IsLeftAt, IsStep, KeepsState, StepsTo}
use Rattle.zk_vm.specs.Halts.{event_waited, halt_by}
use Rattle.zk_vm.specs.Log.{Entry, IsLeftIn, Move, Passed, after, is_silent, moved, parted, parted_to, part_shown}
use Rattle.zk_vm.specs.Log.{parts_of, passed, signal_in, signals, stepped_to, text_left, text_shown}
use Rattle.zk_vm.specs.Log.{told}
use Rattle.zk_vm.specs.Log.Move.{Gets, Goes, Part}
use Rattle.zk_vm.specs.Logged.{AtLast, IsOn, LacksState, Ran, RunEnds}
use Rattle.zk_vm.specs.Pausing.{GoneBy, GotDue, HasCome, IsCut, StandsHalf, StandsShort, WentOn, due_of, left_of}
use Rattle.zk_vm.specs.Pausing.{told_due, with_left}
use Rattle.zk_vm.specs.Sessions.{Session}
use Rattle.zk_vm.specs.Step.{State, Verdict, is_past_reads, is_read, most_reads, step, state_after, text_of, verdict_of}
use Rattle.zk_vm.specs.Step.Verdict.{GoesOn, WaitsFor, StopsBy}
use Rattle.zk_vm.proofs.Logs.{Says, answers_both, logs_join, move_is, no_log, says_address, says_step, says_stop}
use Rattle.zk_vm.proofs.Logs.{says_told, with_both, with_none, with_step}
use Rattle.zk_vm.proofs.LogSteps.{Dued, on_ahead, on_start, on_stop, waits_so}
use Rattle.zk_vm.proofs.Pauses.{ShowsHalf, same_instr, shows_half}

-- ---- sessions

-- a machine with no text left
pub told_same : (s : Session) → s.left ≡ None → with_left s None ≡ s
told_same s whole = ap (λ (left : Option Signals). let x : Session = record s { left = left } in x) (sym whole)

-- an instruction in the middle of its text keeps no state
never_keeps : (found : GameState) (i : Instr) (codes : List ℕ) (draft : Windows) (h : Half)
    → IsHalf found i codes draft h → i.opcode ≡ Saving SaveUndo → ⊥
unfolding effect_of saving
never_keeps found i codes draft h half keeps =
    let made = rw keeps at half.made in
    let same : ◌≡◌ {A = GameState × Effect} (half.taken, saving SaveUndo half.taken.memory half.values)
    (half.taken, h.effect) = cc in
    subst (λ (p : GameState × Effect). IsLong p.1.output) (sym same) half.long

-- the text that is still to come
due_left : (w : GameState) (half : Option Half) (s : State) → w ≡ s.game
    → due_of w half (text_of s (step s)) ≡ text_left (left_of w half) s
due_left w None s e = refl
due_left w (Some h) s e = refl

-- ---- on a screen

module _ {S : Type 0} (shows : S → S → Signals → Type 0) (nothing : (a : S) → shows a a [])
    (twice : (a b c : S) (s t : Signals) → shows a b s → shows b c t → shows a c (s ++ t)) where
  says_got : (a b : S) (l : List Entry) (t : Signals) → Says l t → shows a b t
      → shows a b (signals l)
  says_got a b l t says h = rw says.given h

  got_twice : (a b c : S) (l m : List Entry) → shows a b (signals l) → shows b c (signals m)
      → shows a c (signals (l ++ m))
  got_twice a b c l m h k = rw (filter_map-append signal_in l m) (twice a b c (signals l) (signals m) h k)

  -- ---- one move

  goes_only : (s new : Session) (Shown : Signals → Type 0) → IsStep s new (Ok tt) Shown
      → StepsTo (step s.state) s new (Ok tt) Shown
  goes_only s new Shown (inl h) = h
  goes_only s new Shown (inr h) = let not = h.0 in absurd cc

  goes_by_halt : (v : Verdict) → Ok tt ≡ halt_by v → v ≡ GoesOn
  goes_by_halt GoesOn h = refl
  goes_by_halt (WaitsFor w) h = absurd cc
  goes_by_halt (StopsBy stop) h = absurd cc

  goes_is : (s : Session) (half : Option Half) → IsOn s → s.state.steps < s.limits.steps
      → moved (with_left s half) Goes ≡ stepped_to (with_left s half) (verdict_of s.state (step s.state))
      (state_after s.state (step s.state)) (text_left (left_of s.state.game half) s.state)
  goes_is s half on room = move_is (suc (s.limits.steps - s.state.steps - 1)) (with_left s half) on.runs on.free
      on.silent (omega (arith, room))

  -- a step was made
  pub made_on : (a b : S) (s new : Session) (half : Option Half) → IsOn s → s.state.steps < s.limits.steps
      → new.state.due ≡ s.state.due → IsStep s new (Ok tt) (GotDue shows a b s.state.game half)
      → GoneBy shows 0 a b (with_left s half) (with_left new None)
  unfolding parts_of
  made_on a b s new half on room due stepped =
      let made = goes_only s new (GotDue shows a b s.state.game half) stepped in
      let v = verdict_of s.state (step s.state) in
      let t = state_after s.state (step s.state) in
      let text = text_left (left_of s.state.game half) s.state in
      let goes = goes_by_halt v made.tells in
      let there : new ≡ record s { state = t } = subst (λ (x : Verdict). IsLeftAt s new x t) goes made.left in
      let is = goes_is s half on room in
      let says = subst (λ (p : Passed). Says p.entries text) (sym is) (says_step (with_left s half) v t text) in
      record {
        move = Goes;
        counted = refl;
        there = ap (λ (m : Session). with_left m None) there
            ∙ sym (ap (λ (p : Passed). p.to) is
            ∙ ap (λ (x : Verdict). (stepped_to (with_left s half) x t text).to) goes);
        alone = says.alone;
        got = says_got a b (moved (with_left s half) Goes).entries text says
            (subst (λ (x : Signals). shows a b x) (due_left s.state.game half s.state refl) made.shown);
        on =
            record {
              runs = ap (λ (m : Session). m.stopped) there ∙ on.runs;
              free = ap (λ (m : Session). m.waiting) there ∙ on.free;
              silent = due ∙ on.silent;
            };
      }

  counted_part : (n k : ℕ) (s : Session) (half : Option Half) → IsOn s → s.limits.steps - s.state.steps ≡ k
      → moved (with_left s half) (Part n) ≡ parted n k (with_left s half)
  counted_part n k s half on count = rw (on.runs, on.free, on.silent, count) refl

  by_verdict : (n : ℕ) (s : Session) (half : Option Half) (silent : Bool) (v : Verdict) → (silent ≡ true) ⊎ (v ≡ GoesOn)
      → parted_to silent n (with_left s half) v (state_after s.state (step s.state))
      (text_left (left_of s.state.game half) s.state) ≡ part_shown n (with_left s half)
      (text_left (left_of s.state.game half) s.state)
  by_verdict n s half true v h = refl
  by_verdict n s half false GoesOn h = refl
  by_verdict n s half false (WaitsFor w) h = refl
  by_verdict n s half false (StopsBy stop) (inl h) = absurd cc
  by_verdict n s half false (StopsBy stop) (inr h) = absurd cc

  -- a part of its text was shown
  part_is : (n : ℕ) (s : Session) (half : Option Half) → IsOn s → s.state.steps < s.limits.steps
      → (is_silent (text_shown (step s.state)) ≡ true) ⊎ (verdict_of s.state (step s.state) ≡ GoesOn)
      → moved (with_left s half) (Part n) ≡ part_shown n (with_left s half)
      (text_left (left_of s.state.game half) s.state)
  part_is n s half on room goes = counted_part n (suc (s.limits.steps - s.state.steps - 1)) s half on
      (omega (arith, room)) ∙ by_verdict n s half (is_silent (text_shown (step s.state)))
      (verdict_of s.state (step s.state)) goes

  cut_text : (s : State) (i : Instr) (half : Option Half) → ShowsHalf s i
      → text_due s.game i half ≡ text_left (left_of s.game half) s
  cut_text s i None h = sym h.text
  cut_text s i (Some x) h = refl

  pub cut_on : (a b : S) (s new : Session) (i : Instr) (before : Option Half) (codes : List ℕ) (draft : Windows)
      (h : Half) → IsOn s → s.state.steps < s.limits.steps → instr_at s.state.game.memory s.state.pc ≡ Ok i
      → IsCut shows a b s new i before codes draft h → GoneBy shows 1 a b (with_left s before) (with_left new (Some h))
  unfolding parts_of
  cut_on a b s new i before codes draft h on room fetched cut =
      let shows_it = shows_half s.state i codes draft h fetched cut.half in
      let n = cut.shown.count in
      let u = with_left s before in
      let text = text_left (left_of s.state.game before) s.state in
      let same : text_due s.state.game i before ≡ text = cut_text s.state i before shows_it in
      let is = part_is n s before on room shows_it.goes in
      let says : Says (moved u (Part n)).entries (take n text) = subst (λ (p : Passed). Says p.entries
      (take n text)) (sym is) (says_address u.left u.state.pc (told (take n text))
      (take n text) (says_told (take n text))) in
      let later : rest_text s.state.game h.rest ≡ drop n text = cut.shown.is ∙ ap (drop n) same in
      record {
        move = Part n;
        counted = refl;
        there = ap (λ (m : Session). with_left m (Some h)) cut.same
            ∙ ap (λ (t : Signals). let x : Session = record s { left = Some t } in x) later
            ∙ sym (ap (λ (p : Passed). p.to) is);
        alone = says.alone;
        got = says_got a b (moved u (Part n)).entries (take n text) says
            (subst (λ (x : Signals). shows a b (take n x)) same cut.shown.shown);
        on =
            record {
              runs = ap (λ (m : Session). m.stopped) cut.same ∙ on.runs;
              free = ap (λ (m : Session). m.waiting) cut.same ∙ on.free;
              silent = ap (λ (m : Session). m.state.due) cut.same ∙ on.silent;
            };
      }

  -- ---- the ends

  lacks_text : (a b : S) (s : Session) (half : Option Half) (codes : List ℕ) (draft : Windows)
      → IfSome half (StandsHalf s codes draft) → IsKeeping s.state → GotDue shows a b s.state.game half no_signals
      → shows a b []
  lacks_text a b s None codes draft stands keeping got = got
  lacks_text a b s (Some h) codes draft stands keeping got =
      let same = same_instr (instr_at s.state.game.memory s.state.pc) keeping.instruction stands.instruction
      keeping.fetched stands.fetched in
      absurd (never_keeps s.state.game stands.instruction codes draft h stands.half
      (subst (λ (i : Instr). i.opcode ≡ Saving SaveUndo) same keeping.keeps))

  module _ (full failed : S → Bool) where
    -- what holds of the screen since a move
    since : (holds : S → Bool) (a b : S) (u : Session) (m : Move) → shows a b (signals (moved u m).entries)
        → holds a ≡ false → holds b ≡ true
        → AtLast shows holds a b u (moved u m).to (moved u m).entries
    since holds a b u m gets before after =
        record {
          first = [];
          mid = u;
          before = no_log u;
          between = a;
          got = nothing a;
          not = before;
          move = m;
          whole = refl;
          there = refl;
          gets = gets;
          now = after;
        }

    ends_so : (bound : ℕ) (a b : S) (s new : Session) (half : Option Half) (l : List Entry) (h : Halt)
        (v : Verdict) (t : State) (text : Signals) → Err h ≡ halt_by v → IsLeftAt s new v t
        → RunEnds shows full failed a b bound 0 (with_left s half) (stepped_to (with_left s half) v t text).to
        (with_left new None) l (Err h)
    ends_so bound a b s new half l h GoesOn t text tells left = absurd cc
    ends_so bound a b s new half l (Ok e) (WaitsFor w) t text tells left =
        (ap (λ (m : Session). with_left m None) left, cc)
    ends_so bound a b s new half l (Err stop) (WaitsFor w) t text tells left = absurd cc
    ends_so bound a b s new half l (Ok e) (StopsBy stop) t text tells left = absurd cc
    ends_so bound a b s new half l (Err x) (StopsBy stop) t text tells left = (left, inl cc)

    silent_since : (holds : S → Bool) (a b : S) (u : Session) → IsOn u → shows a b [] → holds a ≡ false
        → holds b ≡ true → AtLast shows holds a b u u []
    silent_since holds a b u on gets before after =
        let none : moved u (Gets (Typed [] 13)) ≡ record { entries = []; to = u } = rw (on.runs, on.free) refl in
        let gets_none : shows a b (signals (moved u (Gets (Typed [] 13))).entries) =
        subst (λ (p : Passed). shows a b (signals p.entries)) (sym none) gets in
        subst (λ (p : Passed). AtLast shows holds a b u p.to p.entries) none
        (since holds a b u (Gets (Typed [] 13)) gets_none before after)

    -- where a machine does not go on
    pub ended_on : (bound : ℕ) (a b : S) (s new : Session) (half : Option Half) (codes : List ℕ) (draft : Windows)
        (h : Halt) → IfSome half (StandsHalf s codes draft) → IsOn s → s.state.steps < s.limits.steps
        → failed a ≡ false → IsStep s new (Err h) (GotDue shows a b s.state.game half)
        → Ran shows full failed (λ l. Unit {0}) a b bound 0 (with_left s half) (with_left new None) (Err h)
    ended_on bound a b s new half codes draft h stands on room works (inl made) =
        let u = with_left s half in
        let v = verdict_of s.state (step s.state) in
        let t = state_after s.state (step s.state) in
        let text = text_left (left_of s.state.game half) s.state in
        let is = goes_is s half on room in
        let says = subst (λ (p : Passed). Says p.entries text) (sym is) (says_step u v t text) in
        let got = says_got a b (moved u Goes).entries text says
        (subst (λ (x : Signals). shows a b x) (due_left s.state.game half s.state refl) made.shown) in
        record {
          log = (moved u Goes).entries;
          to = (moved u Goes).to;
          is = (with_step u).is;
          counted = (with_step u).counted;
          alone = says.alone;
          got = got;
          noted = inl tt;
          ends =
              subst (λ (p : Passed). RunEnds shows full failed a b bound 0 u p.to (with_left new None)
              (moved u Goes).entries (Err h)) (sym is)
              (ends_so bound a b s new half (moved u Goes).entries h v t text made.tells made.left);
          at_once = λ before after. since failed a b u Goes got before after;
        }
    ended_on bound a b s new half codes draft h stands on room works (inr (tells, same, (keeping, got))) =
        let u = with_left s half in
        let memory : h ≡ Err stops.Memory = cc in
        let lacks : LacksState u new.state = record {
          on = record {
            runs = on.runs;
            free = on.free;
            silent = on.silent;
          };
          few = room;
          keeping = keeping;
          stands = ap (λ (m : Session). m.state) same;
        } in
        let none = lacks_text a b s half codes draft stands keeping got in
        record {
          log = [];
          to = u;
          is = (with_none u).is;
          counted = (with_none u).counted;
          alone = refl;
          got = none;
          noted = inl tt;
          ends = rw memory (ap (λ (m : Session). m.waiting) same ∙ on.free, inr (inl (refl, lacks)));
          at_once =
              λ before after. silent_since failed a b u
              (record { runs = on.runs; free = on.free; silent = on.silent }) none before after;
        }

  -- ---- no memory for a state

  -- nothing is left of a text where an instruction keeps a state
  nothing_left : (s : Session) (i : Instr) (half : Option Half) (codes : List ℕ) (draft : Windows)
      → IfSome half (StandsHalf s codes draft) → instr_at s.state.game.memory s.state.pc ≡ Ok i → KeepsState i
      → half ≡ None
  nothing_left s i None codes draft stands fetched keeps = refl
  nothing_left s i (Some h) codes draft stands fetched keeps =
      absurd (never_keeps s.state.game stands.instruction codes draft h stands.half
      (subst KeepsState (same_instr (instr_at s.state.game.memory s.state.pc) i stands.instruction fetched
      stands.fetched) keeps))

  pub silent_due : (a : S) (s : Session) (i : Instr) (half : Option Half) (codes : List ℕ) (draft : Windows)
      → IfSome half (StandsHalf s codes draft) → instr_at s.state.game.memory s.state.pc ≡ Ok i → KeepsState i
      → GotDue shows a a s.state.game half no_signals
  silent_due a s i half codes draft stands fetched keeps =
      subst (λ (h : Option Half). GotDue shows a a s.state.game h no_signals)
      (sym (nothing_left s i half codes draft stands fetched keeps)) (nothing a)

  pub short_on : (s new : Session) (half : Option Half) (codes : List ℕ) (draft : Windows)
      → IfSome half (StandsHalf s codes draft) → new ≡ s → IsKeeping s.state → with_left new None ≡ with_left s half
  short_on s new half codes draft stands same keeping =
      ap (λ (m : Session). with_left m None) same ∙ ap (λ (h : Option Half). with_left s h)
      (sym (nothing_left s keeping.instruction half codes draft stands keeping.fetched keeping.keeps))

  pub short_after : (failed : S → Bool) (bound parts : ℕ) (a b c : S) (old mid new : Session)
      → WentOn shows parts a b old mid → failed b ≡ false → new ≡ mid → c ≡ b → IsKeeping mid.state
      → mid.state.steps + parts < bound → mid.state.steps < mid.limits.steps
      → StandsShort shows failed a c bound parts old new
  short_after failed bound parts a b c old mid new went works same alike keeping few room =
      subst (λ (m : Session). StandsShort shows failed a c bound parts old m) (sym same)
      (subst (λ (z : S). StandsShort shows failed a z bound parts old mid) (sym alike)
      (record { went = went; keeping = keeping; works = works; few = few; room = room }))

  -- ---- steps that are made in silence

  pub went_ahead : (Noted : List ℕ → Type 0) (a : S) (s mid : Session) → IsOn s → s.left ≡ None
      → GoesAhead Noted s mid → mid.state.steps ≤ mid.limits.steps → WentOn shows 0 a a (with_left s None)
      (with_left mid None)
  went_ahead Noted a s mid on whole ahead few =
      let start = on_start shows nothing twice {P = Unit {0}} (λ p q l. Unit {0}) (λ p q r x y h k. tt) tt a s
      on whole tt in
      let there = on_ahead shows nothing twice {P = Unit {0}} (λ p q l. Unit {0}) (λ p q r x y h k. tt) tt tt tt 0
      a a s s mid start (record {
        addresses = ahead.addresses;
        goes = ahead.goes;
        there = ahead.there;
        noted = tt;
      }) few in
      let went : WentOn shows 0 a a s mid = record {
        log = there.log;
        is = there.is.is;
        counted = there.is.counted;
        alone = there.alone;
        got = there.got;
        on = there.on;
      } in
      subst (λ (u : Session). WentOn shows 0 a a u (with_left mid None)) (sym (told_same s whole))
      (subst (λ (u : Session). WentOn shows 0 a a s u) (sym (told_same mid there.whole)) went)

  pub stop_ahead : (full failed : S → Bool) (bound : ℕ) (Noted : List ℕ → Type 0) (a : S) (s new : Session)
      (h : Halt) → IsOn s → s.left ≡ None → new.left ≡ None → failed a ≡ false → StopsAhead Noted s new h
      → Ran shows full failed (λ l. Unit {0}) a a bound 0 (with_left s None) (with_left new None) (Err h)
  stop_ahead full failed bound Noted a s new h on whole none works stops =
      let start = on_start shows nothing twice {P = Unit {0}} (λ p q l. Unit {0}) (λ p q r x y h k. tt) tt a s
      on whole tt in
      let ran = on_stop shows nothing twice {P = Unit {0}} (λ p q l. Unit {0}) (λ p q r x y h k. tt) full failed
      bound tt tt tt 0 a a s s new h start works
      (record {
        addresses = stops.addresses;
        end = stops.end;
        pc = stops.pc;
        goes = stops.goes;
        few = stops.few;
        refusal = stops.refusal;
        refused = stops.refused;
        noted = tt;
        tells = stops.tells;
        free = stops.free;
      }) in
      subst (λ (u : Session). Ran shows full failed (λ l. Unit {0}) a a bound 0 u (with_left new None) (Err h))
      (sym (told_same s whole))
      (subst (λ (u : Session). Ran shows full failed (λ l. Unit {0}) a a bound 0 s u (Err h))
      (sym (told_same new none)) ran)

  -- ---- one after the other

  left_here : (t s : Session) (m : Move) → t ≡ (moved s m).to → t.stopped ≡ None
      → IsLeftIn t (moved s m).to (moved s m).to.stopped
  left_here t s m there runs =
      subst (IsLeftIn t (moved s m).to) (sym runs ∙ ap (λ (x : Session). x.stopped) there) there

  pub went_one : (parts : ℕ) (a b : S) (s t : Session) → GoneBy shows parts a b s t → WentOn shows parts a b s t
  unfolding passed after
  went_one parts a b s t one = record {
    log = (moved s one.move).entries;
    is = record {
      moves = one.move ∷ [];
      is = sym (append-nil (moved s one.move).entries);
      left = left_here t s one.move one.there one.on.runs;
    };
    counted = one.counted;
    alone = one.alone;
    got = one.got;
    on = one.on;
  }

  pub went_none : (a : S) (s : Session) → IsOn s → WentOn shows 0 a a s s
  went_none a s on = record {
    log = [];
    is = (with_none s).is;
    counted = (with_none s).counted;
    alone = refl;
    got = nothing a;
    on = on;
  }

  pub went_both : (i j n : ℕ) (a b c : S) (s t u : Session) → i + j ≡ n → WentOn shows i a b s t
      → WentOn shows j b c t u → WentOn shows n a c s u
  went_both i j n a b c s t u sum x y =
      let both = with_both i j n s t u x.log y.log sum x.on.runs (record { is = x.is; counted = x.counted })
      (record { is = y.is; counted = y.counted }) in
      record {
        log = x.log ++ y.log;
        is = both.is;
        counted = both.counted;
        alone = answers_both x.log y.log x.alone y.alone;
        got = got_twice a b c x.log y.log x.got y.got;
        on = y.on;
      }

  -- it has gone on, once the transcript has got what it was still to get
  pub short_due : (failed : S → Bool) (bound parts : ℕ) (a b c : S) (s new : Session)
      → Dued shows nothing twice a b s → s.stopped ≡ None → s.waiting ≡ None
      → StandsShort shows failed b c bound parts (told_due s) new → StandsShort shows failed a c bound parts s new
  short_due failed bound parts a b c s new due runs free short =
      let first : WentOn shows 0 a b s (told_due s) = record {
        log = due.log;
        is = due.is.is;
        counted =
            due.is.counted;
        alone = due.alone;
        got = due.got;
        on = record { runs = runs; free = free; silent = refl };
      } in
      record {
        went = went_both 0 parts parts a b c s (told_due s) new (omega arith) first short.went;
        keeping = short.keeping;
        works = short.works;
        few = short.few;
        room = short.room;
      }

  -- ---- runs

  module _ (full failed : S → Bool) where
    -- what came to hold at a move came to hold at the last one
    last_after : (holds : S → Bool) (i : ℕ) (a b c : S) (old s t : Session) (parts : ℕ)
        (x : WentOn shows i a b old s) (one : GoneBy shows parts b c s t) → holds b ≡ false → holds c ≡ true
        → AtLast shows holds a c old t (x.log ++ (moved s one.move).entries)
    last_after holds i a b c old s t parts x one before after =
        record {
          first = x.log;
          mid = s;
          before = x.is;
          between = b;
          got = x.got;
          not = before;
          move = one.move;
          whole = refl;
          there = one.there;
          gets = one.got;
          now = after;
        }

    never : (a b : S) (old to : Session) (l : List Entry) → failed b ≡ false → failed a ≡ false → failed b ≡ true
        → AtLast shows failed a b old to l
    never a b old to l works before after = absurd cc

    -- after a move the screen has failed, or is full
    pub ran_failed : (bound i j n : ℕ) (a b c : S) (old s t : Session) → i + j ≡ n → WentOn shows i a b old s
        → GoneBy shows j b c s t → failed b ≡ false → failed c ≡ true → Ran shows full failed
        (λ l. Unit {0}) a c bound n old t (Err (Err stops.Write))
    unfolding went_both went_one
    ran_failed bound i j n a b c old s t sum x one works broken =
        let all = went_both i j n a b c old s t sum x (went_one j b c s t one) in
        record {
          log = all.log;
          to = t;
          is = all.is;
          counted = all.counted;
          alone = all.alone;
          got = all.got;
          noted = inl tt;
          ends = (one.on.free, inr (inr (refl, one.on, broken, refl)));
          at_once = λ before after. last_after failed i a b c old s t j x one works after;
        }

    pub ran_full : (bound i j n : ℕ) (a b c : S) (old s t : Session) → i + j ≡ n → WentOn shows i a b old s
        → GoneBy shows j b c s t → failed c ≡ false → full b ≡ false → full c ≡ true
        → Ran shows full failed (λ l. Unit {0}) a c bound n old t (Ok tt)
    unfolding went_both went_one
    ran_full bound i j n a b c old s t sum x one works before after =
        let all = went_both i j n a b c old s t sum x (went_one j b c s t one) in
        record {
          log = all.log;
          to = t;
          is = all.is;
          counted = all.counted;
          alone = all.alone;
          got = all.got;
          noted =
              inl tt;
          ends = (refl, one.on, works, inr (last_after full i a b c old s t j x one before after));
          at_once = never a c old t all.log works;
        }

    -- at the bound, or where no step is left
    pub ran_bound : (bound i : ℕ) (a b : S) (old s : Session) (r : Result (Unit {0}) Halt)
        → WentOn shows i a b old s → failed b ≡ false → (s.state.steps < s.limits.steps → s.state.steps + i ≡ bound)
        → MatchResult r (λ _. s.state.steps < s.limits.steps)
        (λ h. (h ≡ Err (stops.Limit s.state.pc Steps)) × (s.limits.steps ≤ s.state.steps))
        → Ran shows full failed (λ l. Unit {0}) a b bound i old s r
    ran_bound bound i a b old s (Ok u) x works at few =
        record {
          log = x.log;
          to = s;
          is = x.is;
          counted = x.counted;
          alone = x.alone;
          got = x.got;
          noted = inl tt;
          ends = (refl, x.on, works, inl (at few, few));
          at_once = never a b old s x.log works;
        }
    ran_bound bound i a b old s (Err h) x works at few =
        let is = move_is zero s x.on.runs x.on.free x.on.silent (omega (arith, few.1)) in
        let says = subst (λ (p : Passed). Says p.entries no_signals) (sym is) (says_stop (stops.Limit s.state.pc
        Steps)) in
        let stopped : (moved s Goes).to.stopped ≡ Some (stops.Limit s.state.pc Steps) =
        ap (λ (p : Passed). p.to.stopped) is in
        let both = with_both i 0 i old s (moved s Goes).to x.log (moved s Goes).entries (omega arith) x.on.runs
        (record { is = x.is; counted = x.counted }) (with_step s) in
        record {
          log = x.log ++ (moved s Goes).entries;
          to = (moved s Goes).to;
          is = both.is;
          counted = both.counted;
          alone = answers_both x.log (moved s Goes).entries x.alone says.alone;
          got =
              got_twice a b b x.log (moved s Goes).entries x.got
              (says_got b b (moved s Goes).entries no_signals says (nothing b));
          noted = inl tt;
          ends = rw (few.0) (x.on.free, inl stopped);
          at_once = never a b old (moved s Goes).to (x.log ++ (moved s Goes).entries) works;
        }

    pub come_bound : (bound i : ℕ) (a b : S) (old s : Session) (r : Result Bool Halt) → WentOn shows i a b old s
        → failed b ≡ false → (s.state.steps < s.limits.steps → s.state.steps + i ≡ bound)
        → MatchResult r (λ memory. (memory ≡ true) × (s.state.steps < s.limits.steps))
        (λ h. (h ≡ Err (stops.Limit s.state.pc Steps)) × (s.limits.steps ≤ s.state.steps))
        → HasCome shows full failed a b bound old s r
    come_bound bound i a b old s (Ok true) x works at few = (i, ran_bound bound i a b old s (Ok tt) x works at few.1)
    come_bound bound i a b old s (Ok false) x works at few = let memory = few.0 in absurd cc
    come_bound bound i a b old s (Err h) x works at few = (i, ran_bound bound i a b old s (Err h) x works at few)

    -- a run that does not go on, after others
    pub ran_after : (bound bound' i j n : ℕ) (a b c : S) (old s new : Session) (h : Halt) → i + j ≡ n
        → WentOn shows i a b old s → failed b ≡ false → Ran shows full failed (λ l. Unit {0}) b c bound' j s new
        (Err h) → Ran shows full failed (λ l. Unit {0}) a c bound n old new (Err h)
    ran_after bound bound' i j n a b c old s new h sum x works r =
        let both = with_both i j n old s r.to x.log r.log sum x.on.runs
        (record { is = x.is; counted = x.counted }) (record { is = r.is; counted = r.counted }) in
        record {
          log = x.log ++ r.log;
          to = r.to;
          is = both.is;
          counted = both.counted;
          alone = answers_both x.log r.log x.alone r.alone;
          got = got_twice a b c x.log r.log x.got r.got;
          noted = inl tt;
          ends = ends_after h r.ends;
          at_once = λ before after. since_both x.log r.log (r.at_once works after);
        }
      where
        ends_after : (y : Halt) → RunEnds shows full failed b c bound' j s r.to new r.log (Err y)
            → RunEnds shows full failed a c bound n old r.to new (x.log ++ r.log) (Err y)
        ends_after (Ok event) ends = ends
        ends_after (Err stop) ends = ends

        since_both : (l m : List Entry) → AtLast shows failed b c s r.to m
            → AtLast shows failed a c old r.to (x.log ++ m)
        since_both l m y = record {
          first = x.log ++ y.first;
          mid = y.mid;
          before = logs_join old s y.mid x.log y.first x.is y.before;
          between = y.between;
          got = got_twice a b y.between x.log y.first x.got y.got;
          not = y.not;
          move = y.move;
          whole =
              ap (λ (k : List Entry). x.log ++ k) y.whole
              ∙ sym (append_assoc x.log y.first (moved y.mid y.move).entries);
          there = y.there;
          gets = y.gets;
          now = y.now;
        }

-- ---- an event

few_reads : (n : ℕ) (e : Event) → is_read e ≡ true → is_past_reads n e ≡ false → n < 16777216
few_reads n e read h =
    let few : nat_le most_reads n ≡ false = rw read at h in
    grind (arith, nat_tests, few)

pub record Awaited (s : Session) (e : Event) : Type 0 where
  pub reads : is_read e ≡ true → s.state.reads < 16777216
  pub steps : s.state.steps < s.limits.steps
  pub runs : s.stopped ≡ None

-- a machine that waits for an event
pub awaits_so : (s t : Session) (e : Event) → CanAnswer s.state s.limits s.stopped s.waiting
    → (s ≡ t) × (event_waited t.waiting ≡ Some e) → Awaited s e
awaits_so s t e can (same, event) =
    let w = waits_so t.waiting e event in
    let there : s.waiting ≡ Some w.0 = ap (λ (m : Session). m.waiting) same ∙ w.1.0 in
    let now : IsAnswerable s.state s.limits s.stopped w.0 = subst (CanAnswer s.state s.limits s.stopped) there can in
    record {
      reads = λ read. few_reads s.state.reads e read (rw w.1.1 at now.reads);
      steps = now.steps;
      runs = now.runs;
    }
