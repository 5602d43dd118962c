-- An instruction in the middle of its text, as a step.
use Rattle.std.proofs.Common.{◌≡◌, ◌∙◌, ◌⊎◌, inl, inr, ℕ, true, List, [], Option, Some, None, Result, Ok, Err, IsOk}
use Rattle.std.proofs.Common.{IfSome, ◌+◌, ◌++◌, take, drop, append-nil, refl, ap, sym, subst}
use Rattle.std.proofs.lemmas.List.{take-append-drop}
use Rattle.zk_mem.specs.declared.fault.Fault.{Fault}
use Rattle.zk_mem.specs.Results.{◌>>=◌}
use Rattle.zk_text.specs.Extra.{own_characters}
use Rattle.zk_code.specs.declared.instr.Instr.{Instr}
use Rattle.zk_code.specs.Reading.{instr_at}
use Rattle.zk_state.specs.declared.refusal.Refusal.{Refusal}
use Rattle.zk_state.specs.Frames.{FrameList, within_bounds}
use Rattle.zk_term.specs.Windows.{Windows}
use Rattle.zk_term.specs.declared.windows.Window.{Window}
use Rattle.zk_term.specs.declared.windows.Window.TheVariants.{Lower, Upper}
use Rattle.zk_step.specs.declared.output.parts.Half.{Half}
use Rattle.zk_step.specs.declared.output.streams.OpenTable.{OpenTable}
use Rattle.zk_step.specs.declared.state.ending.Ending.{Ending}
use Rattle.zk_step.specs.declared.state.ending.Ending.TheVariants as ending
use Rattle.zk_step.specs.declared.state.ending.Next.{Next}
use Rattle.zk_step.specs.declared.state.ending.Next.TheVariants.{At, Asks}
use Rattle.zk_step.specs.declared.state.ending.Output.{Output}
use Rattle.zk_step.specs.declared.state.ending.Request.{Request}
use Rattle.zk_step.specs.declared.state.game_state.GameState.{GameState}
use Rattle.zk_step.specs.Finish.{finished}
use Rattle.zk_step.specs.Halves.{IsHalf, IsOnWay, ShowsSome, rest_text, rest_text_by, rest_units, text_due}
use Rattle.zk_step.specs.Instructions.{HasBegun, carried_out}
use Rattle.zk_step.specs.Limited.{kept, limited_move, limited_next, text_in}
use Rattle.zk_step.specs.Printing.{IsPlainEnd, characters_of, units_of}
use Rattle.zk_step.specs.Routing.{Signals, no_signals, ends_line, routed, routed_by, routed_to, shown_if, stored_all}
use Rattle.zk_step.specs.Routing.{streamed, table_filled}
use Rattle.zk_step.specs.Streams.{newest_of}
use Rattle.zk_step.proofs.Ends.{ends_as}
use Rattle.zk_step.proofs.HalfDues.{same_rest}
use Rattle.zk_step.proofs.HalfEnds.{has_begun, long_routed}
use Rattle.zk_step.proofs.Steps.{carried_ok}
use Rattle.zk_step.proofs.WithinBounds.{move_is}
use Rattle.zk_vm.specs.declared.machine.Machine.TheInside.{Inside}
use Rattle.zk_vm.specs.declared.stop.Stop.TheVariants as stop
use Rattle.zk_vm.specs.Going.{Settles, stop_by}
use Rattle.zk_vm.specs.Halts.{Halt, IsStep}
use Rattle.zk_vm.specs.Log.{is_silent, text_shown}
use Rattle.zk_vm.specs.Pausing.{GotDue, StandsHalf}
use Rattle.zk_vm.specs.Sessions.{Session}
use Rattle.zk_vm.specs.Sound.{state_seen}
use Rattle.zk_vm.specs.Step.{State, asked, verdict_within, settled, step, text_of, text_within, verdict_of}
use Rattle.zk_vm.specs.Step.Step.{Goes as GoesTo, Faults}
use Rattle.zk_vm.specs.Step.Verdict.{GoesOn}
use Rattle.zk_vm.proofs.Advancing.{fetched_is, stepped_asked, stepped_err, stepped_fault, stepped_on}
use Rattle.zk_vm.proofs.Keeping.{seen}

-- ---- its parts

-- it has found its way, and then it was finished
record Made (found taken : GameState) (i : Instr) (vs : List ℕ) (o : Output) (e : Ending) (w : GameState)
    (n : Next) (t : Signals) : Type 0 where
  mid : GameState
  route : routed found.memory taken o ≡ Ok (mid, t)
  end : finished mid i vs e ≡ Ok (w, n)

finished_by : (found taken mid : GameState) (i : Instr) (vs : List ℕ) (o : Output) (e : Ending) (w : GameState)
    (n : Next) (s t : Signals) (r : Result (GameState × Next) Fault) → routed found.memory taken o ≡ Ok (mid, s)
    → finished mid i vs e ≡ r
    → (r >>= λ x. let y : GameState × (Next × Signals) = (x.0, (x.1, s)) in Ok y) ≡ Ok (w, (n, t))
    → Made found taken i vs o e w n t
finished_by found taken mid i vs o e w n s t (Ok x) route end h =
    let same : ◌≡◌ {A = GameState × (Next × Signals)} (x.0, (x.1, s)) (w, (n, t)) = cc in
    let text : s ≡ t = ap (λ (y : GameState × (Next × Signals)). y.1.1) same in
    record {
      mid = mid;
      route = route ∙ ap (λ (y : Signals). let z : GameState × Signals = (mid, y) in Ok z) text;
      end = end ∙ ap (λ (y : GameState × (Next × Signals)). let z : GameState × Next = (y.0, y.1.0) in Ok z) same;
    }
finished_by found taken mid i vs o e w n s t (Err f) route end h = absurd cc

routed_so : (found taken : GameState) (i : Instr) (vs : List ℕ) (o : Output) (e : Ending) (w : GameState)
    (n : Next) (t : Signals) (r : Result (GameState × Signals) Fault) → routed found.memory taken o ≡ r
    → (r >>= λ x. finished x.0 i vs e >>= λ y. let z : GameState × (Next × Signals) = (y.0, (y.1, x.1)) in Ok z)
    ≡ Ok (w, (n, t)) → Made found taken i vs o e w n t
routed_so found taken i vs o e w n t (Ok (mid, s)) route h =
    finished_by found taken mid i vs o e w n s t (finished mid i vs e) route refl h
routed_so found taken i vs o e w n t (Err f) route h = absurd cc

made_of : (found : GameState) (i : Instr) (codes : List ℕ) (draft : Windows) (h : Half)
    (half : IsHalf found i codes draft h) (w : GameState) (n : Next) (t : Signals)
    → carried_out found i ≡ Ok (w, (n, t)) → Made found half.taken i half.values h.effect.output h.effect.ending w n t
unfolding carried_out
made_of found i codes draft h half w n t k =
    routed_so found half.taken i half.values h.effect.output h.effect.ending w n t
    (routed found.memory half.taken h.effect.output) refl (rw (half.operands, half.made) at k)

-- it asks nothing of the machine
pub half_never_asks : (found : GameState) (i : Instr) (codes : List ℕ) (draft : Windows) (h : Half)
    → IsHalf found i codes draft h → (w : GameState) (x : Request) (t : Signals)
    → carried_out found i ≡ Ok (w, (Asks x, t)) → ⊥
half_never_asks found i codes draft h half w x t k =
    let made = made_of found i codes draft h half w (Asks x) t k in
    let asks : h.effect.ending ≡ ending.Asks x = ends_as made.mid i half.values h.effect.ending w (Asks x) made.end in
    subst IsPlainEnd asks half.way.1

-- ---- its text

filled_silent : (r : Result GameState Fault) (mid : GameState) (t : Signals)
    → (r >>= λ v. let x : GameState × Signals = (v, no_signals) in Ok x) ≡ Ok (mid, t) → t ≡ no_signals
filled_silent (Ok v) mid t h =
    let same : ◌≡◌ {A = GameState × Signals} (v, no_signals) (mid, t) = cc in
    sym (ap (λ (x : GameState × Signals). x.1) same)
filled_silent (Err f) mid t h = absurd cc

ok_is : (x y : GameState × Signals) → ◌≡◌ {A = Result (GameState × Signals) Fault} (Ok x) (Ok y) → x ≡ y
ok_is x y h = cc

lower_route : (w : GameState) (o : Output) (r : GameState × Signals) → newest_of w.streams.tables ≡ None
    → w.windows.selected ≡ Lower → routed_by (newest_of w.streams.tables) w.memory w o ≡ Ok r
    → streamed w.memory w (characters_of w.memory o) ≡ r
lower_route w o r newest is route =
    ok_is _ _ (sym (ap (λ (y : Option OpenTable). routed_by y w.memory w o) newest
    ∙ ap (λ (y : Window). routed_to y w.memory w o) is) ∙ route)

-- where it is shown on the screen, nothing refuses the instruction any more
sure_by : (found taken mid : GameState) (i : Instr) (vs codes : List ℕ) (draft : Windows) (h : Half)
    (x : Option OpenTable) (window : Window) (t : Signals) → newest_of taken.streams.tables ≡ x
    → taken.windows.selected ≡ window → IsOnWay x window taken i vs codes draft h
    → routed_by (newest_of taken.streams.tables) taken.memory taken h.effect.output ≡ Ok (mid, t)
    → (t ≡ no_signals) ⊎ IsOk (limited_next (finished mid i vs h.effect.ending))
sure_by found taken mid i vs codes draft h (Some x) window t newest is way route =
    inl (filled_silent (table_filled taken x (stored_all (own_characters taken.memory)
    (units_of taken.memory h.effect.output))) mid t (rw newest at route))
sure_by found taken mid i vs codes draft h None Upper t newest is way route =
    inl (filled_silent (Ok _) mid t (rw (newest, is) at route))
sure_by found taken mid i vs codes draft h None Lower t newest is way route =
    let b = ends_line taken.at_line_start (shown_if taken.streams.screen
    (characters_of taken.memory h.effect.output)) in
    let there = lower_route taken h.effect.output (mid, t) newest is route in
    inr (subst (λ (w : GameState). IsOk (limited_next (finished w i vs h.effect.ending)))
    (ap (λ (p : GameState × Signals). p.0) there) (way.1 b))

limited_at : (q : Result FrameList Refusal) (w : GameState) (p : ℕ) (t : Signals)
    → text_within q t ≡ text_in (kept {B = GameState × (Next × Signals)} q (w, (At p, t)))
limited_at (Ok u) w p t = refl
limited_at (Err e) w p t = refl

within_so : (q : Result FrameList Refusal) (x : GameState × Next) (pc : ℕ)
    → IsOk (kept {B = GameState × Next} q x) → verdict_within pc q ≡ GoesOn
within_so (Ok u) x pc h = refl
within_so (Err e) x pc h = absurd cc

-- the text of its step is what the instruction shows; and the step goes on, or shows nothing whatever the limits are
pub record ShowsHalf (s : State) (i : Instr) : Type 0 where
  pub text : text_of s (step s) ≡ text_in (limited_move (carried_out s.game i))
  pub goes : (is_silent (text_shown (step s)) ≡ true) ⊎ (verdict_of s (step s) ≡ GoesOn)

goes_or_silent : (t : Signals) (q : Result FrameList Refusal) (x : GameState × Next) (pc : ℕ)
    → (t ≡ no_signals) ⊎ IsOk (kept {B = GameState × Next} q x) → (is_silent t ≡ true) ⊎ (verdict_within pc q ≡ GoesOn)
goes_or_silent t q x pc (inl h) = inl (ap is_silent h)
goes_or_silent t q x pc (inr h) = inr (within_so q x pc h)

shows_by : (s : State) (i : Instr) (codes : List ℕ) (draft : Windows) (h : Half) → IsHalf s.game i codes draft h
    → step s ≡ settled s i (carried_out s.game i) → (r : Result (GameState × (Next × Signals)) Fault)
    → carried_out s.game i ≡ r → ShowsHalf s i
shows_by s i codes draft h half is (Err f) e =
    let step_is : step s ≡ Faults f = is ∙ ap (settled s i) e in
    record { text = rw (step_is, e) refl; goes = inl (rw step_is refl) }
shows_by s i codes draft h half is (Ok (w, (Asks x, t))) e =
    absurd (half_never_asks s.game i codes draft h half w x t e)
shows_by s i codes draft h half is (Ok (w, (At p, t))) e =
    let step_is : step s ≡ GoesTo (record s { game = w; pc = p; steps = s.steps + 1 }) t = is ∙ ap (settled s i) e in
    let made = made_of s.game i codes draft h half w (At p) t e in
    let route = sym (long_routed s.game half.taken i half.values h.effect.output half.operands half.long)
    ∙ made.route in
    let sure = sure_by s.game half.taken made.mid i half.values codes draft h
    (newest_of half.taken.streams.tables) half.taken.windows.selected t refl refl half.way.2 route in
    record {
      text = rw (step_is, e) (limited_at (within_bounds w.frames) w p t);
      goes = rw step_is (goes_or_silent t (within_bounds w.frames) (w, At p) s.pc (rw made.end at sure));
    }

pub shows_half : (s : State) (i : Instr) (codes : List ℕ) (draft : Windows) (h : Half)
    → instr_at s.game.memory s.pc ≡ Ok i → IsHalf s.game i codes draft h → ShowsHalf s i
shows_half s i codes draft h fetched half =
    shows_by s i codes draft h half (fetched_is s i fetched) (carried_out s.game i) refl

-- ---- its end

never_refused : (found taken : GameState) (i : Instr) (vs : List ℕ) (h : Half) (e : Refusal) (mid : GameState)
    (t : Signals) (q : Result (GameState × Next) Refusal) → HasBegun found i taken vs h.effect
    → routed found.memory taken h.effect.output ≡ Ok (mid, t)
    → limited_next (finished mid i vs h.effect.ending) ≡ q → IsOk q → limited_move (carried_out found i) ≡ Err e → ⊥
never_refused found taken i vs h e mid t (Ok (w, n)) begun route end ok err =
    let whole = sym (carried_ok found i vs taken h.effect mid t w n begun route end) ∙ err in absurd cc
never_refused found taken i vs h e mid t (Err x) begun route end ok err = absurd cc

-- where it is refused nothing is still to come
sure_not : (found taken : GameState) (i : Instr) (vs codes : List ℕ) (draft : Windows) (h : Half) (e : Refusal)
    (x : Option OpenTable) (window : Window) → newest_of taken.streams.tables ≡ x → taken.windows.selected ≡ window
    → IsOnWay x window taken i vs codes draft h
    → HasBegun found i taken vs h.effect → routed found.memory taken h.effect.output ≡ routed_by
    (newest_of taken.streams.tables) taken.memory taken h.effect.output
    → limited_move (carried_out found i) ≡ Err e → rest_text_by x window taken
    (rest_units taken.memory h.rest) ≡ no_signals
sure_not found taken i vs codes draft h e (Some x) window newest is way begun route err = refl
sure_not found taken i vs codes draft h e None Upper newest is way begun route err = refl
sure_not found taken i vs codes draft h e None Lower newest is way begun route err =
    let r = streamed taken.memory taken (characters_of taken.memory h.effect.output) in
    let there = route ∙ ap (λ (y : Option OpenTable). routed_by y taken.memory taken h.effect.output) newest
    ∙ ap (λ (y : Window). routed_to y taken.memory taken h.effect.output) is in
    absurd (never_refused found taken i vs h e r.0 r.1 (limited_next (finished r.0 i vs h.effect.ending)) begun
    there
    refl (way.1 (ends_line taken.at_line_start
    (shown_if taken.streams.screen (characters_of taken.memory h.effect.output)))) err)

pub refused_rest : (found : GameState) (i : Instr) (codes : List ℕ) (draft : Windows) (h : Half) (e : Refusal)
    → IsHalf found i codes draft h → limited_move (carried_out found i) ≡ Err e → rest_text found h.rest ≡ no_signals
refused_rest found i codes draft h e half err =
    let taken = half.taken in
    sym (same_rest i.operands found taken half.values h.rest half.operands)
    ∙ sure_not found taken i half.values codes draft h e (newest_of taken.streams.tables) taken.windows.selected
    refl refl half.way.2 (has_begun found taken i half.values h.effect half.operands half.made)
    (long_routed found taken i half.values h.effect.output half.operands half.long) err

all_taken : (n : ℕ) (l : Signals) → drop n l ≡ [] → take n l ≡ l
all_taken n l none = sym (append-nil (take n l)) ∙ ap (λ (x : Signals). take n l ++ x) (sym none) ∙ take-append-drop n l

-- a text of which nothing is still to come was shown
pub whole_shown : {S : Type 0} (shows : S → S → Signals → Type 0) (a b : S) (t : Signals)
    → ShowsSome shows a b t no_signals → shows a b t
whole_shown {S} shows a b t h =
    rw (all_taken h.count t (sym h.is)) at h.shown

-- ---- the ways of a step

pub made_at : {S : Type 0} (shows : S → S → Signals → Type 0) (a b : S) (m : Inside) (i : Instr)
    (half : Option Half) (w : GameState) (p : ℕ) (t : Signals) → instr_at m.game.memory m.pc ≡ Ok i
    → limited_move (carried_out m.game i) ≡ Ok (w, (At p, t)) → t ≡ text_in (limited_move (carried_out m.game i))
    → ShowsSome shows a b (text_due m.game i half) no_signals
    → IsStep (seen m) (seen (record m { game = w; pc = p; steps = m.steps + 1 })) (Ok tt)
    (GotDue shows a b m.game half)
made_at {S} shows a b m i None w p t h told is text =
    stepped_on shows a b m i w p t h told (rw is (whole_shown shows a b (text_due m.game i None) text))
made_at {S} shows a b m i (Some x) w p t h told is text =
    stepped_on (λ (y z : S) (cs : Signals). shows a b (rest_text m.game x.rest)) a b m i w p t h told (whole_shown
    shows a b (rest_text m.game x.rest) text)

pub made_asked : {S : Type 0} (shows : S → S → Signals → Type 0) (twice : (a b c : S) (s t : Signals)
    → shows a b s → shows b c t → shows a c (s ++ t)) (a b c : S) (m : Inside) (new : Session)
    (i : Instr) (half : Option Half) (codes : List ℕ) (draft : Windows) (w : GameState) (x : Request) (t : Signals)
    (answer : Result (Unit {0}) Halt)
    → IfSome half (IsHalf m.game i codes draft) → instr_at m.game.memory m.pc ≡ Ok i
    → limited_move (carried_out m.game i) ≡ Ok (w, (Asks x, t))
    → t ≡ text_in (limited_move (carried_out m.game i)) → t ≡ no_signals
    → ShowsSome shows a b (text_due m.game i half) no_signals
    → Settles (seen (record m { game = w })) new answer (asked (state_seen (record m { game = w })) i w x)
    → shows b c (text_of (state_seen m) (asked (state_seen (record m { game = w })) i w x))
    → IsStep (seen m) new answer (GotDue shows a c m.game half)
made_asked {S} shows twice a b c m new i None codes draft w x t answer half h told is quiet text step rest =
    stepped_asked shows twice a b c m new i w x t answer h told quiet
    (rw is (whole_shown shows a b (text_due m.game i None) text)) step rest
made_asked {S} shows twice a b c m new i (Some y) codes draft w x t answer half h told is quiet text step rest =
    absurd (half_never_asks m.game i codes draft y half w x t (move_is (carried_out m.game i) (w, (Asks x, t)) told))

pub made_err : {S : Type 0} (shows : S → S → Signals → Type 0) (a b : S) (m : Inside) (new : Session)
    (i : Instr) (half : Option Half) (codes : List ℕ) (draft : Windows) (e : Refusal)
    (answer : Result (Unit {0}) Halt) → IfSome half (IsHalf m.game i codes draft) → instr_at m.game.memory m.pc ≡ Ok i
    → limited_move (carried_out m.game i) ≡ Err e → answer ≡ Err (Err (stop_by m.pc e)) → new.waiting ≡ None
    → shows a b [] → IsStep (seen m) new answer (GotDue shows a b m.game half)
made_err {S} shows a b m new i None codes draft e answer half h told tells free text =
    stepped_err shows a b m new i e answer h told tells free (rw told text)
made_err {S} shows a b m new i (Some y) codes draft e answer half h told tells free text =
    stepped_err (λ (u v : S) (cs : Signals). shows a b (rest_text m.game y.rest)) a b m new i e answer h told tells free
    (rw (refused_rest m.game i codes draft y e half told) text)

-- ---- the instruction at the program counter

pub same_instr : (r : Result Instr Fault) (i j : Instr) → r ≡ Ok i → r ≡ Ok j → i ≡ j
same_instr r i j h k = let both : ◌≡◌ {A = Result Instr Fault} (Ok i) (Ok j) = sym h ∙ k in cc

pub half_there : (s : Session) (i : Instr) (half : Option Half) (codes : List ℕ) (draft : Windows)
    → instr_at s.state.game.memory s.state.pc ≡ Ok i → IfSome half (StandsHalf s codes draft)
    → IfSome half (IsHalf s.state.game i codes draft)
half_there s i None codes draft fetched stands = stands
half_there s i (Some h) codes draft fetched stands =
    subst (λ (j : Instr). IsHalf s.state.game j codes draft h)
    (same_instr (instr_at s.state.game.memory s.state.pc) stands.instruction i stands.fetched fetched) stands.half

pub made_fault : {S : Type 0} (shows : S → S → Signals → Type 0) (a : S) (m : Inside) (new : Session)
    (half : Option Half) (codes : List ℕ) (draft : Windows) (f : Fault) (answer : Result (Unit {0}) Halt)
    → IfSome half (StandsHalf (seen m) codes draft) → instr_at m.game.memory m.pc ≡ Err f
    → answer ≡ Err (Err (stop.Fault m.pc f)) → new.waiting ≡ None → shows a a []
    → IsStep (seen m) new answer (GotDue shows a a m.game half)
made_fault {S} shows a m new None codes draft f answer stands fault tells free none =
    stepped_fault shows a m new f answer fault tells free none
made_fault {S} shows a m new (Some h) codes draft f answer stands fault tells free none =
    let both = sym stands.fetched ∙ fault in absurd cc
