-- Logs join, what comes from the world determines those of whole steps, and what one move adds to a log.
use Rattle.std.proofs.Common.{◌≡◌, ◌∙◌, ◌⊎◌, ◌-◌, ◌+◌, inl, inr, ℕ, List, [], ◌∷◌, ◌++◌, append_assoc, append-nil}
use Rattle.std.proofs.Common.{Option, Some, None, Result, Ok, Err, refl, ap, sym, subst, arith}
use Rattle.std.specs.List.{cons_option}
use Rattle.std.specs.Prelude.{map}
use Rattle.std.proofs.lemmas.List.Elements.{filter_map-append}
use Rattle.zk_state.specs.declared.refusal.Refusal.{Refusal}
use Rattle.zk_state.specs.declared.refusal.Refusal.TheVariants as refusal
use Rattle.zk_state.specs.Frames.{FrameList, within_bounds}
use Rattle.zk_step.specs.declared.state.ending.Event.{Event}
use Rattle.zk_step.specs.declared.state.ending.Event.TheVariants.{Line, Char, Save, Restore}
use Rattle.zk_step.specs.Routing.{Signals, no_signals}
use Rattle.zk_vm.specs.declared.stop.Stop.{Stop}
use Rattle.zk_vm.specs.declared.waiting.Waiting.{Waiting}
use Rattle.zk_vm.specs.Answers.{Answer, answered, answered_by, codes_of, end_of, is_kept, file_of}
use Rattle.zk_vm.specs.Sessions.{Session, given, given_to, resumed}
use Rattle.zk_vm.specs.Step.{State, Step, Verdict, verdict_within, state_after, verdict_of}
use Rattle.zk_vm.specs.Step.Step.{Goes as GoesTo, Waits, Quits, Faults, Exceeds}
use Rattle.zk_vm.specs.Step.Verdict.{GoesOn, WaitsFor, StopsBy}
use Rattle.zk_vm.specs.Log.{Entry, Move, Passed, IsLeftIn, IsLog, IsPrefix, LogsJoin, address_in, address_told}
use Rattle.zk_vm.specs.Log.{addresses, after, answer_in, answers_in, goes_by, heard_by, moved, moved_by, parts_of}
use Rattle.zk_vm.specs.Log.{passed, signal_in, signals, stepped, stepped_to, stop_told, told}
use Rattle.zk_vm.specs.Log.Entry.{At, Stopped}
use Rattle.zk_vm.specs.Log.Move.{Goes, Gets, Part}
use Rattle.zk_vm.proofs.AnswerSteps.{NoWait, answered_free}

-- ---- one after the other

passed_both : (ms ns : List Move) (s : Session) → passed (ms ++ ns) s ≡ passed ms s ++ passed ns (after ms s)
unfolding passed after
passed_both [] ns s = refl
passed_both (m ∷ ms) ns s = ap (λ (l : List Entry). (moved s m).entries ++ l) (passed_both ms ns (moved s m).to)
    ∙ sym (append_assoc (moved s m).entries (passed ms (moved s m).to) (passed ns (after ms (moved s m).to)))

after_both : (ms ns : List Move) (s : Session) → after (ms ++ ns) s ≡ after ns (after ms s)
unfolding after
after_both [] ns s = refl
after_both (m ∷ ms) ns s = after_both ms ns (moved s m).to

moved_stopped : (x : Option Stop) (s : Session) (stop : Stop) (m : Move) → x ≡ Some stop
    → moved_by x s.waiting s m ≡ record { entries = []; to = s }
moved_stopped None s stop m e = absurd cc
moved_stopped (Some y) s stop m e = refl

-- one that has stopped stays
pub passed_stopped : (ms : List Move) (s : Session) (stop : Stop) → s.stopped ≡ Some stop
    → (passed ms s ≡ []) × (after ms s ≡ s)
unfolding passed after
passed_stopped [] s stop e = (refl, refl)
passed_stopped (m ∷ ms) s stop e = rw (moved_stopped s.stopped s stop m e) (passed_stopped ms s stop e)

pub left_here : (s : Session) (x : Option Stop) → s.stopped ≡ x → IsLeftIn s s x
left_here s None e = refl
left_here s (Some stop) e = (e, refl, refl)

left_twice : (t u v : Session) (stop : Stop) → t.waiting ≡ v.waiting → t.limits ≡ v.limits → (x : Option Stop)
    → x ≡ Some stop → IsLeftIn u t x → IsLeftIn u v (Some stop)
left_twice t u v stop waiting limits None e left = absurd cc
left_twice t u v stop waiting limits (Some y) e left = (left.0 ∙ e, left.1 ∙ waiting, left.2 ∙ limits)

joined : (s t u : Session) (l m : List Entry) (a : IsLog s l t) (b : IsLog t m u) (x : Option Stop)
    → (after a.moves s).stopped ≡ x → IsLeftIn t (after a.moves s) x → IsLog s (l ++ m) u
joined s t u l m a b None e left = record {
  moves = a.moves ++ b.moves;
  is = ap (λ (x : List Entry). x ++ m) a.is ∙ ap (λ (x : List Entry). passed a.moves s ++ x)
      (b.is ∙ ap (passed b.moves) left) ∙ sym (passed_both a.moves b.moves s);
  left =
      rw (after_both a.moves b.moves s)
      (subst (λ (v : Session). IsLeftIn u (after b.moves v) (after b.moves v).stopped) left b.left);
}
joined s t u l m a b (Some stop) e left =
    let none = passed_stopped b.moves t stop left.0 in
    let here : IsLeftIn u t t.stopped = rw (none.1) at b.left in
    record {
      moves = a.moves;
      is = ap (λ (x : List Entry). l ++ x) (b.is ∙ none.0) ∙ append-nil l ∙ a.is;
      left = rw e (left_twice t u (after a.moves s) stop left.1 left.2 t.stopped left.0 here);
    }

pub logs_join : LogsJoin
logs_join s t u l m a b = joined s t u l m a b (after a.moves s).stopped refl a.left

pub no_log : (s : Session) → IsLog s [] s
unfolding passed after
no_log s = record { moves = []; is = refl; left = left_here s s.stopped refl }

pub log_left : (s t u : Session) (l : List Entry) → IsLog s l t → IsLeftIn u t t.stopped → IsLog s l u
unfolding passed after
log_left s t u l a left =
    subst (λ (x : List Entry). IsLog s x u) (append-nil l)
    (logs_join s t u l [] a (record { moves = []; is = refl; left = left }))

pub log_of_move : (s : Session) (m : Move) → IsLog s (moved s m).entries (moved s m).to
unfolding passed after
log_of_move s m =
    record {
      moves = m ∷ [];
      is = sym (append-nil (moved s m).entries);
      left = left_here (moved s m).to (moved s m).to.stopped refl;
    }

-- ---- logs with so many parts of texts

pub record LogWith (parts : ℕ) (s : Session) (l : List Entry) (t : Session) : Type 0 where
  pub is : IsLog s l t
  pub counted : parts_of is.moves ≡ parts

parts_both : (ms ns : List Move) → parts_of (ms ++ ns) ≡ parts_of ms + parts_of ns
unfolding parts_of
parts_both [] ns = omega arith
parts_both (Goes ∷ ms) ns = parts_both ms ns
parts_both (Part n ∷ ms) ns = let rest = parts_both ms ns in omega (arith, rest)
parts_both (Gets a ∷ ms) ns = parts_both ms ns

joined_parts : (s t u : Session) (l m : List Entry) (a : IsLog s l t) (b : IsLog t m u) (x : Option Stop)
    (e : (after a.moves s).stopped ≡ x) (left : IsLeftIn t (after a.moves s) x) → t.stopped ≡ None
    → parts_of (joined s t u l m a b x e left).moves ≡ parts_of a.moves + parts_of b.moves
unfolding joined
joined_parts s t u l m a b None e left runs = parts_both a.moves b.moves
joined_parts s t u l m a b (Some stop) e left runs = let never = sym runs ∙ left.0 in absurd cc

-- they join where the machine between them runs
pub with_both : (i j n : ℕ) (s t u : Session) (l m : List Entry) → i + j ≡ n → t.stopped ≡ None → LogWith i s l t
    → LogWith j t m u → LogWith n s (l ++ m) u
unfolding logs_join
with_both i j n s t u l m sum runs a b = record {
  is = logs_join s t u l m a.is b.is;
  counted = joined_parts s t u l m a.is b.is (after a.is.moves s).stopped refl a.is.left runs
      ∙ omega (arith, a.counted, b.counted, sum);
}

pub with_none : (s : Session) → LogWith 0 s [] s
unfolding no_log parts_of
with_none s = record { is = no_log s; counted = refl }

pub with_step : (s : Session) → LogWith 0 s (moved s Goes).entries (moved s Goes).to
unfolding log_of_move parts_of
with_step s = record { is = log_of_move s Goes; counted = refl }

waits_as : (t u : Session) (x : Option Stop) → IsLeftIn t u x → t.waiting ≡ u.waiting
waits_as t u None left = ap (λ (s : Session). s.waiting) left
waits_as t u (Some stop) left = left.1

pub stays_free : (s t : Session) (stop : Stop) (l : List Entry) → s.stopped ≡ Some stop → IsLog s l t
    → t.waiting ≡ s.waiting
stays_free s t stop l e log = waits_as t (after log.moves s) (after log.moves s).stopped log.left
    ∙ ap (λ (u : Session). u.waiting) (passed_stopped log.moves s stop e).1

-- ---- one log

abbrev pub Agree : List Entry → List Entry → Type 0
Agree p q = answers_in p ≡ answers_in q → IsPrefix p q ⊎ IsPrefix q p

pub prefix_on : (x : Entry) (p q : List Entry) → IsPrefix p q ⊎ IsPrefix q p → IsPrefix (x ∷ p) (x ∷ q)
    ⊎ IsPrefix (x ∷ q) (x ∷ p)
prefix_on x p q (inl h) = inl (record { rest = h.rest; whole = ap (λ (l : List Entry). x ∷ l) h.whole })
prefix_on x p q (inr h) = inr (record { rest = h.rest; whole = ap (λ (l : List Entry). x ∷ l) h.whole })

same_rest : (x : Option Entry) (l m : List Entry) → cons_option x l ≡ cons_option x m → l ≡ m
same_rest None l m e = e
same_rest (Some x) l m e = cc

agree_one : (x : Entry) (p q : List Entry) → Agree p q → Agree (x ∷ p) (x ∷ q)
agree_one x p q h e = prefix_on x p q (h (same_rest (answer_in x) (answers_in p) (answers_in q) e))

agree_both : (l p q : List Entry) → Agree p q → Agree (l ++ p) (l ++ q)
agree_both [] p q h = h
agree_both (x ∷ l) p q h = agree_one x (l ++ p) (l ++ q) (agree_both l p q h)

-- answers that are the same to a log
first_same : (s : Session) (event : Event) (a b : Answer) (p q : List Entry)
    → answers_in (heard_by s event a ∷ p) ≡ answers_in (heard_by s event b ∷ q)
    → heard_by s event a ≡ heard_by s event b
first_same s (Line text parse) a b p q e = cc
first_same s Char a b p q e = cc
first_same s Save a b p q e = cc
first_same s Restore a b p q e = cc

answered_same : (s : Session) (w : Waiting) (event : Event) (a b : Answer)
    → heard_by s event a ≡ heard_by s event b → answered_by s.state w.instruction event a ≡ answered_by s.state
    w.instruction event b
answered_same s w (Line text parse) a b e =
    let same : codes_of a ≡ codes_of b = cc in
    let ends : end_of a ≡ end_of b = cc in
    rw (same, ends) refl
answered_same s w Char a b e = let same : codes_of a ≡ codes_of b = cc in rw same refl
answered_same s w Save a b e = let same : is_kept a ≡ is_kept b = cc in rw same refl
answered_same s w Restore a b e = let same : file_of a ≡ file_of b = cc in rw same refl

given_same : (s : Session) (w : Waiting) (a b : Answer) → heard_by s w.wait a ≡ heard_by s w.wait b
    → given_to (Some w) s a ≡ given_to (Some w) s b
unfolding answered
given_same s w a b e =
    ap (λ (x : Step). resumed s (verdict_of s.state x) (state_after s.state x)) (answered_same s w w.wait a b e)

got_agree : (s : Session) (w : Waiting) (a b : Answer) (ms ns : List Move)
    → ((t : Session) → Agree (passed ms t) (passed ns t))
    → Agree ((moved_by None (Some w) s (Gets a)).entries ++ passed ms (given_to (Some w) s a))
    ((moved_by None (Some w) s (Gets b)).entries ++ passed ns (given_to (Some w) s b))
got_agree s w a b ms ns rest e =
    let same = first_same s w.wait a b (stop_told (given_to (Some w) s a).stopped
    ++ passed ms (given_to (Some w) s a)) (stop_told (given_to (Some w) s b).stopped
    ++ passed ns (given_to (Some w) s b)) e in
    let there = given_same s w a b same in
    let both : Agree ((moved_by None (Some w) s (Gets a)).entries ++ passed ms (given_to (Some w) s a))
    ((moved_by None (Some w) s (Gets b)).entries ++ passed ns (given_to (Some w) s b))
    =
    rw (← same, ← there) (agree_both (moved_by None (Some w) s (Gets a)).entries
    (passed ms (given_to (Some w) s a)) (passed ns (given_to (Some w) s a)) (rest (given_to (Some w) s a))) in
    both e

-- a move that shows no part of a text: a machine goes on, or gets an answer
abbrev pub plain_move : Option Answer → Move
plain_move None = Goes
plain_move (Some a) = Gets a

abbrev pub plainly : List (Option Answer) → Session → List Entry
plainly ms s = passed (map plain_move ms) s

heads_agree : (x : Option Stop) (y : Option Waiting) (s : Session) (m n : Option Answer)
    (ms ns : List (Option Answer)) → ((t : Session) → Agree (plainly ms t) (plainly ns t))
    → Agree (plainly ms s) ((moved_by x y s (plain_move n)).entries
    ++ plainly ns (moved_by x y s (plain_move n)).to)
    → Agree ((moved_by x y s (plain_move m)).entries ++ plainly ms (moved_by x y s (plain_move m)).to) (plainly ns s)
    → Agree ((moved_by x y s (plain_move m)).entries ++ plainly ms (moved_by x y s (plain_move m)).to)
    ((moved_by x y s (plain_move n)).entries ++ plainly ns (moved_by x y s (plain_move n)).to)
heads_agree None None s None None ms ns both first second =
    agree_both (goes_by s.state.due s).entries _ _ (both (goes_by s.state.due s).to)
heads_agree None None s None (Some b) ms ns both first second = second
heads_agree None None s (Some a) n ms ns both first second = first
heads_agree None (Some w) s None n ms ns both first second = first
heads_agree None (Some w) s (Some a) None ms ns both first second = second
heads_agree None (Some w) s (Some a) (Some b) ms ns both first second =
    got_agree s w a b (map plain_move ms) (map plain_move ns) both
heads_agree (Some stop) y s m n ms ns both first second = first

one_more : (m : Option Answer) (ms : List (Option Answer))
    → ((ns : List (Option Answer)) (s : Session) → Agree (plainly ms s) (plainly ns s))
    → (ns : List (Option Answer)) (s : Session) → Agree (plainly (m ∷ ms) s) (plainly ns s)
unfolding passed
one_more m ms rest [] s = λ e. inr (record { rest = plainly (m ∷ ms) s; whole = refl })
one_more m ms rest (n ∷ ns) s =
    heads_agree s.stopped s.waiting s m n ms ns (rest ns) (rest (n ∷ ns) s) (one_more m ms rest ns s)

pub plain_agree : (ms ns : List (Option Answer)) (s : Session) → Agree (plainly ms s) (plainly ns s)
unfolding passed
plain_agree [] ns s = λ e. inl (record { rest = plainly ns s; whole = refl })
plain_agree (m ∷ ms) ns s = one_more m ms (plain_agree ms) ns s

-- ---- what a log shows

-- a log shows a text, and has no answer
pub record Says (l : List Entry) (t : Signals) : Type 0 where
  pub given : signals l ≡ t
  pub alone : answers_in l ≡ []

pub answers_both : (l m : List Entry) → answers_in l ≡ [] → answers_in m ≡ [] → answers_in (l ++ m) ≡ []
answers_both l m e f = rw (filter_map-append answer_in l m, e, f) refl

pub says_both : (l m : List Entry) (t u : Signals) → Says l t → Says m u → Says (l ++ m) (t ++ u)
says_both l m t u a b = record {
  given = rw (filter_map-append signal_in l m, a.given, b.given) refl;
  alone = answers_both l m a.alone b.alone;
}

pub says_told : (t : Signals) → Says (told t) t
says_told [] = record { given = refl; alone = refl }
says_told (x ∷ t) =
    let rest = says_told t in record { given = ap (λ (l : Signals). x ∷ l) rest.given; alone = rest.alone }

pub says_at : (pc : ℕ) (l : List Entry) (t : Signals) → Says l t → Says (At pc ∷ l) t
says_at pc l t h = record { given = h.given; alone = h.alone }

pub says_stop : (stop : Stop) → Says (Stopped stop ∷ []) no_signals
says_stop stop = record { given = refl; alone = refl }

pub says_nothing : Says [] no_signals
says_nothing = record { given = refl; alone = refl }

pub addresses_both : (l m : List Entry) (a b : List ℕ) → addresses l ≡ a → addresses m ≡ b → addresses (l ++ m) ≡ a ++ b
addresses_both l m a b e f = rw (filter_map-append address_in l m, e, f) refl

pub told_nowhere : (t : Signals) → addresses (told t) ≡ []
told_nowhere [] = refl
told_nowhere (x ∷ t) = told_nowhere t

-- ---- a step

pub says_address : (left : Option Signals) (pc : ℕ) (l : List Entry) (t : Signals) → Says l t
    → Says (address_told left pc ++ l) t
says_address None pc l t h = says_at pc l t h
says_address (Some u) pc l t h = h

pub says_step : (s : Session) (v : Verdict) (t : State) (text : Signals) → Says (stepped_to s v t text).entries text
says_step s GoesOn t text = says_address s.left s.state.pc (told text) text (says_told text)
says_step s (WaitsFor w) t text = says_address s.left s.state.pc (told text) text (says_told text)
says_step s (StopsBy stop) t text =
    says_address s.left s.state.pc (told text ++ Stopped stop ∷ []) text
    (rw (append-nil text) at
    (says_both (told text) (Stopped stop ∷ []) text no_signals (says_told text) (says_stop stop)))

-- it stands at one address, unless that was told before
pub step_stands : (s : Session) (v : Verdict) (t : State) (text : Signals)
    → addresses (stepped_to s v t text).entries ≡ addresses (address_told s.left s.state.pc)
step_stands s GoesOn t text = rw (append-nil (addresses (address_told s.left s.state.pc))) at
    (addresses_both (address_told s.left s.state.pc) (told text) _ [] refl (told_nowhere text))
step_stands s (WaitsFor w) t text = rw (append-nil (addresses (address_told s.left s.state.pc))) at
    (addresses_both (address_told s.left s.state.pc) (told text) _ [] refl (told_nowhere text))
step_stands s (StopsBy stop) t text =
    rw (append-nil (addresses (address_told s.left s.state.pc))) at
    (addresses_both (address_told s.left s.state.pc) (told text ++ Stopped stop ∷ []) _ []
    refl (addresses_both (told text) (Stopped stop ∷ []) [] [] (told_nowhere text) refl))

pub move_is : (n : ℕ) (s : Session) → s.stopped ≡ None → s.waiting ≡ None → s.state.due ≡ []
    → s.limits.steps - s.state.steps ≡ n → moved s Goes ≡ stepped n s
move_is n s runs free silent count = rw (runs, free, silent, count) refl

-- ---- an answer

got_to : (s : Session) (w : Waiting) (a : Answer) → s.stopped ≡ None → s.waiting ≡ Some w
    → moved s (Gets a) ≡ record { entries = heard_by s w.wait a ∷ stop_told (given s a).stopped; to = given s a }
unfolding given
got_to s w a runs e = rw (runs, e) refl

pub given_logged : (s : Session) (w : Waiting) (a : Answer) → s.stopped ≡ None → s.waiting ≡ Some w
    → IsLog s (heard_by s w.wait a ∷ stop_told (given s a).stopped) (given s a)
given_logged s w a runs e =
    subst (λ (p : Passed). IsLog s p.entries p.to) (got_to s w a runs e) (log_of_move s (Gets a))

resumed_by : (s : Session) (pc : ℕ) (t : State) (r : Result FrameList Refusal)
    → (resumed s (verdict_within pc r) t).waiting ≡ None
resumed_by s pc t (Ok u) = refl
resumed_by s pc t (Err (refusal.Limit l)) = refl
resumed_by s pc t (Err (refusal.Fault f)) = refl

resumed_free : (s : Session) (x : Step) → NoWait x
    → (resumed s (verdict_of s.state x) (state_after s.state x)).waiting ≡ None
resumed_free s (GoesTo t text) none = resumed_by s s.state.pc t (within_bounds t.game.frames)
resumed_free s (Waits t w text) none = absurd none
resumed_free s Quits none = refl
resumed_free s (Faults f) none = refl
resumed_free s (Exceeds l) none = refl

free_by : (w : Option Waiting) (s : Session) (a : Answer) → s.waiting ≡ w → (given_to w s a).waiting ≡ None
free_by None s a e = e
free_by (Some w) s a e = resumed_free s (answered s.state w a) (answered_free s.state w a)

pub given_free : (s : Session) (a : Answer) → (given s a).waiting ≡ None
unfolding given
given_free s a = free_by s.waiting s a refl
