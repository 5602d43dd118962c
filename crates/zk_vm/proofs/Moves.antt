-- What passes at some moves and then at others, and what each move keeps.
use Rattle.std.proofs.Common.{◌≡◌, ◌∙◌, ◌<◌, ◌-◌, ℕ, zero, suc, Bool, true, false, List, [], ◌∷◌, ◌++◌, append_assoc}
use Rattle.std.proofs.Common.{append-nil, Option, Some, None, Result, Ok, Err, refl, ap, sym, arith}
use Rattle.std.specs.Prelude.{if◌then◌else◌}
use Rattle.zk_state.specs.declared.refusal.Limit.TheVariants.{Reads}
use Rattle.zk_state.specs.declared.refusal.Refusal.{Refusal}
use Rattle.zk_state.specs.declared.refusal.Refusal.TheVariants as refusal
use Rattle.zk_state.specs.Frames.{FrameList, within_bounds}
use Rattle.zk_step.specs.Routing.{Signals}
use Rattle.zk_vm.specs.declared.stop.Stop.{Stop}
use Rattle.zk_vm.specs.declared.stop.Stop.TheVariants.{Limit}
use Rattle.zk_vm.specs.declared.waiting.Waiting.{Waiting}
use Rattle.zk_vm.specs.Answers.{Answer, answered}
use Rattle.zk_vm.specs.Sessions.{Session, resumed}
use Rattle.zk_vm.specs.Step.{State, Step, Verdict, verdict_within, is_past_reads, state_after, step, verdict_of}
use Rattle.zk_vm.specs.Step.Step.{Goes as GoesTo, Waits, Quits, Faults, Exceeds}
use Rattle.zk_vm.specs.Step.Verdict.{GoesOn, WaitsFor, StopsBy}
use Rattle.zk_vm.specs.Log.{Entry, Move, Passed, after, goes_by, is_silent, moved, moved_by, parted, parted_to}
use Rattle.zk_vm.specs.Log.{parts_by, passed, stepped, stepped_to, text_left, text_shown}
use Rattle.zk_vm.specs.Log.Move.{Gets, Goes, Part}
use Rattle.zk_vm.proofs.Logs.{passed_stopped}

-- ---- one after the other

pub passed_on : (ms ns : List Move) (s : Session) (l : List Entry) → passed ns (after ms s) ≡ l
    → passed (ms ++ ns) s ≡ passed ms s ++ l
unfolding passed after
passed_on [] ns s l e = e
passed_on (m ∷ ms) ns s l e =
    ap (λ (x : List Entry). (moved s m).entries ++ x) (passed_on ms ns (moved s m).to l e)
    ∙ sym (append_assoc (moved s m).entries (passed ms (moved s m).to) l)

-- a move at which a machine stops is the last
pub passed_last : (m : Move) (more : List Move) (s : Session) (p : Passed) (stop : Stop) → moved s m ≡ p
    → p.to.stopped ≡ Some stop → passed (m ∷ more) s ≡ p.entries
unfolding passed
passed_last m more s p stop e h =
    ap (λ (q : Passed). q.entries ++ passed more q.to) e ∙ ap (λ (l : List Entry). p.entries ++ l)
    (passed_stopped more p.to stop h).0 ∙ append-nil p.entries

-- one that runs in the end has run before
pub has_run : (ms : List Move) (s : Session) → (after ms s).stopped ≡ None → s.stopped ≡ None
has_run ms s runs = go s.stopped refl
  where
    not_both : (x : Option Stop) (stop : Stop) → x ≡ None → x ≡ Some stop → ⊥
    not_both x stop h e = absurd cc

    go : (x : Option Stop) → s.stopped ≡ x → s.stopped ≡ None
    go None e = e
    go (Some stop) e =
        absurd (not_both (after ms s).stopped stop runs
        (ap (λ (t : Session). t.stopped) (passed_stopped ms s stop e).1 ∙ e))

-- ---- single moves

pub moved_steps : (s : Session) (n : ℕ) → s.stopped ≡ None → s.waiting ≡ None → s.state.due ≡ []
    → s.limits.steps - s.state.steps ≡ n → moved s Goes ≡ stepped n s
moved_steps s n runs free silent left =
    ap (λ (x : Option Stop). moved_by x s.waiting s Goes) runs
    ∙ ap (λ (x : Option Waiting). moved_by None x s Goes) free
    ∙ ap (λ (due : List ℕ). goes_by due s) silent
    ∙ ap (λ (k : ℕ). stepped k s) left

pub moved_gets : (s : Session) (w : Waiting) (a : Answer) → s.stopped ≡ None → s.waiting ≡ Some w
    → moved s (Gets a) ≡ moved_by None (Some w) s (Gets a)
moved_gets s w a runs waits = ap (λ (x : Option Stop). moved_by x s.waiting s (Gets a)) runs
    ∙ ap (λ (x : Option Waiting). moved_by None x s (Gets a)) waits

-- ---- what a move keeps

-- it is kept where the transcript gets what was due, where a part of a text is shown, where a step goes on or waits,
-- and where an answer leads on
pub record IsKeptBy (K : Session → Type 0) (s : Session) (m : Move) : Type 0 where
  pub silent : s.waiting ≡ None → K (record s { state = record s.state { due = [] } })
  pub part : (left : Option Signals) → K (record s { left = left })
  pub goes : (t : State) (text : Signals) (u : FrameList) → s.stopped ≡ None → s.waiting ≡ None → s.state.due ≡ []
      → m ≡ Goes → s.state.steps < s.limits.steps → step s.state ≡ GoesTo t text
      → within_bounds t.game.frames ≡ Ok u → K (record s { state = t; left = None })
  pub waits : (t : State) (w : Waiting) (text : Signals) → s.stopped ≡ None → s.waiting ≡ None → s.state.due ≡ []
      → m ≡ Goes → s.state.steps < s.limits.steps → step s.state ≡ Waits t w text
      → is_past_reads s.state.reads w.wait ≡ false
      → K (record s { state = t; waiting = Some w; left = None })
  pub gets : (w : Waiting) (a : Answer) (t : State) (text : Signals) (u : FrameList) → s.stopped ≡ None
      → s.waiting ≡ Some w → m ≡ Gets a → answered s.state w a ≡ GoesTo t text → within_bounds t.game.frames ≡ Ok u
      → K (record s { state = t; waiting = None })

module _ (K : Session → Type 0) (s : Session) (k : K s) where
  steps_kept : (h : IsKeptBy K s Goes) (n : ℕ) → s.stopped ≡ None → s.waiting ≡ None → s.state.due ≡ []
      → s.limits.steps - s.state.steps ≡ n → (stepped n s).to.stopped ≡ None → K (stepped n s).to
  steps_kept h zero runs free silent left on = absurd cc
  steps_kept h (suc n) runs free silent left on = by (step s.state) (text_left s.left s.state) refl on
    where
      goes : (t : State) (text shown : Signals) (r : Result FrameList Refusal) → step s.state ≡ GoesTo t text
          → within_bounds t.game.frames ≡ r → (stepped_to s (verdict_within s.state.pc r) t shown).to.stopped ≡ None
          → K (stepped_to s (verdict_within s.state.pc r) t shown).to
      goes t text shown (Ok u) e i o = h.goes t text u runs free silent refl (omega (arith, left)) e i
      goes t text shown (Err (refusal.Limit l)) e i o = absurd cc
      goes t text shown (Err (refusal.Fault f)) e i o = absurd cc

      waits : (t : State) (w : Waiting) (text shown : Signals) (b : Bool) → step s.state ≡ Waits t w text
          → is_past_reads s.state.reads w.wait ≡ b
          → (stepped_to s (if b then StopsBy (Limit s.state.pc Reads) else WaitsFor w) t shown).to.stopped ≡ None
          → K (stepped_to s (if b then StopsBy (Limit s.state.pc Reads) else WaitsFor w) t shown).to
      waits t w text shown true e i o = absurd cc
      waits t w text shown false e i o = h.waits t w text runs free silent refl (omega (arith, left)) e i

      by : (x : Step) (shown : Signals) → step s.state ≡ x
          → (stepped_to s (verdict_of s.state x) (state_after s.state x) shown).to.stopped ≡ None
          → K (stepped_to s (verdict_of s.state x) (state_after s.state x) shown).to
      by (GoesTo t text) shown e o = goes t text shown (within_bounds t.game.frames) e refl o
      by (Waits t w text) shown e o = waits t w text shown (is_past_reads s.state.reads w.wait) e refl o
      by Quits shown e o = absurd cc
      by (Faults f) shown e o = absurd cc
      by (Exceeds l) shown e o = absurd cc

  parted_kept : (silent : Bool) (n : ℕ) (h : IsKeptBy K s (Part n)) (v : Verdict) (t : State) (text : Signals)
      → (parted_to silent n s v t text).to.stopped ≡ None → K (parted_to silent n s v t text).to
  parted_kept true n h v t text on = h.part _
  parted_kept false n h GoesOn t text on = h.part _
  parted_kept false n h (WaitsFor w) t text on = h.part _
  parted_kept false n h (StopsBy stop) t text on = absurd cc

  count_kept : (n k : ℕ) (h : IsKeptBy K s (Part n)) → (parted n k s).to.stopped ≡ None → K (parted n k s).to
  count_kept n zero h on = absurd cc
  count_kept n (suc k) h on =
      parted_kept (is_silent (text_shown (step s.state))) n h (verdict_of s.state (step s.state))
      (state_after s.state (step s.state)) (text_left s.left s.state) on

  parts_kept : (n : ℕ) (h : IsKeptBy K s (Part n)) (due : List ℕ) → (parts_by n due s).to.stopped ≡ None
      → K (parts_by n due s).to
  parts_kept n h [] on = count_kept n (s.limits.steps - s.state.steps) h on
  parts_kept n h (c ∷ cs) on = k

  answer_kept : (w : Waiting) (a : Answer) (h : IsKeptBy K s (Gets a)) (x : Step) → s.stopped ≡ None
      → s.waiting ≡ Some w → answered s.state w a ≡ x
      → (resumed s (verdict_of s.state x) (state_after s.state x)).stopped ≡ None
      → K (resumed s (verdict_of s.state x) (state_after s.state x))
  answer_kept w a h (GoesTo t text) runs there e on = go (within_bounds t.game.frames) refl on
    where
      go : (r : Result FrameList Refusal) → within_bounds t.game.frames ≡ r
          → (resumed s (verdict_within s.state.pc r) t).stopped ≡ None → K (resumed s (verdict_within s.state.pc r) t)
      go (Ok u) i o = h.gets w a t text u runs there refl e i
      go (Err (refusal.Limit l)) i o = absurd cc
      go (Err (refusal.Fault f)) i o = absurd cc
  answer_kept w a h (Waits t v text) runs there e on = go (is_past_reads s.state.reads v.wait) on
    where
      go : (b : Bool) → (resumed s (if b then StopsBy (Limit s.state.pc Reads) else WaitsFor v) t).stopped ≡ None
          → K (resumed s (if b then StopsBy (Limit s.state.pc Reads) else WaitsFor v) t)
      go true o = absurd cc
      go false o = k
  answer_kept w a h Quits runs there e on = absurd cc
  answer_kept w a h (Faults f) runs there e on = absurd cc
  answer_kept w a h (Exceeds l) runs there e on = absurd cc

  goes_kept : (h : IsKeptBy K s Goes) (due : List ℕ) → s.stopped ≡ None → s.waiting ≡ None → s.state.due ≡ due
      → (goes_by due s).to.stopped ≡ None → K (goes_by due s).to
  goes_kept h [] runs free silent on = steps_kept h (s.limits.steps - s.state.steps) runs free silent refl on
  goes_kept h (c ∷ cs) runs free silent on = h.silent free

  by_kept : (m : Move) (h : IsKeptBy K s m) (x : Option Stop) (y : Option Waiting) → s.stopped ≡ x → s.waiting ≡ y
      → (moved_by x y s m).to.stopped ≡ None → K (moved_by x y s m).to
  by_kept Goes h None None runs free on = goes_kept h s.state.due runs free refl on
  by_kept (Part n) h None None runs free on = parts_kept n h s.state.due on
  by_kept (Gets a) h None None runs free on = k
  by_kept Goes h None (Some w) runs there on = k
  by_kept (Part n) h None (Some w) runs there on = k
  by_kept (Gets a) h None (Some w) runs there on = answer_kept w a h (answered s.state w a) runs there refl on
  by_kept m h (Some stop) y e there on = k

  pub moved_keeps : (m : Move) → IsKeptBy K s m → (moved s m).to.stopped ≡ None → K (moved s m).to
  moved_keeps m h on = by_kept m h s.stopped s.waiting refl refl on

-- so it is after some moves
pub after_keeps : (K : Session → Type 0) → ((s : Session) (m : Move) → K s → IsKeptBy K s m)
    → (ms : List Move) (s : Session) → K s → (after ms s).stopped ≡ None → K (after ms s)
unfolding after
after_keeps K by [] s k runs = k
after_keeps K by (m ∷ ms) s k runs =
    after_keeps K by ms (moved s m).to (moved_keeps K s k m (by s m k) (has_run ms (moved s m).to runs)) runs
