-- What an answer leads to: no wait, and few steps and reads.
use Rattle.std.proofs.Common.{◌≡◌, ◌∙◌, ◌≤◌, ℕ, ◌+◌, Bool, true, false, List, [], Option, Some, None, Result, Ok, Err}
use Rattle.std.proofs.Common.{refl, ap, sym, arith}
use Rattle.zk_mem.specs.declared.fault.Fault.{Fault}
use Rattle.zk_mem.specs.Map.{MemoryMap}
use Rattle.zk_state.specs.declared.refusal.Limit.{Limit}
use Rattle.zk_state.specs.Frames.{FrameList}
use Rattle.zk_code.specs.declared.instr.Instr.{Instr}
use Rattle.zk_save.specs.declared.restore.RestoreError.{RestoreError}
use Rattle.zk_save.specs.Loading.{restored}
use Rattle.zk_step.specs.declared.state.ending.Event.{Event}
use Rattle.zk_step.specs.declared.state.ending.Event.TheVariants as event
use Rattle.zk_step.specs.declared.state.game_state.GameState.{GameState}
use Rattle.zk_step.specs.Inputs.{character_answered, line_answered, result_answered}
use Rattle.zk_step.specs.Laws.{fixed_parts}
use Rattle.zk_step.specs.Restarts.{windows_closed}
use Rattle.zk_step.specs.Resuming.{resumed as back}
use Rattle.zk_step.specs.Routing.{Signals, no_signals}
use Rattle.zk_step.proofs.Sweep.{answers_leave_stories}
use Rattle.zk_vm.specs.declared.waiting.Waiting.{Waiting}
use Rattle.zk_vm.specs.Answers.{Answer, answered, answered_by, answer_settled, codes_of, end_of, file_of, first_code}
use Rattle.zk_vm.specs.Answers.{is_kept}
use Rattle.zk_vm.specs.Answers.{limit_of, none_restored, restored_from, restored_to, transcribed, truth_word}
use Rattle.zk_vm.specs.Step.{State, Step, goes_to, is_read, step_by}
use Rattle.zk_vm.specs.Step.Step.{Goes, Waits}
use Rattle.zk_vm.proofs.Answering.{restored_fixed}
use Rattle.zk_vm.proofs.FrameLimits.{same_most}
use Rattle.zk_vm.proofs.OneStep.{goes_same, step_all}

-- ---- no wait

abbrev pub NoWait : Step → Type 0
NoWait (Waits s w text) = ⊥
NoWait _ = Unit {0}

free_by : {A : Type 0} (next : A → Step) (r : Result A Fault) → ((x : A) → NoWait (next x)) → NoWait (step_by next r)
free_by {A} next r free = step_all NoWait next r (λ x e. free x) (λ f e. tt)

none_free : (s : State) (i : Instr) (l : Option Limit) → NoWait (none_restored s i l)
none_free s i None = free_by _ (result_answered s.game i 0 false) (λ x. tt)
none_free s i (Some l) = tt

restored_free : (s : State) (i : Instr) (r : Result (MemoryMap × FrameList × ℕ) RestoreError)
    → NoWait (restored_to s i r)
restored_free s i (Ok (m, f, pc)) =
    free_by _ (back (windows_closed (record s.game { memory = m; frames = f })) pc) (λ x. tt)
restored_free s i (Err e) = none_free s i (limit_of e)

file_free : (s : State) (i : Instr) (o : Option (List ℕ)) → NoWait (restored_from s i o)
file_free s i None = none_free s i None
file_free s i (Some file) = restored_free s i (restored file s.game.memory s.game.frames)

by_free : (s : State) (i : Instr) (x : Event) (a : Answer) → NoWait (answered_by s i x a)
by_free s i (event.Line text parse) a =
    free_by _ (line_answered s.game i text parse (codes_of a) (end_of a)) (λ y. tt)
by_free s i event.Char a = free_by _ (character_answered s.game i (first_code (codes_of a))) (λ y. tt)
by_free s i event.Save a = free_by _ (result_answered s.game i (truth_word (is_kept a)) (is_kept a)) (λ y. tt)
by_free s i event.Restore a = file_free s i (file_of a)

pub answered_free : (s : State) (w : Waiting) (a : Answer) → NoWait (answered s w a)
unfolding answered
answered_free s w a = by_free s w.instruction w.wait a

-- ---- steps and reads

-- an answer makes no step, or one, and at most one read, where it is one; the states to go back to stay, and as many
-- may be kept
pub record AnswersSo (read : Bool) (s t : State) : Type 0 where
  pub steps : t.steps ≤ s.steps + 1
  pub reads : t.reads ≤ s.reads + 1
  pub undo : t.undo ≡ s.undo
  pub most : t.game.memory.setup.undo_states ≡ s.game.memory.setup.undo_states
  pub same : read ≡ false → t.reads ≡ s.reads

-- so it does where it goes on
abbrev AnswersOn : Bool → State → Step → Type 0
AnswersOn read s x = (t : State) (text : Signals) → x ≡ Goes t text → AnswersSo read s t

-- what an instruction leads to has memory that keeps as many states
abbrev KeepsAsMany : State → Result (GameState × ℕ) Fault → Type 0
KeepsAsMany s r = (x : GameState × ℕ) → r ≡ Ok x → x.0.memory.setup.undo_states ≡ s.game.memory.setup.undo_states

settled_on : (s : State) (due : List ℕ) (r : Result (GameState × ℕ) Fault) → KeepsAsMany s r
    → AnswersOn true s (answer_settled s due r)
settled_on s due r most =
    step_all (AnswersOn true s) _ r (λ x e t text h. so x e t (goes_same _ t no_signals text h))
    (λ f e t text h. absurd cc)
  where
    so : (x : GameState × ℕ) → r ≡ Ok x → (t : State) → record s {
      game = x.0;
      pc = x.1;
      steps = 0;
      reads = s.reads + 1;
      due = due;
    } ≡ t → AnswersSo true s t
    so x e t same =
        let none : 0 ≡ t.steps = ap (λ (u : State). u.steps) same in
        let one : s.reads + 1 ≡ t.reads = ap (λ (u : State). u.reads) same in
        record {
          steps = omega (arith, none);
          reads = omega (arith, one);
          undo = sym (ap (λ (u : State). u.undo) same);
          most = sym (ap (λ (u : State). u.game.memory.setup.undo_states) same) ∙ most x e;
          same = λ k. absurd cc;
        }

goes_on : (s : State) (r : Result (GameState × ℕ) Fault) → KeepsAsMany s r → AnswersOn false s (goes_to s s.undo r)
goes_on s r most = step_all (AnswersOn false s) _ r (λ x e t text h. so x e t (goes_same _ t no_signals text h))
    (λ f e t text h. absurd cc)
  where
    so : (x : GameState × ℕ) → r ≡ Ok x → (t : State) → record s {
      game = x.0;
      pc = x.1;
      steps = s.steps + 1;
      undo = s.undo;
    } ≡ t → AnswersSo false s t
    so x e t same =
        let one : s.steps + 1 ≡ t.steps = ap (λ (u : State). u.steps) same in
        let none : s.reads ≡ t.reads = ap (λ (u : State). u.reads) same in
        record {
          steps = omega (arith, one);
          reads = omega (arith, none);
          undo = sym (ap (λ (u : State). u.undo) same);
          most = sym (ap (λ (u : State). u.game.memory.setup.undo_states) same) ∙ most x e;
          same = λ k. sym none;
        }

result_most : (s : State) (i : Instr) (y : ℕ) (truth : Bool) → KeepsAsMany s (result_answered s.game i y truth)
result_most s i y truth x e = same_most s.game.memory x.0.memory (answers_leave_stories.result s.game i y truth x e)

none_on : (s : State) (i : Instr) (l : Option Limit) → AnswersOn false s (none_restored s i l)
none_on s i None = goes_on s (result_answered s.game i 0 false) (result_most s i 0 false)
none_on s i (Some l) = λ t text h. absurd cc

restored_to_on : (s : State) (i : Instr) (q : Result (MemoryMap × FrameList × ℕ) RestoreError)
    → ((m : MemoryMap) (f : FrameList) (p : ℕ) → q ≡ Ok (m, f, p) → fixed_parts m ≡ fixed_parts s.game.memory)
    → AnswersOn false s (restored_to s i q)
unfolding windows_closed
restored_to_on s i (Ok (m, f, p)) fixed =
    let u : GameState = windows_closed (record s.game { memory = m; frames = f }) in
    goes_on s (back u p) (λ x e. same_most s.game.memory x.0.memory (answers_leave_stories.back u p x e
    ∙ fixed m f p refl))
restored_to_on s i (Err e) fixed = none_on s i (limit_of e)

from_on : (s : State) (i : Instr) (file : Option (List ℕ)) → AnswersOn false s (restored_from s i file)
from_on s i None = none_on s i None
from_on s i (Some file) = restored_to_on s i (restored file s.game.memory s.game.frames)
    (λ m f p e. restored_fixed file s.game.memory m s.game.frames f p e)

by_on : (s : State) (i : Instr) (x : Event) (a : Answer) → AnswersOn (is_read x) s (answered_by s i x a)
by_on s i (event.Line buffer parse) a =
    settled_on s (transcribed s.game (event.Line buffer parse) (codes_of a) (end_of a))
    (line_answered s.game i buffer parse (codes_of a) (end_of a))
    (λ x e. same_most s.game.memory x.0.memory
    (answers_leave_stories.line s.game i buffer parse (codes_of a) (end_of a) x e))
by_on s i event.Char a = settled_on s [] (character_answered s.game i (first_code (codes_of a)))
    (λ x e. same_most s.game.memory x.0.memory (answers_leave_stories.character s.game i (first_code (codes_of a)) x e))
by_on s i event.Save a = goes_on s (result_answered s.game i (truth_word (is_kept a)) (is_kept a))
    (result_most s i (truth_word (is_kept a)) (is_kept a))
by_on s i event.Restore a = from_on s i (file_of a)

pub answered_so : (s t : State) (w : Waiting) (a : Answer) (text : Signals) → answered s w a ≡ Goes t text
    → AnswersSo (is_read w.wait) s t
unfolding answered
answered_so s t w a text h = by_on s w.instruction w.wait a t text h
