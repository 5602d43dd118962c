-- What the limits of a run hold, and that they change nothing else.
use Rattle.std.specs.Prelude.{◌≡◌, ℕ, ◌+◌, ◌≤◌, ◌<◌, true, false, List, [], ◌∷◌, ◌++◌, length, Option, Some, None, Err}
use Rattle.zk_state.specs.declared.refusal.Limit.{Limit}
use Rattle.zk_state.specs.declared.refusal.Limit.TheVariants.{Frames, Words, Steps, Reads}
use Rattle.zk_state.specs.declared.refusal.Refusal.TheVariants as refusal
use Rattle.zk_state.specs.Frames.{bounds_of, frames_of, total_of, within_bounds}
use Rattle.zk_step.specs.declared.state.game_state.View.{View}
use Rattle.zk_step.specs.Laws.{rebounded}
use Rattle.zk_step.specs.Routing.{Signals}
use Rattle.zk_vm.specs.declared.limits.Limits.{Limits}
use Rattle.zk_vm.specs.declared.stop.Stop.{Stop}
use Rattle.zk_vm.specs.declared.stop.Stop.TheVariants.{Limit as LimitAt}
use Rattle.zk_vm.specs.declared.waiting.Waiting.{Waiting}
use Rattle.zk_vm.specs.Answers.{Answer, answered}
use Rattle.zk_vm.specs.Bounds.{AreInRange}
use Rattle.zk_vm.specs.Log.{Entry, Move, after, heard_by, passed, told}
use Rattle.zk_vm.specs.Log.Entry.{At, Stopped}
use Rattle.zk_vm.specs.Log.Move.{Gets, Goes}
use Rattle.zk_vm.specs.Sessions.{Session, begun}
use Rattle.zk_vm.specs.Step.{State, Step, is_past_reads, most_reads, step}
use Rattle.zk_vm.specs.Step.Step.{Goes as GoesTo, Waits, Exceeds}

-- ---- limits are kept

-- no more frames and words than the limits say, no more steps since the last answered read, no more reads, and no more
-- states to go back to
pub record IsWithin (l : Limits) (s : State) : Type 0 where
  pub frames : length (frames_of s.game.frames) ≤ l.frames
  pub words : total_of s.game.frames ≤ l.words
  pub steps : s.steps ≤ l.steps
  pub reads : s.reads ≤ most_reads
  pub undo : length s.undo ≤ l.undo

-- where a machine waits, there may be one more read, if it waits for one, and one more step
abbrev pub MayAnswer : Option Waiting → Session → Type 0
MayAnswer None s = Unit {0}
MayAnswer (Some w) s = (is_past_reads s.state.reads w.wait ≡ false) × (s.state.steps < s.limits.steps)

-- a machine's state is within its limits, and made for them
pub record KeepsLimits (s : Session) : Type 0 where
  pub bounds : bounds_of s.state.game.frames ≡ (s.limits.frames, s.limits.words)
  pub most : s.state.game.memory.setup.undo_states ≡ s.limits.undo
  pub within : IsWithin s.limits s.state
  pub waits : MayAnswer s.waiting s

-- so is that of each machine at its start, and it stays so after any moves, as long as it runs: whatever answers it
-- gets, lines, characters or bytes to restore. Each step is one move, so it is in each state that a run passes.
pub record RunsStayWithin : Type 0 where
  pub begins : (story : List ℕ) (seed : ℕ) (l : Limits) (view : View) → AreInRange l
      → KeepsLimits (begun story seed l view)
  pub stays : (ms : List Move) (s : Session) → KeepsLimits s → (after ms s).stopped ≡ None → KeepsLimits (after ms s)

-- ---- limits change nothing else

-- a stop that is not the limit on steps
abbrev pub IsNoStepStop : Stop → Type 0
IsNoStepStop (LimitAt a Steps) = ⊥
IsNoStepStop _ = Unit {0}

-- a machine with so many steps more as its limit
abbrev pub with_more_steps : ℕ → Session → Session
with_more_steps k s = record s { limits = record s.limits { steps = s.limits.steps + k } }

-- a machine that does not stop by the limit on steps does the same under any greater one
abbrev pub StepLimitOnlyCuts : Type 0
StepLimitOnlyCuts =
    (k : ℕ) (ms : List Move) (s : Session) → ((stop : Stop) → (after ms s).stopped ≡ Some stop → IsNoStepStop stop)
    → (passed ms (with_more_steps k s) ≡ passed ms s)
    × (after ms (with_more_steps k s) ≡ with_more_steps k (after ms s))

-- a stop that is not the limit on frames or words
abbrev pub IsNoFrameStop : Stop → Type 0
IsNoFrameStop (LimitAt a Frames) = ⊥
IsNoFrameStop (LimitAt a Words) = ⊥
IsNoFrameStop _ = Unit {0}

-- the state with other bounds on frames and words
abbrev pub state_in : ℕ → ℕ → State → State
state_in f w s = record s { game = rebounded f w s.game }

-- a machine with other limits on frames and words
abbrev pub session_in : ℕ → ℕ → Session → Session
session_in f w s = record s { state = state_in f w s.state; limits = record s.limits { frames = f; words = w } }

-- a machine that stops by neither of these two does the same under any greater ones
abbrev pub FrameLimitsOnlyCut : Type 0
FrameLimitsOnlyCut = (f w : ℕ) (ms : List Move) (s : Session) → s.state.game.frames.most_frames ≤ f
    → s.state.game.frames.most_words ≤ w
    → ((stop : Stop) → (after ms s).stopped ≡ Some stop → IsNoFrameStop stop)
    → (passed ms (session_in f w s) ≡ passed ms s) × (after ms (session_in f w s) ≡ session_in f w (after ms s))

-- ---- limits cut

-- what a step or an answer leads to passes a limit: too many frames or words, too many in a file that it restores, or
-- one read too many
abbrev pub Passes : Limit → State → Step → Type 0
Passes l old (GoesTo s text) = within_bounds s.game.frames ≡ Err (refusal.Limit l)
Passes l old (Waits s waiting text) = (l ≡ Reads) × (is_past_reads old.reads waiting.wait ≡ true)
Passes l old (Exceeds limit) = l ≡ limit
Passes l old _ = ⊥

-- the last that is told of an instruction that stops: its address, or what is left of its text
abbrev pub last_told : Option Signals → ℕ → List Entry
last_told None pc = At pc ∷ []
last_told (Some t) pc = told t

-- how a machine stops by a limit, where some moves have led it: at the step that is one too many, at a step that passes
-- a limit, or at the instruction whose answer does. It shows nothing of that step, but what may be left of its text,
-- and then nothing passes any more.
pub record LimitsCut (ms : List Move) (s : Session) : Type 0 where
  pub steps : (more : List Move) → (after ms s).waiting ≡ None → (after ms s).state.due ≡ []
      → (after ms s).limits.steps ≤ (after ms s).state.steps
      → passed (ms ++ Goes ∷ more) s ≡ passed ms s ++ Stopped (LimitAt (after ms s).state.pc Steps) ∷ []
  pub step : (more : List Move) (l : Limit) → (after ms s).waiting ≡ None → (after ms s).state.due ≡ []
      → (after ms s).state.steps < (after ms s).limits.steps
      → Passes l (after ms s).state (step (after ms s).state)
      → passed (ms ++ Goes ∷ more) s ≡ passed ms s ++ (last_told (after ms s).left (after ms s).state.pc
      ++ Stopped (LimitAt (after ms s).state.pc l) ∷ [])
  pub answer : (a : Answer) (more : List Move) (w : Waiting) (l : Limit) → (after ms s).waiting ≡ Some w
      → Passes l (after ms s).state (answered (after ms s).state w a)
      → passed (ms ++ Gets a ∷ more) s ≡ passed ms s ++ heard_by (after ms s) w.wait a
      ∷ Stopped (LimitAt (after ms s).state.pc l) ∷ []

-- so it is after any moves, where the machine still runs
abbrev pub LimitsCutRuns : Type 0
LimitsCutRuns = (ms : List Move) (s : Session) → (after ms s).stopped ≡ None → LimitsCut ms s
