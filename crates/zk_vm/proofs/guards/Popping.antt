-- Taking operands takes words from the current routine's stack, and changes nothing else; nor does what is shown before
-- a read change frames and memory.
use Rattle.std.specs.Prelude.{if◌then◌else◌, ◌==◌}
use Rattle.std.proofs.Common.{◌≡◌, ◌∙◌, ℕ, ◌-◌, ◌≤◌, List, [], ◌∷◌, ◌++◌, length, Ok, refl, arith, nat_lt, Bool, true}
use Rattle.std.proofs.Common.{false}
use Rattle.std.proofs.lemmas.List.{length-take}
use Rattle.zk_state.specs.Frames.{FrameList, bounds_of, frames_of, popped, sizes_of, total_of}
use Rattle.zk_code.specs.declared.operands.Operand.{Operand}
use Rattle.zk_code.specs.declared.operands.Operand.TheVariants.{Large, Small, Variable}
use Rattle.zk_step.specs.declared.state.ending.Event.{Event}
use Rattle.zk_step.specs.declared.state.game_state.View.{View}
use Rattle.zk_step.specs.declared.state.game_state.View.TheVariants as view
use Rattle.zk_step.specs.declared.state.game_state.GameState.{GameState}
use Rattle.zk_step.specs.Routing.{Signals, no_signals}
use Rattle.zk_step.specs.Variables.{named_read, operand_read, operands_read, variable_read, with_frames}
use Rattle.zk_step.proofs.FixedParts.{Leaves, gives, fails, leaves_then, leaves_after, leaves_if, value_left}
use Rattle.zk_vm.specs.Step.{is_read, view_before}
use Rattle.zk_step.specs.View.{lines_shown, rows_shown, status_text, viewed, viewed_by}

-- the memory and the frames are the same, but for words that were taken
pub record Pops (w v : GameState) : Type 0 where
  pub memory : v.memory ≡ w.memory
  pub bounds : bounds_of v.frames ≡ bounds_of w.frames
  pub frames : length (frames_of v.frames) ≤ length (frames_of w.frames)
  pub words : total_of v.frames ≤ total_of w.frames

abbrev PopsTo : {A : Type 0} → GameState → GameState × A → Type 0
PopsTo w r = Pops w r.0

pops_none : (w : GameState) → Pops w w
pops_none w = record { memory = refl; bounds = refl; frames = omega arith; words = omega arith }

pub pops_twice : (u v w : GameState) → Pops u v → Pops v w → Pops u w
pops_twice u v w h k =
    record {
      memory = k.memory ∙ h.memory;
      bounds = k.bounds ∙ h.bounds;
      frames = omega (arith, h.frames, k.frames);
      words = omega (arith, h.words, k.words);
    }

popped_pops : (w : GameState) → Leaves (λ (r : FrameList × ℕ). Pops w (with_frames w r.0)) (popped w.frames)
unfolding popped bounds_of sizes_of
popped_pops w =
    let ws = w.frames.current.words in
    let fewer = length-take (length ws - 1) ws in
    leaves_if (nat_lt 0 (length ws))
    (gives (record { memory = refl; bounds = refl; frames = omega arith; words = omega (arith, fewer) })) fails

variable_pops : (w : GameState) (v : ℕ) → Leaves (PopsTo w) (variable_read w v)
unfolding variable_read
variable_pops w v = leaves_if (v == 0) (leaves_then (popped w.frames) _ (popped_pops w) (λ r p. gives p))
    (leaves_after (named_read w v) _ (λ x. gives (pops_none w)))

operand_pops : (w : GameState) (o : Operand) → Leaves (PopsTo w) (operand_read w o)
unfolding operand_read
operand_pops w (Large x) = gives (pops_none w)
operand_pops w (Small x) = gives (pops_none w)
operand_pops w (Variable v) = variable_pops w v

operands_pop : (w : GameState) (os : List Operand) → Leaves (PopsTo w) (operands_read w os)
unfolding operands_read
operands_pop w [] = gives (pops_none w)
operands_pop w (o ∷ os) =
    leaves_then (operand_read w o) _ (operand_pops w o)
    (λ r p. leaves_then (operands_read r.0 os) _ (operands_pop r.0 os) (λ q k. gives (pops_twice w r.0 q.0 p k)))

pub taken_pops : (w v : GameState) (os : List Operand) (vs : List ℕ) → operands_read w os ≡ Ok (v, vs) → Pops w v
taken_pops w v os vs h = value_left (operands_read w os) (v, vs) (operands_pop w os) h

-- ---- what is shown before a read

lines_pop : (w : GameState) (cs : List ℕ) → Pops w (lines_shown w cs).0
unfolding lines_shown
lines_pop w [] = pops_none w
lines_pop w (c ∷ cs) = record { memory = refl; bounds = refl; frames = omega arith; words = omega arith }

viewed_pops_by : (v : View) (w : GameState) → Leaves (PopsTo w) (viewed_by v w)
viewed_pops_by view.Plain w = gives (pops_none w)
viewed_pops_by view.Upper w =
    leaves_after (status_text w.memory) _
    (λ status. gives (lines_pop w (status ++ rows_shown w.windows 1 w.windows.height)))

viewed_pops : (w : GameState) → Leaves (PopsTo w) (viewed w)
unfolding viewed
viewed_pops w = viewed_pops_by w.view w

before_pops : (event : Event) (w : GameState) → Leaves (PopsTo w) (view_before event w)
before_pops event w = go (is_read event)
  where
    go : (b : Bool) → Leaves (PopsTo w) (if b then viewed w else Ok (w, no_signals))
    go true = viewed_pops w
    go false = gives (pops_none w)

pub shown_pops : (x : Event) (w v : GameState) (t : Signals) → view_before x w ≡ Ok (v, t) → Pops w v
shown_pops x w v t h = value_left (view_before x w) (v, t) (before_pops x w) h
