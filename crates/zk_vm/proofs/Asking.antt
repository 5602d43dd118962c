-- Instructions that ask something of the machine: their operands were taken, and nothing else has changed.
use Rattle.std.proofs.Common.{◌≡◌, ℕ, List, Result, Ok, Err, refl, ap, sym, ◌∙◌, subst}
use Rattle.zk_mem.specs.declared.fault.Fault.{Fault}
use Rattle.zk_mem.specs.Map.{MemoryMap}
use Rattle.zk_code.specs.declared.instr.Instr.{Instr}
use Rattle.zk_step.specs.declared.state.ending.Effect.{Effect}
use Rattle.zk_step.specs.declared.state.ending.Ending.TheVariants as ending
use Rattle.zk_step.specs.declared.state.ending.Next.{Next}
use Rattle.zk_step.specs.declared.state.ending.Next.TheVariants.{Asks}
use Rattle.zk_step.specs.declared.state.ending.Request.{Request}
use Rattle.zk_step.specs.declared.state.ending.Output.{Output}
use Rattle.zk_step.specs.declared.state.ending.Output.TheVariants.{Nothing}
use Rattle.zk_step.specs.declared.state.game_state.GameState.{GameState}
use Rattle.zk_mem.specs.Results.{◌>>=◌}
use Rattle.zk_step.specs.Effects.{effect_by, effect_of}
use Rattle.zk_step.specs.Instructions.{carried_out}
use Rattle.zk_step.specs.Finish.{finished}
use Rattle.zk_step.specs.Routing.{Signals, no_signals, routed}
use Rattle.zk_step.specs.Variables.{operands_read}
use Rattle.zk_step.proofs.FixedParts.{Leaves, gives, fails, value_left}
use Rattle.zk_step.proofs.Ends.{ends_as}
use Rattle.zk_step.proofs.Behaviours.{IsPause, PausesSo, pauses_by}
use Rattle.zk_step.proofs.Sweep.{effect_behaviour, effects_end}
use Rattle.zk_step.specs.Laws.{AsksBy, EndsBy}

leaves_with : {A B : Type 0} {Q : B → Type 0} (r : Result A Fault) (k : A → Result B Fault)
    → ((x : A) → r ≡ Ok x → Leaves Q (k x)) → Leaves Q (r >>= k)
leaves_with {A} {B} {Q} (Ok x) k c = c x refl
leaves_with {A} {B} {Q} (Err e) k c = fails

-- ---- what is led to

pair_is : {A B : Type 0} (a c : A) (b d : B) → ◌≡◌ {A = Result (A × B) Fault} (Ok (a, b)) (Ok (c, d))
    → (a ≡ c) × (b ≡ d)
pair_is {A} {B} a c b d h =
    let pair : ◌≡◌ {A = A × B} (a, b) (c, d) = cc in
    (ap (λ (q : A × B). q.0) pair, ap (λ (q : A × B). q.1) pair)

pause_same : (w v : GameState) (i : Instr) (vs : List ℕ) (x : Request) (n : Next)
    → finished w i vs (ending.Asks x) ≡ Ok (v, n) → v ≡ w
unfolding finished
pause_same w v i vs x n h = sym (pair_is w v (Asks x) n h).0

silent_route : (m : MemoryMap) (w : GameState) (o : Output) (r : GameState × Signals) → o ≡ Nothing
    → routed m w o ≡ Ok r → (r.0 ≡ w) × (r.1 ≡ no_signals)
unfolding routed
silent_route m w o r silent h =
    let same = pair_is w r.0 no_signals r.1 (sym (ap (routed m w) silent) ∙ h) in
    (sym same.0, sym same.1)

-- an instruction has asked something of the machine: these values were taken, which is all that has changed, and it is
-- of its opcode
pub record HasAsked (w v : GameState) (i : Instr) (x : Request) (t : Signals) : Type 0 where
  pub values : List ℕ
  pub operands : operands_read w i.operands ≡ Ok (v, values)
  pub quiet : t ≡ no_signals
  pub by : AsksBy i.opcode x

-- by its effect, its route and its end
asked_by : (w u : GameState) (i : Instr) (vs : List ℕ) (e : GameState × Effect) (r : GameState × Signals)
    (v : GameState) (x : Request) → operands_read w i.operands ≡ Ok (u, vs) → (IsPause e.1.ending → PausesSo u e)
    → EndsBy i.opcode vs e.1.ending
    → routed w.memory e.0 e.1.output ≡ Ok r → finished r.0 i vs e.1.ending ≡ Ok (v, Asks x) → HasAsked w v i x r.1
asked_by w u i vs e r v x taken so by route finish =
    let how : e.1.ending ≡ ending.Asks x = ends_as r.0 i vs e.1.ending v (Asks x) finish in
    let is = so (subst IsPause (sym how) tt) in
    let silent = silent_route w.memory e.0 e.1.output r is.silent route in
    let same : v ≡ u = pause_same r.0 v i vs x (Asks x) (sym (ap (finished r.0 i vs) how) ∙ finish) ∙ silent.0
    ∙ is.same in
    record {
      values = vs;
      operands = subst (λ (z : GameState). operands_read w i.operands ≡ Ok (z, vs)) (sym same) taken;
      quiet = silent.1;
      by = subst (EndsBy i.opcode vs) how by;
    }

-- what an instruction has asked, if it has
abbrev AsksSo : GameState → Instr → GameState × (Next × Signals) → Type 0
AsksSo w i r = (x : Request) → r.1.0 ≡ Asks x → HasAsked w r.0 i x r.1.1

carried_asks : (w : GameState) (i : Instr) → Leaves (AsksSo w i) (carried_out w i)
unfolding carried_out effect_of
carried_asks w i =
    leaves_with (operands_read w i.operands) _ (λ vs taken. leaves_with (effect_by i.opcode vs.0 i.text vs.1) _
    (λ e made. leaves_with (routed w.memory e.0 e.1.output) _ (λ r route. leaves_with (finished r.0 i vs.1 e.1.ending) _
    (λ n finish. gives (λ x is. asked_by w vs.0 i vs.1 e r n.0 x taken
    (pauses_by (effect_behaviour i.opcode vs.0 i.text vs.1 e made)) (effects_end vs.0 i vs.1 e made) route
    (asks_is n x is finish))))))
  where
    asks_is : {r : Result (GameState × Next) Fault} (n : GameState × Next) (x : Request) → n.1 ≡ Asks x → r ≡ Ok n
        → r ≡ Ok (n.0, Asks x)
    asks_is {r} n x is h = h ∙ ap (λ (m : Next). let p : GameState × Next = (n.0, m) in Ok p) is

pub asks : (w : GameState) (i : Instr) (v : GameState) (x : Request) (t : Signals)
    → carried_out w i ≡ Ok (v, (Asks x, t)) → HasAsked w v i x t
asks w i v x t h = value_left (carried_out w i) (v, (Asks x, t)) (carried_asks w i) h x refl
