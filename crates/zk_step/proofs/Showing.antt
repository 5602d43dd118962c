-- What is shown of an instruction.
use Rattle.std.proofs.Common.{◌≡◌, ◌∙◌, ℕ, List, [], Result, Ok, Err, IsOk, ◌⊎◌, inl, inr, refl, ap, sym, subst, rules}
use Rattle.zk_mem.specs.declared.fault.Fault.{Fault}
use Rattle.zk_mem.specs.Map.{MemoryMap}
use Rattle.zk_state.specs.declared.refusal.Refusal.{Refusal}
use Rattle.zk_state.specs.declared.refusal.Refusal.TheVariants as refusal
use Rattle.zk_step.specs.declared.state.ending.Ending.{Ending}
use Rattle.zk_step.specs.declared.state.ending.Ending.TheVariants as ending
use Rattle.zk_code.specs.declared.instr.Instr.{Instr}
use Rattle.zk_step.specs.declared.state.ending.Effect.{Effect}
use Rattle.zk_step.specs.declared.state.ending.Next.{Next}
use Rattle.zk_step.specs.declared.state.ending.Next.TheVariants.{At, Asks}
use Rattle.zk_step.specs.declared.state.ending.Output.{Output}
use Rattle.zk_step.specs.declared.state.ending.Output.TheVariants.{Nothing, Code, Character, Number, Text, Line, Rows}
use Rattle.zk_step.specs.declared.state.ending.Output.TheVariants.{Status, Erasure, Bleep}
use Rattle.zk_step.specs.declared.state.game_state.GameState.{GameState}
use Rattle.zk_step.specs.Finish.{finished}
use Rattle.zk_step.specs.Instructions.{carried_out, HasBegun}
use Rattle.zk_step.specs.Limited.{limited_next, limited_move, text_in}
use Rattle.zk_step.specs.Printing.{IsPlainEnd, IsPrintable}
use Rattle.zk_step.specs.Routing.{Signals, no_signals, routed, text_routed}
use Rattle.zk_step.proofs.Steps.{finish_refused, route_refused}
use Rattle.zk_step.specs.Silence.{IsQuiet}
use Rattle.zk_step.specs.Routes.{finished_after}
use Rattle.zk_step.proofs.Ends.{ends_as, prints_nothing}
use Rattle.zk_step.proofs.WithinBounds.{next_is}

-- an instruction that is not refused shows its texts
pub told : (r : Result (GameState × (Next × Signals)) Refusal) (w : GameState) (n : Next) (t : Signals)
    → r ≡ Ok (w, (n, t)) → r ≡ Ok (w, (n, text_in r))
told r w n t h = let same : text_in r ≡ t = ap text_in h in rw same h

pub shown_text : (r : Result (GameState × (Next × Signals)) Refusal) (w : GameState) (n : Next) (t : Signals)
    → r ≡ Ok (w, (n, t)) → text_in r ≡ t
shown_text r w n t h = ap text_in h

-- one that is refused shows nothing
pub refused_text : (r : Result (GameState × (Next × Signals)) Refusal) (e : Refusal) → r ≡ Err e
    → text_in r ≡ no_signals
refused_text r e h = ap text_in h

-- memory stands as the instruction found it, or nothing is printed
pub printable_after : (before after : MemoryMap) (o : Output) (e : Ending) → IsPrintable before after o e
    → IsPrintable after after o e
printable_after before after Nothing e h = tt
printable_after before after (Code c) e h = (refl, tt, h.2)
printable_after before after (Character c) e h = (refl, tt, h.2)
printable_after before after (Number x) e h = (refl, tt, h.2)
printable_after before after (Text a) e h = (refl, rw h.0 h.1, h.2)
printable_after before after (Line a) e h = (refl, rw h.0 h.1, h.2)
printable_after before after (Rows r) e h = (refl, rw h.0 h.1, h.2)
printable_after before after Status e h = (refl, rw h.0 h.1, h.2)
printable_after before after Erasure e h = (refl, tt, h.2)
printable_after before after (Bleep b) e h = (refl, tt, h.2)

-- so its route is the same
pub same_route : (before after : MemoryMap) (w : GameState) (o : Output) (e : Ending)
    → IsPrintable before after o e → routed before w o ≡ routed after w o
unfolding routed
same_route before after w Nothing e h = refl
same_route before after w (Code c) e h = ap (λ (m : MemoryMap). routed m w (Code c)) (sym h.0)
same_route before after w (Character c) e h = ap (λ (m : MemoryMap). routed m w (Character c)) (sym h.0)
same_route before after w (Number x) e h = ap (λ (m : MemoryMap). routed m w (Number x)) (sym h.0)
same_route before after w (Text a) e h = ap (λ (m : MemoryMap). routed m w (Text a)) (sym h.0)
same_route before after w (Line a) e h = ap (λ (m : MemoryMap). routed m w (Line a)) (sym h.0)
same_route before after w (Rows r) e h = ap (λ (m : MemoryMap). routed m w (Rows r)) (sym h.0)
same_route before after w Status e h = ap (λ (m : MemoryMap). routed m w Status) (sym h.0)
same_route before after w Erasure e h = refl
same_route before after w (Bleep b) e h = refl

-- an instruction that has begun is refused as its route and its finish are
pub stopped_there : (w : GameState) (i : Instr) (vs : List ℕ) (w2 : GameState) (e : Effect) (r : Refusal)
    → HasBegun w i w2 vs e → limited_next (finished_after (routed w.memory w2 e.output) i vs e.ending) ≡ Err r
    → limited_move (carried_out w i) ≡ Err r
stopped_there w i vs w2 e r begun h = go (routed w.memory w2 e.output) refl h
  where
    go : (q : Result (GameState × Signals) Fault) → routed w.memory w2 e.output ≡ q
        → limited_next (finished_after q i vs e.ending) ≡ Err r → limited_move (carried_out w i) ≡ Err r
    go (Ok (w3, t)) is k = finish_refused w i vs w2 e w3 t r begun is k
    go (Err f) is k = let same : refusal.Fault f ≡ r = cc in route_refused w i vs w2 e f begun is ∙ ap Err same

-- an instruction that is refused has shown nothing
pub shown_nothing : {S : Type 0} (shows : S → S → Signals → Type 0) (t : Signals)
    (r : Result (GameState × Next) Refusal) (e : Refusal) (a b : S)
    → (t ≡ no_signals) ⊎ IsOk r → r ≡ Err e → shows a b t → shows a b []
shown_nothing {S} shows t r e a b (inl none) h k = rw none at k
shown_nothing {S} shows t r e a b (inr ok) h k = let never = rw h at ok in absurd (search rules)

-- an instruction that asks something of the machine shows nothing
silent : (m : MemoryMap) (w : GameState) (o : Output) → o ≡ Nothing → text_routed (routed m w o) ≡ no_signals
unfolding routed
silent m w o h = rw h refl

quiet_by : (m : MemoryMap) (w : GameState) (before after : MemoryMap) (e : Effect) (end : Ending) → e.ending ≡ end
    → (IsPlainEnd end → ⊥) → IsPrintable before after e.output e.ending → text_routed (routed m w e.output) ≡ no_signals
quiet_by m w before after e end is other ready =
    silent m w e.output (prints_nothing before after e.output e.ending
    (λ plain. other (subst IsPlainEnd is plain)) ready)

pub quiet_asked : (w : GameState) (i : Instr) (vs : List ℕ) (e : Effect) (v : GameState) (n : Next)
    (found : MemoryMap) (u : GameState) (before after : MemoryMap) → IsPrintable before after e.output e.ending
    → limited_next (finished w i vs e.ending) ≡ Ok (v, n) → IsQuiet n (text_routed (routed found u e.output))
quiet_asked w i vs e v (At pc) found u before after ready h = tt
quiet_asked w i vs e v (Asks x) found u before after ready h =
    quiet_by found u before after e (ending.Asks x) (ends_as w i vs e.ending v (Asks x) (next_is _ (v, Asks x) h))
    (λ plain. plain) ready
