-- The text of an instruction that is still to come.
use Rattle.std.proofs.Common.{◌≡◌, ◌∙◌, ◌⊎◌, inl, inr, ℕ, Bool, true, false, List, [], ◌∷◌, Option, Some, None, Result}
use Rattle.std.proofs.Common.{Ok, Err, IsOk, MatchResult, refl, ap, sym, arith, ◌+◌, length}
use Rattle.std.proofs.lemmas.List.{drop_all, take_all}
use Rattle.std.specs.Prelude.{◌==◌, if◌then◌else◌}
use Rattle.zk_mem.specs.declared.fault.Fault.{Fault}
use Rattle.zk_mem.specs.Results.{◌>>=◌}
use Rattle.zk_text.specs.Extra.{own_characters}
use Rattle.zk_text.specs.Shown.{shown_all}
use Rattle.zk_code.specs.declared.instr.Instr.{Instr}
use Rattle.zk_code.specs.declared.operands.Operand.{Operand}
use Rattle.zk_code.specs.declared.operands.Operand.TheVariants.{Large, Small, Variable}
use Rattle.zk_state.specs.declared.refusal.Refusal.{Refusal}
use Rattle.zk_state.specs.Frames.{FrameList, with_word}
use Rattle.zk_text.specs.declared.unit.Unit.{Unit}
use Rattle.zk_term.specs.Windows.{Windows}
use Rattle.zk_term.specs.declared.windows.Window.{Window}
use Rattle.zk_term.specs.declared.windows.Window.TheVariants.{Lower, Upper}
use Rattle.zk_step.specs.declared.instruction.Progress.{Progress}
use Rattle.zk_step.specs.declared.instruction.Progress.TheVariants.{Done, Part}
use Rattle.zk_step.specs.declared.output.parts.Half.{Half}
use Rattle.zk_step.specs.declared.output.parts.Rest.{Rest}
use Rattle.zk_step.specs.declared.output.streams.OpenTable.{OpenTable}
use Rattle.zk_step.specs.declared.state.ending.Effect.{Effect}
use Rattle.zk_step.specs.declared.state.ending.Next.{Next}
use Rattle.zk_step.specs.declared.state.ending.Output.{Output}
use Rattle.zk_step.specs.declared.state.game_state.GameState.{GameState}
use Rattle.zk_step.specs.Finish.{finished}
use Rattle.zk_step.specs.Halves.{IsOnWay, ShowsSome, given_back, rest_text, rest_text_by, rest_units, streamed_text}
use Rattle.zk_step.specs.Halves.{text_then, whole_of}
use Rattle.zk_step.specs.Instructions.{HasBegun, carried_out}
use Rattle.zk_step.specs.Limited.{limited_move, limited_next, text_in}
use Rattle.zk_step.specs.Printing.{characters_of, units_of}
use Rattle.zk_step.specs.Routing.{Signals, ends_line, no_signals, routed, routed_by, routed_to, shown_if, streamed}
use Rattle.zk_step.specs.Routing.{stored_all, table_filled, upper_printed}
use Rattle.zk_step.specs.Streams.{newest_of}
use Rattle.zk_step.specs.Variables.{operands_read, with_frames}
use Rattle.zk_step.proofs.GivingBack.{operand_back, takes_first}
use Rattle.zk_step.proofs.HalfStarts.{whole_units}
use Rattle.zk_step.proofs.Showing.{refused_text, shown_text}
use Rattle.zk_step.proofs.Steps.{carried_ok, finish_refused, route_refused}

-- ---- operands change nothing of it

same_frames : (a : Option OpenTable) (b : Window) (t : GameState) (f : FrameList) (us : List Unit)
    → rest_text_by a b t us ≡ rest_text_by a b (with_frames t f) us
same_frames None Lower t f us = refl
same_frames None Upper t f us = refl
same_frames (Some x) b t f us = refl

same_by : (v : ℕ) (t : GameState) (x : Rest) (b : Bool) → rest_text t x ≡ rest_text
    (if b then with_frames t (with_word t.frames v) else t) x
same_by v t x true =
    same_frames (newest_of t.streams.tables) t.windows.selected t (with_word t.frames v) (rest_units t.memory x)
same_by v t x false = refl

same_one : (o : Operand) (v : ℕ) (t : GameState) (x : Rest) → rest_text t x ≡ rest_text (given_back o v t) x
same_one (Large n) v t x = refl
same_one (Small n) v t x = refl
same_one (Variable n) v t x = same_by v t x (n == 0)

pub same_rest : (os : List Operand) (w t : GameState) (vs : List ℕ) (x : Rest) → operands_read w os ≡ Ok (t, vs)
    → rest_text t x ≡ rest_text w x
unfolding operands_read
same_rest [] w t vs x h =
    let same : ◌≡◌ {A = GameState × List ℕ} (w, []) (t, vs) = cc in
    ap (λ (q : GameState × List ℕ). rest_text q.0 x) (sym same)
same_rest (o ∷ os) w t vs x h =
    let p = takes_first w t o os vs h in
    same_rest os p.mid t p.values x p.others ∙ same_one o p.value p.mid x ∙ ap (λ (g : GameState). rest_text g x)
    (operand_back w p.mid o p.value p.first).0

-- ---- at first it is all of the text

-- an instruction shows the text of its route, unless it is refused: then there is none
text_by : (found : GameState) (i : Instr) (vs : List ℕ) (w : GameState) (e : Effect) (w3 : GameState) (t : Signals)
    (r : Result (GameState × Next) Refusal) → HasBegun found i w vs e → routed found.memory w e.output ≡ Ok (w3, t)
    → limited_next (finished w3 i vs e.ending) ≡ r → (t ≡ no_signals) ⊎ IsOk r
    → text_in (limited_move (carried_out found i)) ≡ t
text_by found i vs w e w3 t (Ok (w4, n)) begun route end sure =
    shown_text _ _ _ _ (carried_ok found i vs w e w3 t w4 n begun route end)
text_by found i vs w e w3 t (Err r) begun route end (inl none) =
    refused_text _ r (finish_refused found i vs w e w3 t r begun route end) ∙ sym none
text_by found i vs w e w3 t (Err r) begun route end (inr ok) = absurd cc

silent_by : (found : GameState) (i : Instr) (vs : List ℕ) (w : GameState) (e : Effect)
    (r : Result GameState Fault) → HasBegun found i w vs e
    → routed found.memory w e.output ≡ (r >>= λ v. let x : GameState × Signals = (v, no_signals) in Ok x)
    → no_signals ≡ text_in (limited_move (carried_out found i))
silent_by found i vs w e (Ok v) begun route =
    sym (text_by found i vs w e v no_signals (limited_next (finished v i vs e.ending)) begun route refl (inl refl))
silent_by found i vs w e (Err f) begun route = sym (refused_text _ _ (route_refused found i vs w e f begun route))

screen_text : (w : GameState) (o : Output) (x : Rest) → whole_of o ≡ Some x
    → streamed_text w (shown_all (own_characters w.memory) (rest_units w.memory x))
    ≡ (streamed w.memory w (characters_of w.memory o)).1
unfolding characters_of
screen_text w o x e = rw (whole_units w.memory o x e) refl

pub text_whole : (found : GameState) (i : Instr) (vs : List ℕ) (w : GameState) (e : Effect) (x : Rest)
    (codes : List ℕ) (draft : Windows) (h : Half) (t : Option OpenTable) (window : Window)
    → newest_of w.streams.tables ≡ t → w.windows.selected ≡ window → h.effect ≡ e → whole_of e.output ≡ Some x
    → HasBegun found i w vs e
    → routed found.memory w e.output ≡ routed_by (newest_of w.streams.tables) w.memory w e.output
    → IsOnWay t window w i vs codes draft h → rest_text_by t window w (rest_units w.memory x) ≡ text_in
    (limited_move (carried_out found i))
text_whole found i vs w e x codes draft h (Some t) window newest is same whole begun route way =
    silent_by found i vs w e (table_filled w t (stored_all (own_characters w.memory) (units_of w.memory e.output)))
    begun (route ∙ ap (λ (y : Option OpenTable). routed_by y w.memory w e.output) newest)
text_whole found i vs w e x codes draft h None Upper newest is same whole begun route way =
    silent_by found i vs w e
    (Ok (record w { windows = upper_printed w.streams.screen w.memory e.output w.windows })) begun
    (route ∙ ap (λ (y : Option OpenTable). routed_by y w.memory w e.output) newest
    ∙ ap (λ (y : Window). routed_to y w.memory w e.output) is)
text_whole found i vs w e x codes draft h None Lower newest is same whole begun route way =
    let r = streamed w.memory w (characters_of w.memory e.output) in
    screen_text w e.output x whole
    ∙ sym (text_by found i vs w e r.0 r.1 (limited_next (finished r.0 i vs e.ending)) begun
    (route ∙ ap (λ (y : Option OpenTable). routed_by y w.memory w e.output) newest
    ∙ ap (λ (y : Window). routed_to y w.memory w e.output) is)
    refl (inr
    (rw same at (way.1 (ends_line w.at_line_start (shown_if w.streams.screen (characters_of w.memory e.output)))))))

-- ---- texts that are shown

pub shows_all : {S : Type 0} (shows : S → S → Signals → Type 0) (a b : S) (t : Signals)
    → shows a b t → ShowsSome shows a b t no_signals
shows_all {S} shows a b t h =
    record {
      count = length t;
      shown = rw (take_all (length t) t (omega arith)) h;
      is = sym (drop_all (length t) t (omega arith));
    }

pub ok_weaker : {T E : Type 0} (r : Result T E) (P Q : T → Type 0) (R : E → Type 0) → ((x : T) → P x → Q x)
    → MatchResult r P R → MatchResult r Q R
ok_weaker {T} {E} (Ok x) P Q R f h = f x h
ok_weaker {T} {E} (Err e) P Q R f h = h

-- texts of the game state whose operands were taken are those of the one that was found
pub shows_then : {S : Type 0} (shows : S → S → Signals → Type 0) (a b : S) (os : List Operand)
    (found w : GameState) (vs : List ℕ) (due due' : Signals) (p : Progress) → operands_read found os ≡ Ok (w, vs)
    → due ≡ due' → ShowsSome shows a b due (text_then w p) → ShowsSome shows a b due' (text_then found p)
shows_then {S} shows a b os found w vs due due' (Done n) taken same h = rw same at h
shows_then {S} shows a b os found w vs due due' (Part x) taken same h =
    rw (same, same_rest os found w vs x.rest taken) at h
