-- An instruction is finished, or in the middle of what it prints.
use Rattle.std.proofs.Common.{◌≡◌, ℕ, Bool, true, false, List, [], Option, Some, None, Ok, refl, subst}
use Rattle.zk_text.specs.Shown.{shown_all}
use Rattle.zk_code.specs.declared.instr.Instr.{Instr}
use Rattle.zk_term.specs.declared.windows.Window.{Window}
use Rattle.zk_term.specs.declared.windows.Window.TheVariants.{Lower, Upper}
use Rattle.zk_step.specs.declared.output.parts.Rest.{Rest}
use Rattle.zk_step.specs.declared.output.streams.OpenTable.{OpenTable}
use Rattle.zk_step.specs.declared.state.ending.Effect.{Effect}
use Rattle.zk_step.specs.declared.state.ending.Ending.{Ending}
use Rattle.zk_step.specs.declared.state.ending.Next.{Next}
use Rattle.zk_step.specs.declared.state.ending.Next.TheVariants.{At, Asks}
use Rattle.zk_step.specs.declared.state.ending.Output.{Output}
use Rattle.zk_step.specs.declared.state.ending.Output.TheVariants.{Nothing, Status, Code, Character, Number, Text, Line}
use Rattle.zk_step.specs.declared.state.ending.Output.TheVariants.{Rows, Erasure, Bleep}
use Rattle.zk_step.specs.declared.state.game_state.GameState.{GameState}
use Rattle.zk_step.specs.Effects.{effect_of}
use Rattle.zk_step.specs.Finish.{finished}
use Rattle.zk_step.specs.Halves.{ShowsSome, rest_on, rest_text_by, whole_of}
use Rattle.zk_step.specs.Instructions.{HasBegun}
use Rattle.zk_step.specs.Limited.{limited_next}
use Rattle.zk_step.specs.Printing.{IsLong, IsPlainEnd}
use Rattle.zk_step.specs.Routing.{Signals, no_signals, routed, routed_by, streamed_all}
use Rattle.zk_step.specs.Silence.{IsQuiet}
use Rattle.zk_step.specs.Streams.{newest_of}
use Rattle.zk_step.specs.Variables.{operands_read}
use Rattle.zk_step.proofs.Ends.{ends_as}
use Rattle.zk_step.proofs.Operands.{operands_memory}
use Rattle.zk_step.proofs.WithinBounds.{next_is}

pub has_begun : (found w : GameState) (i : Instr) (vs : List ℕ) (e : Effect)
    → operands_read found i.operands ≡ Ok (w, vs) → effect_of w i vs ≡ Ok (w, e) → HasBegun found i w vs e
has_begun found w i vs e h k = record { taken = w; values = h; made = k }

by_tables : (w : GameState) (o : Output) → IsLong o → routed w.memory w o ≡ routed_by (newest_of w.streams.tables)
    w.memory w o
unfolding routed
by_tables w (Text a) h = refl
by_tables w (Line a) h = refl
by_tables w (Rows r) h = refl
by_tables w Nothing h = absurd h
by_tables w Status h = absurd h
by_tables w Erasure h = absurd h
by_tables w (Bleep b) h = absurd h
by_tables w (Code c) h = absurd h
by_tables w (Character c) h = absurd h
by_tables w (Number n) h = absurd h

-- what may be long is routed by the tables that are open
pub long_routed : (found w : GameState) (i : Instr) (vs : List ℕ) (o : Output)
    → operands_read found i.operands ≡ Ok (w, vs) → IsLong o → routed found.memory w o ≡ routed_by
    (newest_of w.streams.tables) w.memory w o
long_routed found w i vs o h long = rw (← operands_memory i.operands found w vs h) (by_tables w o long)

pub long_of : (o : Output) (x : Rest) → whole_of o ≡ Some x → IsLong o
long_of (Text a) x e = tt
long_of (Line a) x e = tt
long_of (Rows r) x e = tt
long_of Nothing x e = absurd cc
long_of Status x e = absurd cc
long_of Erasure x e = absurd cc
long_of (Bleep b) x e = absurd cc
long_of (Code c) x e = absurd cc
long_of (Character c) x e = absurd cc
long_of (Number n) x e = absurd cc

-- what ends plainly asks nothing
pub plain_quiet : (w v : GameState) (i : Instr) (vs : List ℕ) (e : Ending) (n : Next) (text : Signals)
    → IsPlainEnd e → limited_next (finished w i vs e) ≡ Ok (v, n) → IsQuiet n text
plain_quiet w v i vs e (At pc) text plain h = tt
plain_quiet w v i vs e (Asks x) text plain h =
    absurd (subst IsPlainEnd (ends_as w i vs e v (Asks x) (next_is _ (v, Asks x) h)) plain)

-- nothing is still to come
pub none_left : (t : Option OpenTable) (window : Window) (w : GameState) → rest_text_by t window w [] ≡ no_signals
unfolding shown_all streamed_all
none_left None Lower w = refl
none_left None Upper w = refl
none_left (Some t) window w = refl

pub all_shown : {S : Type 0} (shows : S → S → Signals → Type 0) (a b : S) (whole : Signals)
    (t : Option OpenTable) (window : Window) (w : GameState) (on : Bool) (rest : Rest) → on ≡ false
    → ShowsSome shows a b whole (rest_text_by t window w (rest_on w.memory on rest))
    → ShowsSome shows a b whole no_signals
all_shown {S} shows a b whole t window w true rest off h = absurd cc
all_shown {S} shows a b whole t window w false rest off h = rw (none_left t window w) at h
