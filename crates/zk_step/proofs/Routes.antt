-- The route of a text.
use Rattle.std.proofs.Common.{◌≡◌, refl}
use Rattle.zk_mem.specs.Map.{MemoryMap}
use Rattle.zk_term.specs.declared.style.Bleep as sound
use Rattle.zk_step.specs.declared.state.ending.Output.{Output}
use Rattle.zk_step.specs.declared.state.ending.Output.TheVariants.{Nothing, Status, Code, Character, Number, Text, Line}
use Rattle.zk_step.specs.declared.state.ending.Output.TheVariants.{Rows, Erasure, Bleep}
use Rattle.zk_step.specs.declared.state.game_state.GameState.{GameState}
use Rattle.zk_step.specs.Routing.{routed, routed_by}
use Rattle.zk_step.specs.Streams.{newest_of}

-- what is printed is routed by the tables that are open, but for status lines, erasures and bleeps
pub text_is_routed : (m : MemoryMap) (w : GameState) (o : Output) → (o ≡ Nothing → ⊥) → (o ≡ Status → ⊥)
    → (o ≡ Erasure → ⊥) → ((b : sound.Bleep) → o ≡ Bleep b → ⊥) → routed m w o ≡ routed_by (newest_of
    w.streams.tables) m w o
unfolding routed
text_is_routed m w Nothing h k e s = absurd (h refl)
text_is_routed m w Status h k e s = absurd (k refl)
text_is_routed m w Erasure h k e s = absurd (e refl)
text_is_routed m w (Bleep b) h k e s = absurd (s b refl)
text_is_routed m w (Code c) h k e s = refl
text_is_routed m w (Character c) h k e s = refl
text_is_routed m w (Number x) h k e s = refl
text_is_routed m w (Text a) h k e s = refl
text_is_routed m w (Line a) h k e s = refl
text_is_routed m w (Rows r) h k e s = refl
