-- An effect that prints goes on to the next instruction, or returns.
use Rattle.std.proofs.Common.{◌≡◌, ℕ, None, Some, refl}
use Rattle.zk_mem.specs.Map.{MemoryMap}
use Rattle.zk_step.specs.declared.state.ending.Ending.{Ending}
use Rattle.zk_step.specs.declared.state.ending.Ending.TheVariants.{GoOn, Jump, Call, Return, Throw, Restart, Asks}
use Rattle.zk_step.specs.declared.state.ending.Output.{Output}
use Rattle.zk_step.specs.declared.state.ending.Output.TheVariants.{Nothing, Code, Character, Number, Text, Line, Rows}
use Rattle.zk_step.specs.declared.state.ending.Output.TheVariants.{Status, Erasure, Bleep}
use Rattle.zk_step.specs.Printing.{IsPlainEnd, IsReady, IsPrintable}

pub plain_by : (e : Ending) → IsPlainEnd e → ((x : ℕ) → e ≡ Return x → ⊥) → e ≡ GoOn None None
plain_by (GoOn None None) h other = refl
plain_by (GoOn None (Some t)) h other = absurd h
plain_by (GoOn (Some x) t) h other = absurd h
plain_by (Jump x) h other = absurd h
plain_by (Call x most) h other = absurd h
plain_by (Return x) h other = absurd (other x refl)
plain_by (Throw x n) h other = absurd h
plain_by Restart h other = absurd h
plain_by (Asks request) h other = absurd h

pub printable_parts : (before after : MemoryMap) (o : Output) (e : Ending) → IsPrintable before after o e
    → (o ≡ Nothing → ⊥) → (after ≡ before) × IsReady before o × IsPlainEnd e
printable_parts before after Nothing e h none = absurd (none refl)
printable_parts before after (Code c) e h none = h
printable_parts before after (Character c) e h none = h
printable_parts before after (Number x) e h none = h
printable_parts before after (Text a) e h none = h
printable_parts before after (Line a) e h none = h
printable_parts before after (Rows r) e h none = h
printable_parts before after Status e h none = h
printable_parts before after Erasure e h none = h
printable_parts before after (Bleep b) e h none = h
