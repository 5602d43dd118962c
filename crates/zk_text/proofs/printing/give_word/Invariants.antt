use Rattle.std.proofs.Common.{◌++◌, ◌∷◌, drop, List, ℕ}
use Rattle.zk_text.specs.Meaning.{Units, meaning}
use Rattle.zk_text.specs.Places.{Gives}
use Rattle.zk_text.specs.Reading.{held_back}
use Rattle.zk_text.specs.Words.{z_characters}
use Rattle.zk_text.proofs.printing.give_word.Given as goal

abbrev pub invariant-loop-place : goal.invariant-loop-place
invariant-loop-place g l = record {
  gives : (expand : ℕ → Units) (ws : List ℕ) → Gives g.S.Sink.gave l.fn.sink l.sink
      (meaning l.fn.memory expand (held_back l.fn.held ++ drop l.fn.taken (z_characters (l.word ∷ ws))))
      (meaning l.fn.memory expand (held_back l.held ++ drop l.place (z_characters (l.word ∷ ws))));
}
