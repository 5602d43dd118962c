use Rattle.std.proofs.Common.{◌≡◌, ◌++◌, ◌∷◌, ◌+◌, drop, List, ℕ, subst, arith}
use Rattle.zk_text.specs.Meaning.{meaning}
use Rattle.zk_text.specs.Reading.{held_back}
use Rattle.zk_text.specs.Words.{z_characters}
use Rattle.zk_text.specs.Places.{Gives}
use Rattle.zk_text.proofs.Giving.{gives_twice}
use Rattle.zk_text.proofs.printing.give_word.Goals as goal

pub returns-in-Ok-Names-clause-ok : goal.returns-in-Ok-Names-clause-ok
returns-in-Ok-Names-clause-ok g c = λ expand ws.
    let zs = drop (c.loop-place.place + 1) (z_characters (c.args.word ∷ ws)) in
    let here = subst (λ (cs : List ℕ). Gives g.S.Sink.gave c.args.sink.now c.loop-place.sink
    (meaning c.args.memory.now expand (held_back c.args.held ++ drop c.args.taken
    (z_characters (c.args.word ∷ ws)))) (meaning c.args.memory.now expand
    (held_back c.loop-place.held ++ cs))) (c.character_at.ensures ws) (c.loop-place.invariant.gives expand ws) in
    let there = (rw c.in-Ok-Names.field-0-is at c.in-Ok-Names.ensures.ok) expand zs in
    gives_twice g.S.Sink.gave g.met.S.Sink.twice _ _ _ _ _ _ here there

pub loop-place-preserved : goal.loop-place-preserved
loop-place-preserved g c = record {
  gives = λ expand ws.
      let zs = drop (c.loop-place.place + 1) (z_characters (c.args.word ∷ ws)) in
      let here = subst (λ (cs : List ℕ). Gives g.S.Sink.gave c.args.sink.now c.loop-place.sink
      (meaning c.args.memory.now expand (held_back c.args.held ++ drop c.args.taken
      (z_characters (c.args.word ∷ ws)))) (meaning c.args.memory.now expand
      (held_back c.loop-place.held ++ cs))) (c.character_at.ensures ws) (c.loop-place.invariant.gives expand ws) in
      let there = (rw c.in-Ok-Holds.field-0-is at c.in-Ok-Holds.ensures.ok) expand zs in
      gives_twice g.S.Sink.gave g.met.S.Sink.twice _ _ _ _ _ _ here there;
}

pub returns-clause-ok : goal.returns-clause-ok
unfolding z_characters
returns-clause-ok g c = λ expand ws.
    let three : c.loop-place.place ≡ 3 = omega (arith, c.loop-place-test.false, c.loop-place.auto.place) in
    subst (λ (n : ℕ). Gives g.S.Sink.gave c.args.sink.now c.loop-place.sink
    (meaning c.args.memory.now expand (held_back c.args.held ++ drop c.args.taken
    (z_characters (c.args.word ∷ ws)))) (meaning c.args.memory.now expand
    (held_back c.loop-place.held ++ drop n (z_characters (c.args.word ∷ ws))))) three
    (c.loop-place.invariant.gives expand ws)
