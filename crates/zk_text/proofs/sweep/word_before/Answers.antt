use Rattle.zk_text.specs.Words.{z_characters}
use Rattle.zk_text.proofs.sweep.word_before.Goals as goal

pub returns-clause-rest : goal.returns-clause-rest
unfolding z_characters
returns-clause-rest g c = λ ws rest.
    c.rest_before.ensures.rest _ (c.rest_before-second.ensures.rest _ (c.rest_before-third.ensures.rest _ rest))
