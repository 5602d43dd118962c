use Rattle.std.proofs.Common.{refl}
use Rattle.zk_inform.proofs.guards.Opened.{examples}
use Rattle.zk_inform.proofs.examples.texts_by_example.Goals as goal

pub returns-clause-names_have_letters : goal.returns-clause-names_have_letters
unfolding examples
returns-clause-names_have_letters c = (
  refl,
  refl,
  refl,
  refl,
  refl,
  refl,
  refl,
  refl,
  refl,
  refl,
  refl,
  refl,
  refl,
  refl,
  refl,
  refl,
)

pub returns-clause-texts_are_names : goal.returns-clause-texts_are_names
unfolding examples
returns-clause-texts_are_names c = (refl, refl, refl, refl, refl, refl, refl)

pub returns-clause-texts_are_short_names : goal.returns-clause-texts_are_short_names
unfolding examples
returns-clause-texts_are_short_names c = (refl, refl, refl, refl)

pub returns-clause-characters_are_marked : goal.returns-clause-characters_are_marked
unfolding examples
returns-clause-characters_are_marked c = (refl, refl, refl, refl, refl, refl, refl, refl, refl, refl, refl)
