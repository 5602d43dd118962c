use Rattle.std.proofs.Common.{refl}
use Rattle.zk_inform.proofs.guards.Opened.{examples}
use Rattle.zk_inform.proofs.examples.documents_by_example.Goals as goal

pub returns-clause-names_have_numbers : goal.returns-clause-names_have_numbers
unfolding examples
returns-clause-names_have_numbers c = (refl, refl)

pub returns-clause-objects_have_names : goal.returns-clause-objects_have_names
unfolding examples
returns-clause-objects_have_names c = (refl, refl, refl, refl)

pub returns-clause-documents_are_whole : goal.returns-clause-documents_are_whole
unfolding examples
returns-clause-documents_are_whole c = refl

pub returns-clause-names_have_few_words : goal.returns-clause-names_have_few_words
unfolding examples
returns-clause-names_have_few_words c = (refl, refl)
