use Rattle.std.proofs.Common.{refl}
use Rattle.zk_inform.proofs.guards.Opened.{examples}
use Rattle.zk_inform.proofs.examples.tables_by_example.Goals as goal

pub returns-clause-compilers_are_named : goal.returns-clause-compilers_are_named
unfolding examples
returns-clause-compilers_are_named c = (refl, refl, refl, refl, refl, refl, refl, refl, refl)

pub returns-clause-lists_end : goal.returns-clause-lists_end
unfolding examples
returns-clause-lists_end c = (refl, refl, refl, refl)

pub returns-clause-class_numbers_end : goal.returns-clause-class_numbers_end
unfolding examples
returns-clause-class_numbers_end c = (refl, refl, refl, refl, refl)

pub returns-clause-tables_have_counts : goal.returns-clause-tables_have_counts
unfolding examples
returns-clause-tables_have_counts c = (refl, refl, refl, refl, refl)

pub returns-clause-attributes_by_version : goal.returns-clause-attributes_by_version
unfolding examples
returns-clause-attributes_by_version c = (refl, refl, refl)

pub returns-clause-classes_are_longer : goal.returns-clause-classes_are_longer
unfolding examples
returns-clause-classes_are_longer c = (refl, refl, refl, refl, refl, refl)

pub returns-clause-tables_are_right : goal.returns-clause-tables_are_right
unfolding examples
returns-clause-tables_are_right c = (refl, refl, refl, refl, refl, refl, refl, refl)
