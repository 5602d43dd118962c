use Rattle.zk_code.proofs.Whole.{found_at, only_at}
use Rattle.zk_code.proofs.Cut.{refused_for, refusing_for}
use Rattle.zk_code.proofs.laws.reads_the_grammar.Goals as goal

pub returns-clause-found : goal.returns-clause-found
returns-clause-found c = found_at

pub returns-clause-only : goal.returns-clause-only
returns-clause-only c = λ m a i b s. (only_at m a i b s, s.0.next)

pub returns-clause-refused : goal.returns-clause-refused
returns-clause-refused c = refused_for

pub returns-clause-refuses : goal.returns-clause-refuses
returns-clause-refuses c = refusing_for
