use Rattle.zk_tables.proofs.guards.TokenLaw.{tokens_are_words, tokens_are_determined}
use Rattle.zk_tables.proofs.laws.texts_are_divided.Goals as goal

pub returns-clause-words : goal.returns-clause-words
returns-clause-words g = tokens_are_words

pub returns-clause-determined : goal.returns-clause-determined
returns-clause-determined g = tokens_are_determined
