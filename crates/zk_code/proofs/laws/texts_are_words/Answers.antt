use Rattle.zk_code.proofs.Texts.{words_are_text, text_is_words}
use Rattle.zk_code.proofs.laws.texts_are_words.Goals as goal

pub returns-clause-read : goal.returns-clause-read
returns-clause-read c = words_are_text

pub returns-clause-spelled : goal.returns-clause-spelled
returns-clause-spelled c = text_is_words
