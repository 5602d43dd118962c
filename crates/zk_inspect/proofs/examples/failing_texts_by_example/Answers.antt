-- What texts mean is computed.
use Rattle.std.specs.Prelude.{⊤}
use Rattle.std.proofs.Common.{refl}
use Rattle.zk_mem.specs.Map.{byte_at, word_at, cell_at, code_word_at}
use Rattle.zk_mem.specs.Header.{header_of, unit_length}
use Rattle.zk_mem.specs.Words.{words_in, words_at, text_end_at}
use Rattle.zk_text.specs.Alphabets.{alphabet_table, letter_by}
use Rattle.zk_text.specs.Standard.{standard_letters}
use Rattle.zk_text.specs.Meaning.{values, abbreviation, text_units}
use Rattle.zk_text.specs.Pieces.{pieces_past}
use Rattle.zk_text.specs.Words.{z_characters}
use Rattle.zk_inspect.proofs.examples.failing_texts_by_example.Goals as goal

-- the definitions that are opened here
unfoldable opened : ⊤
unfolding byte_at word_at cell_at code_word_at header_of unit_length words_in words_at text_end_at alphabet_table
    letter_by standard_letters values abbreviation text_units pieces_past z_characters
opened = tt

pub returns-clause-kinds_of_faults : goal.returns-clause-kinds_of_faults
unfolding opened
returns-clause-kinds_of_faults c = (refl, refl, refl, refl, refl, refl)

pub returns-clause-texts_that_fail : goal.returns-clause-texts_that_fail
unfolding opened
returns-clause-texts_that_fail c = (refl, refl, refl, refl, refl, refl, refl, refl, refl, refl)
