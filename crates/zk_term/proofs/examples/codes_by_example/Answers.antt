use Rattle.std.specs.Prelude.{⊤}
use Rattle.std.proofs.Common.{refl}
use Rattle.std.specs.Char.{encode_utf8}
use Rattle.std.specs.Str.{chars, is_utf8}
use Rattle.zk_text.specs.Extra.{code_of, code_from}
use Rattle.zk_text.specs.Standard.{standard_characters}
use Rattle.zk_term.specs.Characters.{begins_with_characters, character_length, characters_past, characters_of}
use Rattle.zk_term.specs.Characters.{line_codes}
use Rattle.zk_term.proofs.examples.codes_by_example.Goals as goal

-- the definitions that are opened here
unfoldable opened : ⊤
unfolding begins_with_characters character_length characters_past characters_of chars is_utf8 encode_utf8
    line_codes code_of code_from standard_characters
opened = tt

pub returns-clause-codes_of_a_line : goal.returns-clause-codes_of_a_line
unfolding opened
returns-clause-codes_of_a_line c = refl

pub returns-clause-question_marks : goal.returns-clause-question_marks
unfolding opened
returns-clause-question_marks c = (refl, refl, refl, refl, refl, refl)

pub returns-clause-codes_by_an_own_table : goal.returns-clause-codes_by_an_own_table
unfolding opened
returns-clause-codes_by_an_own_table c = (refl, refl)

pub returns-clause-long_lines : goal.returns-clause-long_lines
unfolding opened
returns-clause-long_lines c = (refl, refl)
