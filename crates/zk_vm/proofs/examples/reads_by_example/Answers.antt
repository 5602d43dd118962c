use Rattle.std.proofs.Common.{refl}
use Rattle.std.specs.Str.{is_utf8, chars}
use Rattle.std.specs.Char.{encode_utf8}
use Rattle.zk_vm.specs.Sessions.{begun}
use Rattle.zk_term.specs.Characters.{begins_with_characters, character_length, characters_past, characters_of}
use Rattle.zk_term.specs.Characters.{line_codes}
use Rattle.zk_mem.specs.Header.{header_of, unit_length}
use Rattle.zk_mem.specs.Fresh.{with_fields, fresh}
use Rattle.zk_mem.specs.Map.{byte_at, word_at, byte_put, word_put, cell_at, code_word_at}
use Rattle.zk_text.specs.Extra.{words_from, unicode_table, words_at_table, own_characters, character, code_from}
use Rattle.zk_text.specs.Extra.{code_of, small_letter, lower_code}
use Rattle.zk_text.specs.Standard.{standard_letters, standard_characters, ascii_capitals, extra_capitals}
use Rattle.zk_vm.proofs.examples.reads_by_example.Goals as goal

pub returns-clause-lines_are_typed : goal.returns-clause-lines_are_typed
unfolding is_utf8 chars encode_utf8 begun begins_with_characters character_length characters_past characters_of
    line_codes header_of unit_length with_fields fresh byte_at word_at byte_put word_put cell_at code_word_at
    words_from unicode_table words_at_table own_characters character code_from code_of small_letter lower_code
    standard_letters standard_characters ascii_capitals extra_capitals
returns-clause-lines_are_typed c = refl
