use Rattle.std.specs.Prelude.{⊤}
use Rattle.zk_mem.specs.Map.{cell_at, byte_at, word_at, byte_put, word_put, code_word_at}
use Rattle.zk_text.specs.Standard.{standard_letters, standard_characters, ascii_capitals, extra_capitals}
use Rattle.zk_text.specs.Alphabets.{alphabet_table, letter_by}
use Rattle.zk_mem.specs.Header.{header_of, unit_length}
use Rattle.zk_text.specs.Meaning.{values, abbreviation, text_units, checked_end}
use Rattle.zk_text.specs.Pieces.{pieces_past}
use Rattle.zk_text.specs.Words.{z_characters}
use Rattle.zk_mem.specs.Words.{words_in, words_at, text_end_at}
use Rattle.zk_text.specs.Extra.{words_from, unicode_table, words_at_table, own_characters, character, code_from}
use Rattle.zk_text.specs.Extra.{code_of, small_letter, lower_code}
use Rattle.zk_text.specs.Shown.{shown, shown_all}
use Rattle.zk_text.specs.Keys.{place_from, a2_place, spelling, spellings, fives, key_of}

-- the definitions that are opened in code at
unfoldable pub in_code_at : ⊤
unfolding cell_at standard_letters
in_code_at = tt

-- the definitions that are opened in examples
unfoldable pub examples : ⊤
unfolding alphabet_table letter_by standard_letters standard_characters ascii_capitals extra_capitals header_of
    unit_length values abbreviation text_units checked_end pieces_past z_characters byte_at word_at byte_put
    word_put cell_at code_word_at words_in words_at text_end_at words_from unicode_table words_at_table
    own_characters character code_from code_of small_letter lower_code shown shown_all place_from a2_place spelling
    spellings fives key_of
examples = tt

-- the definitions that are opened in check text
unfoldable pub in_check_text : ⊤
unfolding checked_end text_units
in_check_text = tt
