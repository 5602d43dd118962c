-- The digits of numbers are computed.
use Rattle.std.specs.Prelude.{⊤}
use Rattle.std.proofs.Common.{refl}
use Rattle.std.specs.Fmt.{digits}
use Rattle.std.specs.Char.{encode_utf8}
use Rattle.zk_mem.specs.Map.{byte_at, word_at, cell_at, code_word_at}
use Rattle.zk_mem.specs.Header.{header_of, unit_length}
use Rattle.zk_mem.specs.Words.{words_in, words_at, text_end_at}
use Rattle.zk_text.specs.Alphabets.{alphabet_table, letter_by}
use Rattle.zk_text.specs.Standard.{standard_letters, standard_characters}
use Rattle.zk_text.specs.Extra.{unicode_table, own_characters, character}
use Rattle.zk_text.specs.Meaning.{values, abbreviation, text_units}
use Rattle.zk_text.specs.Pieces.{pieces_past}
use Rattle.zk_text.specs.Words.{z_characters}
use Rattle.zk_text.specs.Shown.{shown, shown_all}
use Rattle.zk_term.specs.Numbers.{hex_digits, address_digits, word_digits, byte_digits}
use Rattle.zk_inspect.specs.Listing.{quoted_bytes, units_text}
use Rattle.zk_tables.specs.Dictionaries.{dictionary_byte, dictionary_word, bytes_from, keys_from, do_not_fall, is_above}
use Rattle.zk_tables.specs.Dictionaries.{dictionary_by, dictionary_at}
use Rattle.zk_inspect.specs.Quoted.{quoted_units}
use Rattle.zk_inspect.specs.DictionaryLines.{key_characters, word_units, entry_front, word_line, separators_text}
use Rattle.zk_inspect.specs.DictionaryLines.{separators_line, size_line, table_facts, fault_line, dictionary_facts}
use Rattle.zk_inspect.specs.Lines.{fact_line, lines_of}
use Rattle.zk_inspect.proofs.examples.dictionaries_by_example.Goals as goal

-- the definitions that are opened here
unfoldable opened : ⊤
unfolding digits encode_utf8 byte_at word_at cell_at code_word_at header_of unit_length words_in words_at
    text_end_at alphabet_table letter_by standard_letters standard_characters unicode_table own_characters character
    values abbreviation text_units pieces_past z_characters shown shown_all hex_digits address_digits word_digits
    byte_digits quoted_bytes units_text dictionary_byte dictionary_word bytes_from keys_from do_not_fall is_above
    dictionary_by dictionary_at quoted_units key_characters word_units entry_front word_line separators_text
    separators_line size_line table_facts fault_line dictionary_facts fact_line lines_of
opened = tt

pub returns-clause-dictionaries_are_lines : goal.returns-clause-dictionaries_are_lines
unfolding opened
returns-clause-dictionaries_are_lines c = (refl, refl, refl)

pub returns-clause-keys_are_words : goal.returns-clause-keys_are_words
unfolding opened
returns-clause-keys_are_words c = (refl, refl, refl)
