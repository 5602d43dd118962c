use Rattle.std.specs.Prelude.{⊤}
use Rattle.std.specs.Fmt.{digits}
use Rattle.std.specs.Char.{encode_utf8}
use Rattle.zk_mem.specs.Header.{header_of, unit_length}
use Rattle.zk_mem.specs.Map.{byte_at, cell_at, code_word_at, word_at}
use Rattle.zk_mem.specs.Words.{text_end_at, words_at, words_in}
use Rattle.zk_text.specs.Alphabets.{alphabet_table, letter_by}
use Rattle.zk_text.specs.Extra.{character, own_characters, unicode_table}
use Rattle.zk_text.specs.Meaning.{abbreviation, text_units, values}
use Rattle.zk_text.specs.Pieces.{pieces_past}
use Rattle.zk_text.specs.Shown.{shown, shown_all}
use Rattle.zk_text.specs.Standard.{standard_characters, standard_letters}
use Rattle.zk_text.specs.Walked.{abbreviation_length, pieces_length, run_at, run_in, words_walked}
use Rattle.zk_text.specs.Words.{z_characters}
use Rattle.zk_tables.specs.Layout.{entry_of, is_entry, is_entry_in, layout_of}
use Rattle.zk_tables.specs.Links.{address_of, link_at, object_number_at}
use Rattle.zk_tables.specs.Properties.{list_of, name_of, table_of}
use Rattle.zk_tables.specs.PropertyList.{list_byte, properties_at, properties_from, property_at, property_by}
use Rattle.zk_inform.specs.Documents.{document_text, element}
use Rattle.zk_inform.specs.Markup.{marked_units, markup, text_of}
use Rattle.zk_inform.specs.Names.{naming_at, naming_of, object_naming, shown_naming, spelling_of}
use Rattle.zk_inform.specs.Tables.{class_end, is_right, list_end, names_table, table_end}

-- the definitions that are opened in examples
unfoldable pub examples : ⊤
unfolding digits encode_utf8 header_of unit_length byte_at cell_at code_word_at word_at text_end_at words_at words_in
    alphabet_table letter_by character own_characters unicode_table abbreviation text_units values pieces_past shown
    shown_all standard_characters standard_letters abbreviation_length pieces_length run_at run_in words_walked
    z_characters entry_of is_entry is_entry_in layout_of address_of link_at object_number_at list_of name_of table_of
    list_byte properties_at properties_from property_at property_by document_text element marked_units markup text_of
    naming_at naming_of object_naming shown_naming spelling_of class_end is_right list_end names_table table_end
examples = tt
