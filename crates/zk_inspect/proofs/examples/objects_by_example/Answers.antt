-- The digits of numbers are computed.
use Rattle.std.specs.Prelude.{⊤}
use Rattle.std.proofs.Common.{refl}
use Rattle.std.specs.Fmt.{digits}
use Rattle.std.specs.Char.{encode_utf8}
use Rattle.zk_mem.specs.Map.{byte_at, word_at, cell_at, code_word_at}
use Rattle.zk_mem.specs.Header.{header_of, unit_length}
use Rattle.zk_mem.specs.Words.{words_in, words_at, text_end_at}
use Rattle.zk_text.specs.Alphabets.{alphabet_table, letter_by}
use Rattle.zk_text.specs.Standard.{standard_letters, standard_characters}
use Rattle.zk_text.specs.Extra.{unicode_table, own_characters, character}
use Rattle.zk_text.specs.Meaning.{values, abbreviation, text_units}
use Rattle.zk_text.specs.Pieces.{pieces_past}
use Rattle.zk_text.specs.Words.{z_characters}
use Rattle.zk_text.specs.Shown.{shown, shown_all}
use Rattle.zk_term.specs.Numbers.{hex_digits, address_digits, word_digits, byte_digits}
use Rattle.zk_inspect.specs.Listing.{quoted_bytes, units_text}
use Rattle.zk_tables.specs.Layout.{layout_of, is_entry_in, is_entry, entry_of}
use Rattle.zk_tables.specs.Attributes.{attribute_at}
use Rattle.zk_tables.specs.Links.{address_of, object_number_at, link_at}
use Rattle.zk_tables.specs.PropertyList.{list_byte, property_by, property_at, properties_from, properties_at}
use Rattle.zk_tables.specs.Properties.{table_of, list_of, properties_of, name_of}
use Rattle.zk_inspect.specs.ObjectLines.{name_text, label_text, links_text, attributes_of, property_text}
use Rattle.zk_inspect.specs.ObjectLines.{properties_text, object_line}
use Rattle.zk_inspect.proofs.examples.objects_by_example.Goals as goal

-- the definitions that are opened here
unfoldable opened : ⊤
unfolding digits encode_utf8 byte_at word_at cell_at code_word_at header_of unit_length words_in words_at
    text_end_at alphabet_table letter_by standard_letters standard_characters unicode_table own_characters character
    values abbreviation text_units pieces_past z_characters shown shown_all hex_digits address_digits word_digits
    byte_digits quoted_bytes units_text layout_of is_entry_in is_entry entry_of attribute_at address_of object_number_at
    link_at list_byte property_by property_at properties_from properties_at table_of list_of properties_of name_of
    name_text label_text links_text attributes_of property_text properties_text object_line
opened = tt

pub returns-clause-objects_are_lines : goal.returns-clause-objects_are_lines
unfolding opened
returns-clause-objects_are_lines c = (refl, refl)

pub returns-clause-lists_past_the_end : goal.returns-clause-lists_past_the_end
unfolding opened
returns-clause-lists_past_the_end c = refl

pub returns-clause-late_objects_are_lines : goal.returns-clause-late_objects_are_lines
unfolding opened
returns-clause-late_objects_are_lines c = refl
