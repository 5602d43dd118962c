-- The digits of numbers are computed.
use Rattle.std.specs.Prelude.{⊤}
use Rattle.std.proofs.Common.{refl}
use Rattle.std.specs.Fmt.{digits}
use Rattle.std.specs.Char.{encode_utf8}
use Rattle.zk_mem.specs.Map.{byte_at, word_at, cell_at, code_word_at}
use Rattle.zk_mem.specs.Header.{header_of, unit_length}
use Rattle.zk_mem.specs.Words.{words_in, words_at, text_end_at}
use Rattle.zk_text.specs.Alphabets.{alphabet_table, letter_by}
use Rattle.zk_text.specs.Standard.{standard_letters, standard_characters}
use Rattle.zk_text.specs.Extra.{unicode_table, own_characters, character}
use Rattle.zk_text.specs.Meaning.{values, abbreviation, text_units}
use Rattle.zk_text.specs.Pieces.{pieces_past}
use Rattle.zk_text.specs.Words.{z_characters}
use Rattle.zk_text.specs.Shown.{shown, shown_all}
use Rattle.zk_code.specs.Reading.{code_byte, code_word, types_at, with_types, with_type_bytes, extended_at, head_by}
use Rattle.zk_code.specs.Reading.{head_at, operand_at, operands_at, store_at, branch_by, branch_here, branch_at}
use Rattle.zk_code.specs.Reading.{text_at, instr_at}
use Rattle.zk_code.specs.Table.{two_operand, one_operand, zero_operand, variable_operand, extended, name_of}
use Rattle.zk_code.specs.Targets.{offset_target, branch_target, jump_target}
use Rattle.zk_code.specs.Routines.{count_at}
use Rattle.zk_code.specs.Reach.{constant_jump, jump_address}
use Rattle.zk_term.specs.Numbers.{hex_digits, address_digits, word_digits, byte_digits}
use Rattle.zk_inspect.specs.Listing.{variable_text, operand_text, first_text, operands_text, store_text, target_text}
use Rattle.zk_inspect.specs.Listing.{branch_text, quoted_bytes, units_text, text_text, instruction_text, address_line}
use Rattle.zk_inspect.specs.Listing.{routine_line, code_facts}
use Rattle.zk_tables.specs.Layout.{layout_of, is_entry_in, is_entry, entry_of}
use Rattle.zk_tables.specs.Attributes.{attribute_at}
use Rattle.zk_tables.specs.Links.{address_of, object_number_at, link_at}
use Rattle.zk_tables.specs.PropertyList.{list_byte, property_by, property_at, properties_from, properties_at}
use Rattle.zk_tables.specs.Properties.{table_of, list_of, properties_of, name_of as name_of_object}
use Rattle.zk_inspect.specs.ObjectLines.{name_text, label_text, links_text, attributes_of, property_text}
use Rattle.zk_inspect.specs.ObjectLines.{properties_text, object_line}
use Rattle.zk_inspect.specs.Notes.{shortened, short_text, routine_note, constant_note, operand_notes, place_note, notes}
use Rattle.zk_inspect.specs.Notes.{noted_line}
use Rattle.zk_inspect.specs.GlobalLines.{word_text, global_name, global_line}
use Rattle.zk_inspect.specs.ExtensionLines.{extension_facts, extension_line}
use Rattle.zk_inspect.specs.AlphabetLines.{code_text, alphabet_line}
use Rattle.zk_inspect.specs.Quoted.{quoted_units}
use Rattle.zk_inspect.specs.PropertyBytes.{byte_text, no_properties_line, properties_by, property_line}
use Rattle.zk_inspect.proofs.examples.notes_by_example.Goals as goal

-- the definitions that are opened here
unfoldable opened : ⊤
unfolding digits encode_utf8 byte_at word_at cell_at code_word_at header_of unit_length words_in words_at
    text_end_at alphabet_table letter_by standard_letters standard_characters unicode_table own_characters character
    values abbreviation text_units pieces_past z_characters shown shown_all code_byte code_word types_at with_types
    with_type_bytes extended_at head_by head_at operand_at operands_at store_at branch_by branch_here branch_at
    text_at instr_at two_operand one_operand zero_operand variable_operand extended name_of offset_target
    branch_target jump_target count_at constant_jump jump_address hex_digits address_digits word_digits byte_digits
    variable_text operand_text first_text operands_text store_text target_text branch_text quoted_bytes units_text
    text_text instruction_text address_line routine_line code_facts layout_of is_entry_in is_entry entry_of
    attribute_at address_of object_number_at link_at list_byte property_by property_at properties_from properties_at
    table_of list_of properties_of name_text label_text links_text attributes_of property_text properties_text
    object_line shortened short_text routine_note constant_note operand_notes place_note notes noted_line word_text
    global_name global_line extension_line extension_facts code_text alphabet_line quoted_units byte_text
    property_line no_properties_line properties_by name_of_object
opened = tt

pub returns-clause-calls_name_routines : goal.returns-clause-calls_name_routines
unfolding opened
returns-clause-calls_name_routines c = (refl, refl, refl)

pub returns-clause-texts_are_noted : goal.returns-clause-texts_are_noted
unfolding opened
returns-clause-texts_are_noted c = (refl, refl, refl)

pub returns-clause-long_texts_are_shortened : goal.returns-clause-long_texts_are_shortened
unfolding opened
returns-clause-long_texts_are_shortened c = (refl, refl)

pub returns-clause-objects_are_noted : goal.returns-clause-objects_are_noted
unfolding opened
returns-clause-objects_are_noted c = (refl, refl, refl, refl)

pub returns-clause-globals_are_noted : goal.returns-clause-globals_are_noted
unfolding opened
returns-clause-globals_are_noted c = (refl, refl, refl)
