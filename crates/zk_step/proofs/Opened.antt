use Rattle.std.specs.Prelude.{⊤}
use Rattle.zk_step.specs.Arithmetic.{arithmetic, shifted_left, shifted_right, sign_shifted}
use Rattle.zk_step.specs.Comparison.{comparison, equals_another}
use Rattle.zk_step.specs.Arrays.{array_accessed}
use Rattle.zk_mem.specs.Map.{byte_at, word_at, byte_put, word_put, cell_at, code_word_at}
use Rattle.zk_step.specs.Variables.{named_read, named_written, variable_read, variable_written, indirect_read}
use Rattle.zk_step.specs.Variables.{indirect_written, operand_read, operands_read}
use Rattle.zk_step.specs.Assignment.{moved, assignment}
use Rattle.zk_mem.specs.Header.{header_of, unit_length}
use Rattle.zk_state.specs.Frames.{popped, top_of, with_top, local_of, with_local, left, unwound, within_bounds}
use Rattle.zk_state.specs.Frames.{sizes_of, pushed, called, bounds_of}
use Rattle.zk_step.specs.Routines.{initial_values, routine_at, with_arguments, stored, returned, thrown, call_effect}
use Rattle.zk_step.specs.Routines.{routine_effect}
use Rattle.zk_step.specs.Routines
use Rattle.zk_code.specs.Routines.{count_at}
use Rattle.zk_step.specs.Finish.{continuation_after, led, gone, gone_on, finished}
use Rattle.zk_step.specs.Control.{control}
use Rattle.zk_code.specs.Targets.{jump_target, offset_target, branch_target}
use Rattle.zk_step.specs.Objects.{object_changed, object_answer}
use Rattle.zk_tables.specs.Attributes.{attribute_at, attribute_put}
use Rattle.zk_tables.specs.Chain.{chain_from, children_of}
use Rattle.zk_tables.specs.Layout.{layout_of, is_entry_in, is_entry, entry_of, entries_in, entries}
use Rattle.zk_tables.specs.Links.{address_of, object_number_at, number_put, link_at, link_put}
use Rattle.zk_tables.specs.Properties.{table_of, list_of, property_of, default_of, property_value, property_address_of}
use Rattle.zk_tables.specs.Properties.{next_property_of, property_put, property_length_of, name_of}
use Rattle.zk_tables.specs.Tree.{naming_among, naming_of, unlinked, unlinked_where, removed, linked, inserted}
use Rattle.zk_tables.specs.PropertyList.{list_byte, property_by, property_at, properties_from, properties_at, found_at}
use Rattle.zk_tables.specs.PropertyList.{first_number_from, first_number_at, number_after_at}
use Rattle.zk_step.specs.Printing.{printing, units_of, characters_of}
use Rattle.zk_text.specs.Alphabets.{alphabet_table, letter_by}
use Rattle.zk_text.specs.Extra.{words_from, unicode_table, words_at_table, own_characters, character, code_from}
use Rattle.zk_text.specs.Extra.{code_of, small_letter, lower_code}
use Rattle.zk_text.specs.Meaning.{values, abbreviation, text_units, checked_end}
use Rattle.zk_text.specs.Pieces.{pieces_past}
use Rattle.zk_text.specs.Shown.{shown, shown_all}
use Rattle.zk_text.specs.Standard.{standard_letters, standard_characters, ascii_capitals, extra_capitals}
use Rattle.zk_text.specs.Words.{z_characters}
use Rattle.zk_mem.specs.Words.{words_in, words_at, text_end_at}
use Rattle.zk_step.specs.Idle.{idle}
use Rattle.zk_tables.specs.Runs.{bytes_put, places, bytes_read}
use Rattle.zk_step.specs.Terminating.{is_terminating, terminating_at, up_to_zero}
use Rattle.zk_step.specs.TextBuffers.{early_line_put, later_line_put, divided_into_words, line_put}
use Rattle.zk_text.specs.Keys.{place_from, a2_place, spelling, spellings, fives, key_of}
use Rattle.zk_tables.specs.Dictionaries.{dictionary_byte, dictionary_word, dictionary_by, dictionary_at, bytes_from}
use Rattle.zk_tables.specs.Dictionaries.{separators_of, begins_with, has_key, found_from, found_in}
use Rattle.zk_tables.specs.Tokens.{is_separator, is_letter, run, token_here, tokens_from, tokens}
use Rattle.zk_tables.specs.Parsing.{letters_counted, letters_to_zero, letters_of, word_in, words_of, block_put}
use Rattle.zk_tables.specs.Parsing.{blocks_put, words_put, tokenised}
use Rattle.zk_step.specs.Words.{words_changed}
use Rattle.zk_step.specs.Inputs.{reading, line_answered, character_answered, result_answered}
use Rattle.zk_step.specs.Instructions.{carried_out}
use Rattle.zk_step.specs.Effects.{effect_of}
use Rattle.zk_step.specs.Routing.{routed, ends_line, script_is_on, stored_all, streamed_all, style_shown, unit_stored}
use Rattle.zk_step.specs.Routing.{upper_printed}
use Rattle.zk_step.specs.Streams.{newest_of, opened, counted, tables_below}
use Rattle.zk_term.specs.Windows.{first_windows, split, window_selected, printed, cursor_set, character_printed}
use Rattle.zk_term.specs.Windows.{cleared, unsplit}
use Rattle.zk_step.specs.Selecting.{stream_selected}
use Rattle.zk_step.specs.Tables.{table_effect}
use Rattle.zk_step.specs.Screens.{window_effect}
use Rattle.zk_tables.specs.Scanning.{scanned}
use Rattle.zk_tables.specs.Rectangles.{row_at, rows_from, rows_of}
use Rattle.zk_step.specs.Saving.{saving}
use Rattle.zk_mem.specs.Checksum.{file_sum, has_right_sum}
use Rattle.zk_step.specs.Restarts.{begun_again, made_roman, windows_closed}
use Rattle.zk_mem.specs.Again.{settled, again, restarted}
use Rattle.zk_mem.specs.Fresh.{with_fields}
use Rattle.zk_step.specs.Resuming.{resumed}
use Rattle.zk_code.specs.Reading.{branch_here, branch_by, code_byte}

-- the definitions that are opened in examples
unfoldable pub examples : ⊤
unfolding arithmetic shifted_left shifted_right sign_shifted comparison equals_another array_accessed byte_at
    word_at byte_put word_put named_read named_written variable_read variable_written indirect_read indirect_written
    operand_read operands_read moved assignment header_of popped top_of with_top local_of with_local initial_values
    count_at routine_at with_arguments Routines.called stored returned thrown call_effect routine_effect unit_length
    cell_at code_word_at left unwound continuation_after led gone gone_on finished control jump_target offset_target
    object_changed object_answer attribute_at attribute_put chain_from children_of layout_of is_entry_in is_entry
    entry_of entries_in entries address_of object_number_at number_put link_at link_put table_of list_of property_of
    default_of property_value property_address_of next_property_of property_put property_length_of name_of
    naming_among naming_of unlinked unlinked_where removed linked inserted list_byte property_by property_at
    properties_from properties_at found_at first_number_from first_number_at number_after_at printing units_of
    characters_of alphabet_table letter_by words_from unicode_table words_at_table own_characters character
    code_from code_of values abbreviation text_units checked_end pieces_past shown shown_all standard_letters
    standard_characters z_characters words_in words_at text_end_at idle bytes_put early_line_put later_line_put
    small_letter lower_code ascii_capitals extra_capitals divided_into_words line_put place_from a2_place spelling
    spellings
    fives key_of dictionary_byte dictionary_word dictionary_by dictionary_at bytes_from separators_of begins_with
    has_key found_from found_in is_separator is_letter run token_here tokens_from tokens letters_counted
    letters_to_zero letters_of word_in words_of block_put blocks_put words_put tokenised words_changed reading
    line_answered character_answered carried_out effect_of routed newest_of first_windows ends_line script_is_on
    style_shown streamed_all window_effect within_bounds sizes_of is_terminating terminating_at up_to_zero
examples = tt

-- the definitions that are opened in push effect
unfoldable pub in_push_effect : ⊤
unfolding pushed
in_push_effect = tt

-- the definitions that are opened in output examples
unfoldable pub output_examples : ⊤
unfolding opened counted newest_of tables_below stream_selected byte_at byte_put word_put first_windows routed
    unit_stored stored_all ends_line script_is_on style_shown streamed_all upper_printed units_of characters_of
    bytes_put words_from
    unicode_table words_at_table own_characters character code_from code_of shown shown_all standard_letters
    standard_characters split window_selected printed header_of word_at table_effect window_effect scanned row_at
    rows_from rows_of places bytes_read cursor_set cleared unsplit
output_examples = tt

-- the definitions that are opened in saving examples
unfoldable pub saving_examples : ⊤
unfolding saving file_sum has_right_sum header_of unit_length carried_out effect_of routed operands_read
    operand_read variable_read variable_written named_written finished gone_on gone led continuation_after stored
    first_windows popped with_local within_bounds sizes_of begun_again made_roman windows_closed settled again restarted
    with_fields split window_selected printed character_printed cleared unsplit result_answered resumed returned
    branch_here branch_by code_byte branch_target offset_target left cell_at word_put
saving_examples = tt

-- the definitions that are opened in call routine
unfoldable pub in_call_routine : ⊤
unfolding Routines.called routine_at called
in_call_routine = tt

-- the definitions that are opened in restart
unfoldable pub in_restart : ⊤
unfolding begun_again made_roman windows_closed bounds_of
in_restart = tt

-- the definitions that are opened in push
unfoldable pub in_push : ⊤
unfolding variable_written pushed
in_push = tt
