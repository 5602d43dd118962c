use Rattle.std.specs.Prelude.{⊤}
use Rattle.zk_vm.specs.Step.{step}
use Rattle.zk_vm.specs.Log.{passed, parts_of, after}
use Rattle.zk_vm.specs.Sessions.{begun}
use Rattle.zk_vm.specs.Inside.{goes_by_variable, loads_file, NoneLeaves}
use Rattle.zk_code.specs.Clean.{leads_by_variable}
use Rattle.zk_step.specs.Arithmetic.{shifted_left, shifted_right, sign_shifted, arithmetic}
use Rattle.zk_step.specs.Comparison.{equals_another, comparison}
use Rattle.zk_step.specs.Control.{control}
use Rattle.zk_step.specs.Effects.{effect_of}
use Rattle.zk_step.specs.Finish.{continuation_after, led, gone, gone_on, finished}
use Rattle.zk_step.specs.Instructions.{carried_out}
use Rattle.zk_step.specs.Printing.{printing, units_of, characters_of}
use Rattle.zk_step.specs.Routines.{initial_values, routine_at, with_arguments, called, stored, returned, thrown}
use Rattle.zk_step.specs.Routines.{call_effect, routine_effect}
use Rattle.zk_code.specs.Routines.{count_at}
use Rattle.zk_step.specs.Routing.{ends_line, script_is_on, routed, streamed_all, style_shown, upper_printed}
use Rattle.zk_step.specs.Streams.{newest_of}
use Rattle.zk_step.specs.Variables.{named_read, named_written, variable_read, variable_written, indirect_read}
use Rattle.zk_step.specs.Variables.{indirect_written, operand_read, operands_read}
use Rattle.zk_code.specs.Reading.{code_byte, code_word, types_at, with_types, with_type_bytes, extended_at, head_by}
use Rattle.zk_code.specs.Reading.{head_at, operand_at, operands_at, store_at, branch_by, branch_here, branch_at}
use Rattle.zk_code.specs.Reading.{text_at, instr_at}
use Rattle.zk_code.specs.Table.{two_operand, one_operand, zero_operand, variable_operand, extended, name_of}
use Rattle.zk_code.specs.Targets.{offset_target, branch_target, jump_target}
use Rattle.zk_term.specs.Windows.{first_windows, split, window_selected, character_printed, next_row, printed}
use Rattle.zk_term.specs.Windows.{without_last, columns_from, row_text}
use Rattle.zk_text.specs.Alphabets.{alphabet_table, letter_by}
use Rattle.zk_text.specs.Extra.{words_from, unicode_table, words_at_table, own_characters, character, code_from}
use Rattle.zk_text.specs.Extra.{code_of, small_letter, lower_code}
use Rattle.zk_text.specs.Meaning.{values, abbreviation, text_units, checked_end}
use Rattle.zk_text.specs.Pieces.{pieces_past}
use Rattle.zk_text.specs.Shown.{shown, shown_all}
use Rattle.zk_text.specs.Standard.{standard_letters, standard_characters, ascii_capitals, extra_capitals}
use Rattle.zk_text.specs.Words.{z_characters}
use Rattle.zk_state.specs.Frames.{bounds_of, sizes_of, within_bounds, pushed, popped, top_of, with_top, local_of}
use Rattle.zk_state.specs.Frames.{with_local, left, unwound, taken, given_back}
use Rattle.zk_state.specs.Frames
use Rattle.zk_mem.specs.Header.{header_of, unit_length}
use Rattle.zk_mem.specs.Map.{byte_at, word_at, byte_put, word_put, cell_at, code_word_at}
use Rattle.zk_mem.specs.Words.{words_in, words_at, text_end_at}
use Rattle.zk_mem.specs.Fresh.{with_fields, fresh}
use Rattle.zk_step.specs.View.{viewed, rows_shown, lines_shown}
use Rattle.zk_vm.specs.Answers.{answered}
use Rattle.zk_step.specs.Inputs.{reading, line_answered, result_answered, character_answered}
use Rattle.zk_tables.specs.Runs.{bytes_put}
use Rattle.zk_step.specs.TextBuffers.{early_line_put, later_line_put, divided_into_words, line_put, kept_of}
use Rattle.zk_term.specs.Lines.{while_short, heard}
use Rattle.zk_term.specs.Characters.{begins_with_characters, character_length, characters_past, line_codes}
use Rattle.zk_term.specs.Characters
use Rattle.zk_step.specs.Screens.{window_effect}
use Rattle.zk_step.specs.Selecting.{stream_selected, stream_changed}
use Rattle.zk_term.specs.Grid.{on_grid, no_cells, emptied, cell_put}
use Rattle.zk_step.specs.Saving.{saving}
use Rattle.zk_step.specs.Resuming.{resumed}
use Rattle.zk_step.specs.Restarts.{windows_closed}
use Rattle.zk_mem.specs.Again.{again, settled}
use Rattle.zk_save.specs.States.{gone_back}
use Rattle.zk_save.specs.Loading.{form_in, loaded, restored, put_in_place}

-- the definitions that are opened in examples
unfoldable pub examples : ⊤
unfolding step passed parts_of after begun goes_by_variable loads_file NoneLeaves leads_by_variable
    shifted_left shifted_right sign_shifted arithmetic equals_another comparison control effect_of
    continuation_after led gone gone_on finished carried_out printing units_of characters_of initial_values count_at
    routine_at with_arguments called stored returned thrown call_effect routine_effect ends_line script_is_on
    streamed_all style_shown routed
    newest_of named_read named_written variable_read variable_written indirect_read indirect_written operand_read
    operands_read code_byte code_word types_at with_types with_type_bytes extended_at head_by head_at operand_at
    operands_at store_at branch_by branch_here branch_at text_at instr_at two_operand one_operand zero_operand
    variable_operand extended name_of offset_target branch_target jump_target first_windows alphabet_table letter_by
    words_from unicode_table words_at_table own_characters character code_from code_of small_letter lower_code
    values abbreviation text_units checked_end pieces_past shown shown_all standard_letters standard_characters
    ascii_capitals extra_capitals z_characters bounds_of sizes_of within_bounds pushed popped top_of with_top
    local_of with_local Frames.called left unwound taken given_back header_of unit_length byte_at word_at byte_put
    word_put cell_at code_word_at words_in words_at text_end_at with_fields fresh viewed answered reading
    line_answered result_answered character_answered bytes_put early_line_put later_line_put divided_into_words line_put
    while_short heard begins_with_characters character_length characters_past Characters.characters_of line_codes
    rows_shown lines_shown window_effect stream_selected stream_changed upper_printed kept_of split window_selected
    character_printed next_row printed without_last columns_from row_text on_grid no_cells emptied cell_put
examples = tt

-- the definitions that are opened in saving examples
unfoldable pub saving_examples : ⊤
unfolding step passed after begun shifted_left shifted_right sign_shifted arithmetic equals_another
    comparison control effect_of continuation_after led gone gone_on finished carried_out printing units_of
    characters_of initial_values count_at routine_at with_arguments called stored returned thrown call_effect
    routine_effect ends_line script_is_on streamed_all style_shown routed newest_of named_read named_written
    variable_read variable_written
    indirect_read indirect_written operand_read operands_read code_byte code_word types_at with_types
    with_type_bytes extended_at head_by head_at operand_at operands_at store_at branch_by branch_here branch_at
    text_at instr_at two_operand one_operand zero_operand variable_operand extended name_of offset_target
    branch_target jump_target first_windows alphabet_table letter_by words_from unicode_table words_at_table
    own_characters character code_from code_of small_letter lower_code values abbreviation text_units checked_end
    pieces_past shown shown_all standard_letters standard_characters ascii_capitals extra_capitals z_characters
    bounds_of sizes_of within_bounds pushed popped top_of with_top local_of with_local Frames.called left unwound
    taken given_back header_of unit_length byte_at word_at byte_put word_put cell_at code_word_at words_in words_at
    text_end_at with_fields fresh viewed answered reading line_answered result_answered character_answered bytes_put
    early_line_put later_line_put divided_into_words line_put while_short heard begins_with_characters character_length
    characters_past Characters.characters_of line_codes saving resumed windows_closed again settled gone_back
    form_in loaded restored put_in_place
saving_examples = tt
