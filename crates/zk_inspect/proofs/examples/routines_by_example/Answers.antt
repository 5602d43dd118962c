-- The digits of numbers are computed.
use Rattle.std.specs.Prelude.{⊤}
use Rattle.std.proofs.Common.{refl}
use Rattle.std.specs.Fmt.{digits}
use Rattle.std.specs.Char.{encode_utf8}
use Rattle.zk_mem.specs.Map.{byte_at, word_at, cell_at, code_word_at}
use Rattle.zk_mem.specs.Header.{header_of, unit_length}
use Rattle.zk_mem.specs.Words.{words_in, words_at, text_end_at}
use Rattle.zk_text.specs.Alphabets.{alphabet_table, letter_by}
use Rattle.zk_text.specs.Standard.{standard_letters, standard_characters}
use Rattle.zk_text.specs.Extra.{unicode_table, own_characters, character}
use Rattle.zk_text.specs.Meaning.{values, abbreviation, text_units}
use Rattle.zk_text.specs.Pieces.{pieces_past}
use Rattle.zk_text.specs.Words.{z_characters}
use Rattle.zk_text.specs.Shown.{shown, shown_all}
use Rattle.zk_code.specs.Reading.{code_byte, code_word, types_at, with_types, with_type_bytes, extended_at, head_by}
use Rattle.zk_code.specs.Reading.{head_at, operand_at, operands_at, store_at, branch_by, branch_here, branch_at}
use Rattle.zk_code.specs.Reading.{text_at, instr_at}
use Rattle.zk_code.specs.Table.{two_operand, one_operand, zero_operand, variable_operand, extended, name_of}
use Rattle.zk_code.specs.Targets.{offset_target, branch_target, jump_target}
use Rattle.zk_code.specs.Routines.{count_at}
use Rattle.zk_code.specs.Reach.{constant_jump, jump_address}
use Rattle.zk_term.specs.Numbers.{hex_digits, address_digits, word_digits, byte_digits}
use Rattle.zk_inspect.specs.Listing.{variable_text, operand_text, first_text, operands_text, store_text, target_text}
use Rattle.zk_inspect.specs.Listing.{branch_text, quoted_bytes, units_text, text_text, instruction_text, address_line}
use Rattle.zk_inspect.specs.Listing.{routine_line, code_facts, origin_line, whole_facts}
use Rattle.zk_inspect.specs.Lines.{fact_line, lines_of}
use Rattle.zk_inspect.proofs.examples.routines_by_example.Goals as goal

-- the definitions that are opened here
unfoldable opened : ⊤
unfolding digits encode_utf8 byte_at word_at cell_at code_word_at header_of unit_length words_in words_at
    text_end_at alphabet_table letter_by standard_letters standard_characters unicode_table own_characters character
    values abbreviation text_units pieces_past z_characters shown shown_all code_byte code_word types_at with_types
    with_type_bytes extended_at head_by head_at operand_at operands_at store_at branch_by branch_here branch_at
    text_at instr_at two_operand one_operand zero_operand variable_operand extended name_of offset_target
    branch_target jump_target count_at constant_jump jump_address hex_digits address_digits word_digits byte_digits
    variable_text operand_text first_text operands_text store_text target_text branch_text quoted_bytes units_text
    text_text instruction_text address_line routine_line code_facts origin_line whole_facts fact_line lines_of
opened = tt

pub returns-clause-lines_of_routines : goal.returns-clause-lines_of_routines
unfolding opened
returns-clause-lines_of_routines c = (refl, refl)

pub returns-clause-routines_behind_code : goal.returns-clause-routines_behind_code
unfolding opened
returns-clause-routines_behind_code c = refl

pub returns-clause-routines_by_origin : goal.returns-clause-routines_by_origin
unfolding opened
returns-clause-routines_by_origin c = refl
