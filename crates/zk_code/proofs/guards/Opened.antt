use Rattle.std.specs.Prelude.{⊤}
use Rattle.zk_code.specs.Reading.{code_byte, code_word, types_at, with_types, with_type_bytes, extended_at, head_by}
use Rattle.zk_code.specs.Reading.{head_at, operand_at, operands_at, store_at, branch_by, branch_here, branch_at}
use Rattle.zk_code.specs.Reading.{text_at, instr_at}
use Rattle.zk_code.specs.Table.{two_operand, one_operand, zero_operand, variable_operand, extended, name_of}
use Rattle.zk_code.specs.Targets.{offset_target, branch_target, jump_target}
use Rattle.zk_mem.specs.Map.{cell_at, code_word_at}
use Rattle.zk_mem.specs.Words.{words_in, words_at, text_end_at}
use Rattle.zk_code.specs.Reach.{branch_address, constant_jump, jump_address, constant_call}
use Rattle.zk_mem.specs.Header.{unit_length}
use Rattle.zk_code.specs.Clean.{leads_by_variable}
use Rattle.zk_code.specs.Extent.{next_packed}

-- the definitions that are opened in examples
unfoldable pub examples : ⊤
unfolding code_byte code_word types_at with_types with_type_bytes extended_at head_by head_at operand_at
    operands_at store_at branch_by branch_here branch_at text_at instr_at two_operand one_operand zero_operand
    variable_operand extended offset_target branch_target jump_target cell_at code_word_at words_in words_at
    text_end_at name_of branch_address constant_jump jump_address constant_call unit_length leads_by_variable
    next_packed
examples = tt
