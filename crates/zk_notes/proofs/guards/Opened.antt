use Rattle.std.specs.Prelude.{⊤}
use Rattle.zk_code.specs.Reading.{code_byte, code_word, types_at, with_types, with_type_bytes, head_by, head_at}
use Rattle.zk_code.specs.Reading.{operand_at, operands_at, store_at, branch_at, text_at, instr_at}
use Rattle.zk_code.specs.Table.{two_operand, one_operand, zero_operand, variable_operand}
use Rattle.zk_mem.specs.Map.{cell_at, code_word_at}
use Rattle.zk_mem.specs.Words.{words_in, words_at, text_end_at}
use Rattle.zk_notes.specs.Addresses.{address_of}
use Rattle.zk_notes.specs.Compilers.{compiler_of}
use Rattle.zk_notes.specs.Marks.{was_entered}

-- the definitions that are opened in examples
unfoldable pub examples : ⊤
unfolding address_of compiler_of was_entered code_byte code_word types_at with_types with_type_bytes head_by head_at
    operand_at operands_at store_at branch_at text_at instr_at two_operand one_operand zero_operand
    variable_operand cell_at code_word_at words_in words_at text_end_at
examples = tt
