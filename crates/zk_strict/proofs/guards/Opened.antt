use Rattle.std.specs.Prelude.{⊤}
use Rattle.zk_code.specs.Reading.{code_byte, code_word, types_at, with_types, with_type_bytes, head_by, head_at}
use Rattle.zk_code.specs.Reading.{operand_at, operands_at, store_at, branch_at, text_at, instr_at}
use Rattle.zk_code.specs.Table.{two_operand, one_operand, variable_operand}
use Rattle.zk_mem.specs.Header.{header_of, unit_length}
use Rattle.zk_mem.specs.Map.{cell_at, code_word_at, word_at}
use Rattle.zk_state.specs.Frames.{local_of, popped}
use Rattle.zk_step.specs.Variables.{named_read, operand_read, variable_read}
use Rattle.zk_strict.specs.Arrays.{array_from, outside}
use Rattle.zk_strict.specs.Misuses.{misuse_of}
use Rattle.zk_strict.specs.Values.{taken_after}

-- the definitions that are opened in examples
unfoldable pub examples : ⊤
unfolding code_byte code_word types_at with_types with_type_bytes head_by head_at operand_at operands_at store_at
    branch_at text_at instr_at two_operand one_operand variable_operand cell_at code_word_at array_from outside
    misuse_of header_of unit_length word_at local_of popped named_read operand_read variable_read taken_after
examples = tt
