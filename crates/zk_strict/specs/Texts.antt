-- The texts that a run prints by their addresses (Standard, sections 1.2.3 and 15).
use Rattle.std.specs.Prelude.{ℕ, Option, Some, None, option_and_then, Result, Ok, Err}
use Rattle.zk_mem.specs.declared.fault.Fault.{Fault}
use Rattle.zk_mem.specs.Header.{unpacked}
use Rattle.zk_code.specs.declared.instr.Instr.{Instr}
use Rattle.zk_code.specs.declared.opcode.Opcode.{Opcode}
use Rattle.zk_code.specs.declared.opcode.Opcode.TheVariants as opcode
use Rattle.zk_code.specs.declared.opcode.Printing.{Printing}
use Rattle.zk_code.specs.declared.opcode.Printing.TheVariants.{PrintAddr, PrintPaddr}
use Rattle.zk_code.specs.Reading.{instr_at}
use Rattle.zk_step.specs.declared.state.game_state.GameState.{GameState}
use Rattle.zk_strict.specs.Values.{first_taken}

-- `print_addr` takes a byte address, and `print_paddr` a packed address (section 15)
abbrev pub printed_by : ℕ → Printing → ℕ → Option ℕ
printed_by version PrintAddr value = Some value
printed_by version PrintPaddr value = Some (unpacked version value)
printed_by version _ value = None

-- by the value that a step takes for the operand
abbrev pub text_of_opcode : ℕ → Opcode → Option ℕ → Option ℕ
text_of_opcode version (opcode.Printing operation) value = option_and_then (printed_by version operation) value
text_of_opcode version _ value = None

abbrev pub text_of_values : GameState → Instr → Option ℕ
text_of_values w i = text_of_opcode w.memory.version i.opcode (first_taken w i.operands)

abbrev pub text_of_any : (Instr → Option ℕ) → Result Instr Fault → Option ℕ
text_of_any text (Ok i) = text i
text_of_any text (Err f) = None

-- of the instruction at a byte address, before it is carried out
abbrev pub text_next : GameState → ℕ → Option ℕ
text_next w a = text_of_any (text_of_values w) (instr_at w.memory a)
