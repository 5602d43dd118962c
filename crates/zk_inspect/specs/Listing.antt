-- The lines of a disassembly, by the names and operands of the Standard's sections 4, 14 and 15. What a line looks like
-- is zkit's choice.
use Rattle.std.specs.Prelude.{ℕ, ◌-◌, ◌==◌, Bool, true, false, List, [], ◌∷◌, ◌++◌, map, Option, Some, None, Result, Ok}
use Rattle.std.specs.Prelude.{Err, nat_lt, unwrap_or, get_or, codes, decimal, encode_utf8_all, if◌then◌else◌}
use Rattle.std.specs.List.{flat_map}
use Rattle.zk_mem.specs.declared.fault.Fault.{Fault}
use Rattle.zk_mem.specs.Faults.{fault_number}
use Rattle.zk_mem.specs.Map.{MemoryMap}
use Rattle.zk_text.specs.Extra.{own_characters}
use Rattle.zk_text.specs.Meaning.{Units, text_units}
use Rattle.zk_text.specs.Shown.{shown_all}
use Rattle.zk_code.specs.declared.branch.Branch.{Branch}
use Rattle.zk_code.specs.declared.branch.BranchTarget.{BranchTarget}
use Rattle.zk_code.specs.declared.branch.BranchTarget.TheVariants.{ReturnFalse, ReturnTrue, At, Below, Past}
use Rattle.zk_code.specs.declared.instr.Instr.{Instr}
use Rattle.zk_code.specs.declared.opcode.Opcode.{Opcode}
use Rattle.zk_code.specs.declared.opcode.Opcode.TheVariants.{Assignment}
use Rattle.zk_code.specs.declared.opcode.Assignment.{Assignment as AssignmentOperation}
use Rattle.zk_code.specs.declared.opcode.Assignment.TheVariants.{Pop}
use Rattle.zk_code.specs.declared.operands.Operand.{Operand}
use Rattle.zk_code.specs.declared.operands.Operand.TheVariants.{Large, Small, Variable}
use Rattle.zk_code.specs.Operands.{constant_of}
use Rattle.zk_code.specs.Reach.{is_jump, jump_address}
use Rattle.zk_code.specs.Reading.{instr_at}
use Rattle.zk_code.specs.Routines.{count_at}
use Rattle.zk_code.specs.Table.{name_of}
use Rattle.zk_inspect.specs.declared.fact.Fact.{Fact}
use Rattle.zk_inspect.specs.declared.fact.Fact.TheVariants as fact
use Rattle.zk_inspect.specs.declared.reach.code.Code.{Code}
use Rattle.zk_inspect.specs.declared.whole.Whole.{Whole}
use Rattle.zk_term.specs.Numbers.{address_digits, word_digits, byte_digits}

-- a variable: the stack, a local one, a global one (section 4.2.2)
unfoldable pub variable_text : ℕ → List ℕ
variable_text v =
    if v == 0 then codes "sp"
    else if nat_lt v 16 then codes "l" ++ decimal v
    else codes "g" ++ decimal (v - 16)

-- an operand: a constant by its two or four digits, or a variable (section 4.2)
unfoldable pub operand_text : Operand → List ℕ
operand_text (Large value) = codes "#" ++ word_digits value
operand_text (Small value) = codes "#" ++ byte_digits value
operand_text (Variable number) = variable_text number

-- of the opcodes on variables all but `pop` take the number of one (section 15)
abbrev pub takes_variable : AssignmentOperation → Bool
takes_variable Pop = false
takes_variable _ = true

-- whether the first operand is the number of a variable (section 15)
abbrev pub names_variable : Opcode → Bool
names_variable (Assignment operation) = takes_variable operation
names_variable _ = false

-- a constant that is the number of a variable, where it is one
abbrev pub reference_text : Operand → Option ℕ → List ℕ
reference_text o None = operand_text o
reference_text o (Some v) = if nat_lt v 256 then codes "&" ++ variable_text v else operand_text o

-- the operand of a jump, where it leads to an address in the story
abbrev pub jump_text : Operand → Option ℕ → List ℕ
jump_text o None = operand_text o
jump_text o (Some a) = address_digits a

-- the first operand
unfoldable pub first_text : MemoryMap → Instr → Operand → List ℕ
first_text m i o =
    if names_variable i.opcode then reference_text o (constant_of o)
    else if is_jump i.opcode then jump_text o (jump_address m i)
    else operand_text o

-- an operand after another
abbrev pub further_text : Operand → List ℕ
further_text o = 32 ∷ operand_text o

-- the operands, each after a space
unfoldable pub operands_text : MemoryMap → Instr → List Operand → List ℕ
operands_text m i [] = []
operands_text m i (o ∷ os) = (32 ∷ first_text m i o) ++ flat_map further_text os

-- the variable that takes the result (section 4.6)
unfoldable pub store_text : Option ℕ → List ℕ
store_text None = []
store_text (Some v) = codes " -> " ++ variable_text v

-- where a branch leads (section 4.7)
unfoldable pub target_text : BranchTarget → List ℕ
target_text ReturnFalse = codes "rfalse"
target_text ReturnTrue = codes "rtrue"
target_text (At a) = address_digits a
target_text (Below d) = codes "-" ++ address_digits d
target_text (Past a) = address_digits a

-- a branch, with a tilde where it is taken on false (section 4.7)
unfoldable pub branch_text : Option Branch → List ℕ
branch_text None = []
branch_text (Some b) = (if b.on then codes " ?" else codes " ?~") ++ target_text b.target

-- a character between quotes: a new line as a circumflex, and a quote as a tilde
abbrev pub quoted_character : ℕ → ℕ
quoted_character c = if c == 10 then 94 else if c == 34 then 126 else c

-- characters between quotes
unfoldable pub quoted_bytes : List ℕ → List ℕ
quoted_bytes cs = encode_utf8_all (map quoted_character cs)

-- what a text prints, between quotes, or why it has no meaning (section 3)
unfoldable pub units_text : MemoryMap → Units → List ℕ
units_text m (Ok us) = codes "\"" ++ quoted_bytes (shown_all (own_characters m) us) ++ codes "\""
units_text m (Err f) = codes "! F" ++ decimal (fault_number f)

-- the text of an instruction (section 4.8)
unfoldable pub text_text : MemoryMap → Option ℕ → List ℕ
text_text m None = []
text_text m (Some a) = codes " " ++ units_text m (text_units m a)

-- an instruction: its name, operands, store variable, branch and text
unfoldable pub instruction_text : MemoryMap → Instr → List ℕ
instruction_text m i =
    name_of m.version i.opcode ++ operands_text m i i.operands ++ store_text i.store ++ branch_text i.branch
    ++ text_text m i.text

-- an instruction, or a question mark where there is none
abbrev pub found_text : MemoryMap → Result Instr Fault → List ℕ
found_text m (Ok i) = instruction_text m i
found_text m (Err f) = codes "?"

-- the line of an address
unfoldable pub address_line : MemoryMap → ℕ → List ℕ
address_line m a = address_digits a ++ codes " " ++ found_text m (instr_at m a)

-- the line of a routine, with the count of its local variables (section 5.2)
unfoldable pub routine_line : MemoryMap → ℕ → List ℕ
routine_line m r = codes "routine " ++ address_digits r ++ codes " locals " ++ decimal (unwrap_or (count_at m r) 0)

-- the line of a routine, with whether it is reached, or lies beside
unfoldable pub origin_line : MemoryMap → ℕ → Bool → List ℕ
origin_line m r reached = routine_line m r ++ (if reached then codes " reached" else codes " beside")

-- each address, then each routine
unfoldable pub code_facts : Code → List Fact
code_facts code = map fact.Instruction code.addresses ++ map fact.Routine code.routines

-- a routine of a whole story
abbrev pub lying_routine : List Bool → ℕ → Fact
lying_routine reached r = fact.LyingRoutine r (get_or reached r false)

-- the same of a whole story
unfoldable pub whole_facts : Whole → List Fact
whole_facts w = map fact.Instruction w.code.addresses ++ map (lying_routine w.reached) w.code.routines
