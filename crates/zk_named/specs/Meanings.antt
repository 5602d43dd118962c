-- What the constant operands of opcodes are numbers and addresses of (section 15), by their place, from 0.
use Rattle.std.specs.Prelude.{ℕ, zero, suc, Bool, true, false}
use Rattle.zk_code.specs.declared.opcode.Opcode.{Opcode}
use Rattle.zk_code.specs.declared.opcode.Opcode.TheVariants as opcode
use Rattle.zk_code.specs.declared.opcode.Assignment.{Assignment}
use Rattle.zk_code.specs.declared.opcode.Assignment.TheVariants.{Pop}
use Rattle.zk_code.specs.declared.opcode.ObjectChange.{ObjectChange}
use Rattle.zk_code.specs.declared.opcode.ObjectChange.TheVariants as change
use Rattle.zk_code.specs.declared.opcode.ObjectQuestion.{ObjectQuestion}
use Rattle.zk_code.specs.declared.opcode.ObjectQuestion.TheVariants as question
use Rattle.zk_code.specs.declared.opcode.Printing.{Printing}
use Rattle.zk_code.specs.declared.opcode.Printing.TheVariants.{PrintObj}
use Rattle.zk_named.specs.declared.meanings.OperandKind.{OperandKind}
use Rattle.zk_named.specs.declared.meanings.OperandKind.TheVariants.{Number, Routine, Object, Property, Attribute}
use Rattle.zk_named.specs.declared.meanings.OperandKind.TheVariants.{Array}

-- the second operand of a change of an object
abbrev pub changed_second : ObjectChange → OperandKind
changed_second change.SetAttr = Attribute
changed_second change.ClearAttr = Attribute
changed_second change.InsertObj = Object
changed_second change.PutProp = Property
changed_second change.RemoveObj = Number

-- the second operand of a question about an object
abbrev pub asked_second : ObjectQuestion → OperandKind
asked_second question.Jin = Object
asked_second question.TestAttr = Attribute
asked_second question.GetProp = Property
asked_second question.GetPropAddr = Property
asked_second question.GetNextProp = Property
asked_second _ = Number

-- the first one: `get_prop_len` has the address of a property's data
abbrev pub asked_first : ObjectQuestion → OperandKind
asked_first question.GetPropLen = Number
asked_first _ = Object

-- the operand of an opcode that prints
abbrev pub printed_first : Printing → OperandKind
printed_first PrintObj = Object
printed_first _ = Number

-- one of two operands, by their place
abbrev pub by_place : OperandKind → OperandKind → ℕ → OperandKind
by_place first second zero = first
by_place first second (suc zero) = second
by_place first second _ = Number

-- a constant operand of an opcode; tables of bytes and words that are read, searched or filled are arrays
abbrev pub kind_of : Opcode → ℕ → OperandKind
kind_of (opcode.Call c) place = by_place Routine Number place
kind_of (opcode.Printing p) place = by_place (printed_first p) Number place
kind_of (opcode.ObjectChange c) place = by_place Object (changed_second c) place
kind_of (opcode.ObjectQuestion q) place = by_place (asked_first q) (asked_second q) place
kind_of (opcode.Array a) place = by_place Array Number place
kind_of (opcode.Reading r) place = by_place Array Array place
kind_of (opcode.Words w) place = by_place Array Array place
kind_of (opcode.Table t) place = by_place Array Array place
kind_of _ place = Number

-- the first operand of an opcode on variables, but for `pop`, is the number of one
abbrev pub takes_variable : Assignment → Bool
takes_variable Pop = false
takes_variable _ = true

abbrev pub names_variable : Opcode → Bool
names_variable (opcode.Assignment a) = takes_variable a
names_variable _ = false
