-- Worked examples of what operands stand for, by section 15, and of lines.
use Rattle.std.specs.Prelude.{◌≡◌, true, false, [], ◌∷◌, codes, Some, None}
use Rattle.zk_code.specs.declared.opcode.Opcode.TheVariants as opcode
use Rattle.zk_code.specs.declared.opcode.Array.TheVariants.{Loadw}
use Rattle.zk_code.specs.declared.opcode.Assignment.TheVariants.{Store, Pop, Pull}
use Rattle.zk_code.specs.declared.opcode.Call.TheVariants.{Call2s}
use Rattle.zk_code.specs.declared.opcode.ObjectChange.TheVariants.{InsertObj, PutProp, SetAttr}
use Rattle.zk_code.specs.declared.opcode.ObjectQuestion.TheVariants.{GetProp, GetPropLen, Jin, TestAttr}
use Rattle.zk_code.specs.declared.opcode.Printing.TheVariants.{PrintObj, PrintNum}
use Rattle.zk_code.specs.declared.opcode.Table.TheVariants.{CopyTable}
use Rattle.zk_named.specs.declared.meanings.OperandKind.TheVariants.{Number, Routine, Object, Property, Attribute}
use Rattle.zk_named.specs.declared.meanings.OperandKind.TheVariants.{Array}
use Rattle.zk_named.specs.Meanings.{kind_of, names_variable}
use Rattle.zk_named.specs.SourceLines.{line_at}
use Rattle.zk_named.specs.Words.{is_one_word, stands_as_word}

-- `call_2s routine argument`, `insert_obj object destination`, `put_prop object property value`, and so on
abbrev pub OperandsHaveKinds : Type 0
OperandsHaveKinds =
    (kind_of (opcode.Call Call2s) 0 ≡ Routine)
    × (kind_of (opcode.Call Call2s) 1 ≡ Number)
    × (kind_of (opcode.ObjectChange InsertObj) 0 ≡ Object)
    × (kind_of (opcode.ObjectChange InsertObj) 1 ≡ Object)
    × (kind_of (opcode.ObjectChange PutProp) 1 ≡ Property)
    × (kind_of (opcode.ObjectChange PutProp) 2 ≡ Number)
    × (kind_of (opcode.ObjectChange SetAttr) 1 ≡ Attribute)
    × (kind_of (opcode.ObjectQuestion Jin) 1 ≡ Object)
    × (kind_of (opcode.ObjectQuestion TestAttr) 0 ≡ Object)
    × (kind_of (opcode.ObjectQuestion TestAttr) 1 ≡ Attribute)
    × (kind_of (opcode.ObjectQuestion GetProp) 1 ≡ Property)

-- `get_prop_len` has an address, `print_num` a number; the index of an array, and the size of a table, have no names
abbrev pub OthersAreNumbers : Type 0
OthersAreNumbers =
    (kind_of (opcode.ObjectQuestion GetPropLen) 0 ≡ Number)
    × (kind_of (opcode.Printing PrintNum) 0 ≡ Number)
    × (kind_of (opcode.Printing PrintObj) 0 ≡ Object)
    × (kind_of (opcode.Array Loadw) 0 ≡ Array)
    × (kind_of (opcode.Array Loadw) 1 ≡ Number)
    × (kind_of (opcode.Table CopyTable) 1 ≡ Array)
    × (kind_of (opcode.Table CopyTable) 2 ≡ Number)

-- `store` and `pull` name a variable, `pop` has no operand
abbrev pub VariablesAreNamed : Type 0
VariablesAreNamed =
    (names_variable (opcode.Assignment Store) ≡ true)
    × (names_variable (opcode.Assignment Pull) ≡ true)
    × (names_variable (opcode.Assignment Pop) ≡ false)
    × (names_variable (opcode.Array Loadw) ≡ false)

-- lines count from 1
abbrev pub LinesCountFromOne : Type 0
LinesCountFromOne =
    (line_at (codes "a" ∷ codes "b" ∷ []) 0 ≡ None)
    × (line_at (codes "a" ∷ codes "b" ∷ []) 1 ≡ Some (codes "a"))
    × (line_at (codes "a" ∷ codes "b" ∷ []) 2 ≡ Some (codes "b"))
    × (line_at (codes "a" ∷ codes "b" ∷ []) 3 ≡ None)

-- a name of Inform's own may have spaces
abbrev pub WordsHaveNoSpaces : Type 0
WordsHaveNoSpaces = (is_one_word (codes "door_to") ≡ true) × (is_one_word (codes "inheritance class") ≡ false)

-- names of the story's own stand in quotation marks, also with spaces
abbrev pub OwnNamesAreWords : Type 0
OwnNamesAreWords =
    (stands_as_word (codes "\"brass lantern\"") ≡ true)
    × (stands_as_word (codes "lantern") ≡ true)
    × (stands_as_word (codes "brass lantern") ≡ false)
    × (stands_as_word (codes "brass \"lantern\"") ≡ false)
