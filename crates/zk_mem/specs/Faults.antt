-- The numbers that reports name faults by.
use Rattle.std.specs.Prelude.{ℕ}
use Rattle.zk_mem.specs.declared.fault.Fault.{Fault}
use Rattle.zk_mem.specs.declared.fault.Fault.TheVariants.{CodePastEnd, BadOpcode, MissingOperand, StackEmpty}
use Rattle.zk_mem.specs.declared.fault.Fault.TheVariants.{NoSuchLocal, BadAddress, ReadOnly, DivisionByZero, BadObject}
use Rattle.zk_mem.specs.declared.fault.Fault.TheVariants.{BadProperty, BadTree, TextPastEnd, NestedAbbreviation}
use Rattle.zk_mem.specs.declared.fault.Fault.TheVariants.{StreamDepth, BadFrame, ReturnFromMain, BadTarget}
use Rattle.zk_mem.specs.declared.fault.Fault.TheVariants.{BadDictionary}

-- the number of a fault
abbrev pub fault_number : Fault → ℕ
fault_number CodePastEnd = 1
fault_number BadOpcode = 2
fault_number MissingOperand = 3
fault_number StackEmpty = 4
fault_number NoSuchLocal = 5
fault_number BadAddress = 6
fault_number ReadOnly = 7
fault_number DivisionByZero = 8
fault_number BadObject = 9
fault_number BadProperty = 10
fault_number BadTree = 11
fault_number TextPastEnd = 12
fault_number NestedAbbreviation = 13
fault_number StreamDepth = 14
fault_number BadFrame = 15
fault_number ReturnFromMain = 16
fault_number BadTarget = 17
fault_number BadDictionary = 18
