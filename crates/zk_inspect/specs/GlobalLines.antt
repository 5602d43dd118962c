-- The global variables and their first values (Standard, section 6.2). What a line looks like is zkit's choice.
use Rattle.std.specs.Prelude.{ℕ, ◌+◌, ◌*◌, ◌==◌, List, [], ◌++◌, map, Result, Ok, Err, codes, decimal, if◌then◌else◌}
use Rattle.std.specs.List.{range_with_len}
use Rattle.zk_mem.specs.declared.fault.Fault.{Fault}
use Rattle.zk_mem.specs.Faults.{fault_number}
use Rattle.zk_mem.specs.Header.{header_of}
use Rattle.zk_mem.specs.Map.{MemoryMap, word_at}
use Rattle.zk_term.specs.Numbers.{address_digits, word_digits}
use Rattle.zk_inspect.specs.declared.fact.Fact.{Fact}
use Rattle.zk_inspect.specs.declared.fact.Fact.TheVariants.{Global}

-- where the value of a global variable stands, counted from 0 (section 6.2)
abbrev pub global_place : MemoryMap → ℕ → ℕ
global_place m n = (header_of m.file).globals + 2 * n

-- a word as a constant, or why it can't be read
unfoldable pub word_text : Result ℕ Fault → List ℕ
word_text (Ok v) = codes "#" ++ word_digits v
word_text (Err f) = codes "! F" ++ decimal (fault_number f)

-- the name that a global variable has in a disassembly
unfoldable pub global_name : ℕ → List ℕ
global_name n = codes "g" ++ decimal n

-- the line of a global variable: its name, the address of its value, and the value
unfoldable pub global_line : MemoryMap → ℕ → List ℕ
global_line m n = global_name n ++ codes " " ++ address_digits (global_place m n) ++ codes " "
    ++ word_text (word_at m (global_place m n))

-- each of the 240, where the header names a table
unfoldable pub global_facts : MemoryMap → List Fact
global_facts m =
    if (header_of m.file).globals == 0 then []
    else map Global (range_with_len 0 240)
