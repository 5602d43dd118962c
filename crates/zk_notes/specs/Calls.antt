-- The routines of a listing, and the calls by constants in its code (section 6.4).
use Rattle.std.specs.Prelude.{ℕ, true, false, Bool, List, Option, None, Some, Result, Ok, Err, if◌then◌else◌, is_none}
use Rattle.std.specs.Prelude.{option_and_then, option_map}
use Rattle.std.specs.List.{filter_map}
use Rattle.zk_code.specs.Reach.{constant_call}
use Rattle.zk_code.specs.Reading.{instr_at}
use Rattle.zk_code.specs.Routines.{count_at}
use Rattle.zk_code.specs.declared.instr.Instr.{Instr}
use Rattle.zk_mem.specs.Map.{MemoryMap}
use Rattle.zk_mem.specs.declared.fault.Fault.{Fault}
use Rattle.zk_inspect.specs.declared.fact.Fact.{Fact}
use Rattle.zk_inspect.specs.declared.fact.Fact.TheVariants as fact
use Rattle.zk_notes.specs.declared.calls.Call.{Call}
use Rattle.zk_notes.specs.declared.calls.Routine.{Routine}

-- a routine that is listed; one that is not reached lies beside
abbrev pub listed_routine : Fact → Option Routine
listed_routine (fact.Routine r) = Some (record { address = r; beside = false })
listed_routine (fact.LyingRoutine r reached) =
    Some (record { address = r; beside = if reached then false else true })
listed_routine _ = None

abbrev pub listed_routines : List Fact → List Routine
listed_routines facts = filter_map listed_routine facts

-- an address, where a routine stands there
abbrev pub where_routine : MemoryMap → ℕ → Option ℕ
where_routine m r = option_map (λ count. r) (count_at m r)

-- the routine that an instruction calls by a constant
abbrev pub called_by : MemoryMap → Result Instr Fault → Option ℕ
called_by m (Ok i) = option_and_then (where_routine m) (constant_call m i)
called_by m (Err e) = None

abbrev pub called_at : MemoryMap → ℕ → Option ℕ
called_at m a = called_by m (instr_at m a)

-- a call that is listed
abbrev pub call_in : MemoryMap → Fact → Option Call
call_in m (fact.Instruction a) = option_map (λ r. record { at = a; called = r }) (called_at m a)
call_in m _ = None

abbrev pub calls_of : MemoryMap → List Fact → List Call
calls_of m facts = filter_map (call_in m) facts
