-- Tests on the code of a story.
use Rattle.std.specs.Prelude.{ℕ, Bool, true, false, ◌||◌, Option, Some, None, is_none, Result, Ok, Err, is_err, nat_lt}
use Rattle.zk_mem.specs.declared.fault.Fault.{Fault}
use Rattle.zk_mem.specs.Map.{MemoryMap}
use Rattle.zk_code.specs.declared.branch.Branch.{Branch}
use Rattle.zk_code.specs.declared.branch.BranchTarget.{BranchTarget}
use Rattle.zk_code.specs.declared.branch.BranchTarget.TheVariants.{Below, Past}
use Rattle.zk_code.specs.declared.instr.Instr.{Instr}
use Rattle.zk_code.specs.Reach.{constant_call, constant_jump}
use Rattle.zk_code.specs.Reading.{instr_at}
use Rattle.zk_code.specs.Routines.{count_at}
use Rattle.zk_inspect.specs.declared.check.CodeQuestion.{CodeQuestion}
use Rattle.zk_inspect.specs.declared.check.CodeQuestion.TheVariants.{Undecodable, LeadsOut, Low}
use Rattle.zk_inspect.specs.declared.check.finding.Number.{Number}
use Rattle.zk_inspect.specs.declared.check.finding.Number.TheVariants as number

-- there is no instruction at an address
abbrev pub is_undecodable : MemoryMap → ℕ → Bool
is_undecodable m a = is_err (instr_at m a)

-- a target lies outside the story (section 4.7)
abbrev pub is_outside : BranchTarget → Bool
is_outside (Below d) = true
is_outside (Past a) = true
is_outside _ = false

-- a branch leads there
abbrev pub branches_out : Option Branch → Bool
branches_out None = false
branches_out (Some b) = is_outside b.target

-- a jump does
abbrev pub jumps_out : Option BranchTarget → Bool
jumps_out None = false
jumps_out (Some t) = is_outside t

-- a call is of no routine
abbrev pub calls_out : MemoryMap → Option ℕ → Bool
calls_out m None = false
calls_out m (Some r) = is_none (count_at m r)

-- an instruction leads out of the story
abbrev pub instr_leads_out : MemoryMap → Instr → Bool
instr_leads_out m i = branches_out i.branch || jumps_out (constant_jump m i) || calls_out m (constant_call m i)

-- the instruction at an address does
abbrev pub found_leads_out : MemoryMap → Result Instr Fault → Bool
found_leads_out m (Ok i) = instr_leads_out m i
found_leads_out m (Err f) = false

abbrev pub leads_out : MemoryMap → ℕ → Bool
leads_out m a = found_leads_out m (instr_at m a)

-- a routine that is called lies below the static base
abbrev pub calls_low : MemoryMap → Option ℕ → Bool
calls_low m None = false
calls_low m (Some r) = nat_lt r m.static_base

-- what an instruction at an address does may be rewritten
abbrev pub instr_is_low : MemoryMap → ℕ → Instr → Bool
instr_is_low m a i = nat_lt a m.static_base || calls_low m (constant_call m i)

-- what the instruction at an address does may be
abbrev pub found_is_low : MemoryMap → ℕ → Result Instr Fault → Bool
found_is_low m a (Ok i) = instr_is_low m a i
found_is_low m a (Err f) = false

abbrev pub is_low : MemoryMap → ℕ → Bool
is_low m a = found_is_low m a (instr_at m a)

-- the answer to a question on an address
abbrev pub code_answer : MemoryMap → CodeQuestion → ℕ → Bool
code_answer m Undecodable a = is_undecodable m a
code_answer m LeadsOut a = leads_out m a
code_answer m Low a = is_low m a

-- the finding that a question asks for
abbrev pub code_number : CodeQuestion → Number
code_number Undecodable = number.UndecodableCode
code_number LeadsOut = number.TargetOutOfTheStory
code_number Low = number.CodeBelowTheStaticBase
