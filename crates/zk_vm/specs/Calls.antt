-- The calls that led to where a machine stands: of each routine that is open, what is told.
use Rattle.std.specs.Prelude.{◌≡◌, ℕ, List, reverse, slice_get, true, Option, Some, Ok, option_map}
use Rattle.zk_mem.specs.Header.{header_of}
use Rattle.zk_mem.specs.Map.{MemoryMap}
use Rattle.zk_code.specs.declared.instr.Instr.{Instr}
use Rattle.zk_code.specs.Reach.{is_call, constant_call}
use Rattle.zk_code.specs.Reading.{instr_at}
use Rattle.zk_code.specs.Routines.{count_at}
use Rattle.zk_state.specs.Frames.{Frame, FrameList, frames_of}

-- the frame of a number, where the first has number 0 (section 15, `throw`)
abbrev pub frame_at : FrameList → ℕ → Option Frame
frame_at s n = slice_get (reverse (frames_of s)) n

-- the local variables of the routine of a frame, and the byte address at which its caller goes on (sections 6.3.2 and
-- 6.4)
abbrev pub locals_and_return : FrameList → ℕ → Option (List ℕ × ℕ)
locals_and_return s n = option_map (λ f. (f.locals, f.pc)) (frame_at s n)

-- at a byte address stands a routine with so many local variables (section 5.2)
abbrev pub IsRoutineWith : MemoryMap → ℕ → ℕ → Type 0
IsRoutineWith m count r = count_at m r ≡ Some count

-- an instruction is a call after which its caller goes on at a byte address; where it calls by a constant, and the
-- routine that was called is known, it calls that one (section 6.4)
pub record IsCallTo (m : MemoryMap) (routine : Option ℕ) (goes_on : ℕ) (i : Instr) : Type 0 where
  pub calls : is_call i.opcode ≡ true
  pub next : i.next ≡ goes_on
  pub leads : (r c : ℕ) → routine ≡ Some r → constant_call m i ≡ Some c → c ≡ r

-- such a call stands at a byte address
abbrev pub StandsCallTo : MemoryMap → Option ℕ → ℕ → ℕ → Type 0
StandsCallTo m routine goes_on a = (i : Instr) × (instr_at m a ≡ Ok i) × IsCallTo m routine goes_on i

-- code leads from a byte address to another, from each instruction to what stands after it
pub data CodeLeads (m : MemoryMap) : ℕ → ℕ → Type 0 where
  Here : (a : ℕ) → CodeLeads m a a
  Behind : (a b : ℕ) (i : Instr) → instr_at m a ≡ Ok i → CodeLeads m i.next b → CodeLeads m a b

-- of a routine that the first frame has called: its call is told, where the code that the story begins with leads to it
-- from the first instruction on (section 5.5)
abbrev pub TellsCall : MemoryMap → Option ℕ → ℕ → Option ℕ → Type 0
TellsCall m routine goes_on call =
    (a : ℕ) → CodeLeads m (header_of m.file).first_instruction a → StandsCallTo m routine goes_on a → call ≡ Some a
