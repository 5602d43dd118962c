-- Disassemblies with marks at what ran.
use Rattle.std.specs.Prelude.{ℕ, ◌==◌, ◌&&◌, Bool, true, false, List, ◌++◌, codes, is_ok, nat_lt}
use Rattle.std.specs.Prelude.{length, count_by, decimal}
use Rattle.std.specs.Prelude.{if◌then◌else◌, Option, Some, None}
use Rattle.std.specs.List.{filter_map, find, flat_map, list_any}
use Rattle.zk_code.specs.Reading.{instr_at}
use Rattle.zk_mem.specs.Map.{MemoryMap}
use Rattle.zk_inspect.specs.Lines.{fact_line}
use Rattle.zk_inspect.specs.declared.fact.Fact.{Fact}
use Rattle.zk_inspect.specs.declared.fact.Fact.TheVariants as fact

-- the address of what stands where code comes to
abbrev pub instruction_of : Fact → Option ℕ
instruction_of (fact.Instruction a) = Some a
instruction_of _ = None

-- the address of a routine
abbrev pub routine_of : Fact → Option ℕ
routine_of (fact.Routine r) = Some r
routine_of (fact.LyingRoutine r reached) = Some r
routine_of _ = None

-- the address of an instruction: none where the bytes spell none, and a question mark is listed
abbrev pub decoded_of : MemoryMap → Fact → Option ℕ
decoded_of m (fact.Instruction a) = if is_ok (instr_at m a) then Some a else None
decoded_of m _ = None

-- the addresses of the instructions and of the routines that are listed
abbrev pub instructions_in : MemoryMap → List Fact → List ℕ
instructions_in m facts = filter_map (decoded_of m) facts

abbrev pub routines_in : List Fact → List ℕ
routines_in facts = filter_map routine_of facts

-- an instruction ran if its address is covered
abbrev pub has_run : List ℕ → ℕ → Bool
has_run covered address = list_any (λ a. a == address) covered

-- the first of addresses that is above another
abbrev pub first_above : ℕ → List ℕ → Option ℕ
first_above address addresses = find (λ a. nat_lt address a) addresses

abbrev pub is_below : ℕ → Option ℕ → Bool
is_below address None = true
is_below address (Some other) = nat_lt address other

-- an instruction that a routine begins with ran, and stands before the next routine
abbrev pub has_begun : List ℕ → Option ℕ → Option ℕ → Bool
has_begun covered None next = false
has_begun covered (Some first) next = is_below first next && has_run covered first

-- a routine ran if the first instruction above its address did
unfoldable pub was_entered : List ℕ → List ℕ → List ℕ → ℕ → Bool
was_entered covered instructions routines routine =
    has_begun covered (first_above routine instructions) (first_above routine routines)

abbrev pub found_ran : List ℕ → List ℕ → List ℕ → Option ℕ → Option ℕ → Bool
found_ran covered instructions routines (Some instruction) routine = has_run covered instruction
found_ran covered instructions routines None (Some routine) = was_entered covered instructions routines routine
found_ran covered instructions routines None None = false

-- whether what is listed ran, where so many instructions and routines are listed
abbrev pub fact_ran : List ℕ → List ℕ → List ℕ → Fact → Bool
fact_ran covered instructions routines f = found_ran covered instructions routines (instruction_of f) (routine_of f)

-- a line with its mark
abbrev pub marked_line : Bool → List ℕ → List ℕ
marked_line ran line = (if ran then codes "+ " else codes "  ") ++ line ++ codes "\n"

-- the line of a fact with its mark
abbrev pub marked_fact : Bool → MemoryMap → List ℕ → List ℕ → List ℕ → Fact → List ℕ
marked_fact notes m covered instructions routines f =
    marked_line (fact_ran covered instructions routines f) (fact_line notes m f)

-- the lines of code with their marks, where the addresses that ran are known
unfoldable pub marked_facts : Bool → MemoryMap → List ℕ → List Fact → List ℕ
marked_facts notes m covered facts =
    flat_map (marked_fact notes m covered (instructions_in m facts) (routines_in facts)) facts

-- how many of what is listed ran, and words
abbrev pub share_of : ℕ → ℕ → List ℕ → List ℕ
share_of ran listed words = decimal ran ++ codes " of " ++ decimal listed ++ words

-- the line that says how many instructions and routines ran
unfoldable pub ran_line : ℕ → ℕ → ℕ → ℕ → List ℕ
ran_line ran listed entered routines =
    codes "ran: " ++ share_of ran listed (codes " instructions, ") ++ share_of entered routines (codes " routines\n")

-- the line that says how many instructions ran
abbrev pub instructions_line : ℕ → ℕ → List ℕ
instructions_line ran listed = codes "ran: " ++ share_of ran listed (codes " instructions\n")

-- and by what is listed
abbrev pub summary_of : List ℕ → List ℕ → List ℕ → List ℕ
summary_of covered instructions routines =
    ran_line (count_by (has_run covered) instructions) (length instructions)
    (count_by (was_entered covered instructions routines) routines) (length routines)

-- code with its marks, and how much of it ran
abbrev pub marked_of : Bool → MemoryMap → List ℕ → List Fact → List ℕ
marked_of notes m covered facts =
    marked_facts notes m covered facts ++ summary_of covered (instructions_in m facts) (routines_in facts)
