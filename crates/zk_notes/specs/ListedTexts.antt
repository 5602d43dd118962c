-- The texts of a listing: those that instructions print themselves, and those that lie apart from code.
use Rattle.std.specs.Prelude.{ℕ, List, Option, Some, None, Result, Ok, Err, option_map}
use Rattle.std.specs.List.{filter_map}
use Rattle.zk_code.specs.Reading.{instr_at}
use Rattle.zk_code.specs.declared.instr.Instr.{Instr}
use Rattle.zk_mem.specs.Map.{MemoryMap}
use Rattle.zk_mem.specs.declared.fault.Fault.{Fault}
use Rattle.zk_inspect.specs.declared.fact.Fact.{Fact}
use Rattle.zk_inspect.specs.declared.fact.Fact.TheVariants as fact

-- an address, where the instruction there has a text in it (section 4.8)
abbrev pub text_at : ℕ → Result Instr Fault → Option ℕ
text_at a (Ok i) = option_map (λ t. a) i.text
text_at a (Err e) = None

abbrev pub text_of : MemoryMap → Fact → Option ℕ
text_of m (fact.Instruction a) = text_at a (instr_at m a)
text_of m (fact.Text a) = Some a
text_of m _ = None

-- the addresses of the texts of a listing
abbrev pub texts_in : MemoryMap → List Fact → List ℕ
texts_in m facts = filter_map (text_of m) facts
