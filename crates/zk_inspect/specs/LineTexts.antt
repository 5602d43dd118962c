-- The text that the line of a fact shows.
use Rattle.std.specs.Prelude.{ℕ, Option, Some, None, Result, Ok, Err}
use Rattle.zk_mem.specs.declared.fault.Fault.{Fault}
use Rattle.zk_mem.specs.Map.{MemoryMap}
use Rattle.zk_text.specs.Meaning.{text_place}
use Rattle.zk_tables.specs.Properties.{name_of}
use Rattle.zk_code.specs.declared.instr.Instr.{Instr}
use Rattle.zk_code.specs.Reading.{instr_at}
use Rattle.zk_inspect.specs.declared.fact.Fact.{Fact}
use Rattle.zk_inspect.specs.declared.fact.Fact.TheVariants as fact

-- the text of an object's name, where it has one (section 12.4)
abbrev pub name_text : Result (Option ℕ) Fault → Option ℕ
name_text (Ok text) = text
name_text (Err f) = None

-- the text of an instruction (section 4.8)
abbrev pub inline_text : Result Instr Fault → Option ℕ
inline_text (Ok i) = i.text
inline_text (Err f) = None

-- the byte address of the text that the line of a fact shows, where it shows one
abbrev pub line_text : MemoryMap → Fact → Option ℕ
line_text m (fact.Abbreviation n) = text_place m n
line_text m (fact.Object o) = name_text (name_of m o)
line_text m (fact.Node row) = name_text (name_of m row.object)
line_text m (fact.Text a) = Some a
line_text m (fact.Instruction a) = inline_text (instr_at m a)
line_text m _ = None
