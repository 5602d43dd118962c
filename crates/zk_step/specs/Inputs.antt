-- Reads: what they wait for, and what an answer does (Standard, section 15, `sread`, `aread` and `read_char`).
use Rattle.std.specs.Prelude.{ℕ, Bool, List, Option, Some, None, Result, nat_lt, if◌then◌else◌}
use Rattle.zk_mem.specs.declared.fault.Fault.{Fault}
use Rattle.zk_mem.specs.Results.{◌>>=◌}
use Rattle.zk_code.specs.declared.instr.Instr.{Instr}
use Rattle.zk_code.specs.declared.opcode.Reading.{Reading}
use Rattle.zk_code.specs.declared.opcode.Reading.TheVariants.{Sread, Aread, ReadChar}
use Rattle.zk_step.specs.declared.state.ending.Effect.{Effect}
use Rattle.zk_step.specs.declared.state.ending.Event.TheVariants.{Line, Char}
use Rattle.zk_step.specs.declared.state.game_state.GameState.{GameState}
use Rattle.zk_step.specs.Endings.{awaits}
use Rattle.zk_step.specs.Finish.{gone_on}
use Rattle.zk_step.specs.TextBuffers.{line_put}
use Rattle.zk_step.specs.Values.{first, second}
use Rattle.zk_step.specs.Variables.{with_memory}

-- a read waits: for a line, which its text buffer and its parse buffer take, or for a character
unfoldable pub reading : Reading → List ℕ → Effect
reading Sread vs = awaits (Line (first vs) (second vs))
reading Aread vs = awaits (Line (first vs) (second vs))
reading ReadChar vs = awaits Char

-- from version 5 on a line gives the code that ended it
abbrev pub line_result : ℕ → ℕ → Option ℕ
line_result version ended = if nat_lt version 5 then None else Some ended

-- a read is answered by a line's codes, and the one that ended it: it is stored and divided into words, and the
-- instruction is finished
unfoldable pub line_answered : GameState → Instr → ℕ → ℕ → List ℕ → ℕ → Result (GameState × ℕ) Fault
line_answered w i text parse line ended =
    line_put w.memory text parse line >>= λ m. gone_on (with_memory w m) i (line_result m.version ended) None

-- an instruction is finished by a result and a truth, once these are known: where it stores the one, where it branches
-- by the other
unfoldable pub result_answered : GameState → Instr → ℕ → Bool → Result (GameState × ℕ) Fault
result_answered w i x truth = gone_on w i (Some x) (Some truth)

-- a read is answered by a character's code
unfoldable pub character_answered : GameState → Instr → ℕ → Result (GameState × ℕ) Fault
character_answered w i code = gone_on w i (Some code) None
