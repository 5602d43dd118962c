-- Output streams are selected and deselected (Standard, sections 7.1 and 15, `output_stream` and `input_stream`).
use Rattle.std.specs.Prelude.{Bool, true, false, ℕ, ◌-◌, List, slice_get, Option, Some, None, Result, Ok, Err, ◌==◌}
use Rattle.std.specs.Prelude.{if◌then◌else◌, bit_and, bit_or}
use Rattle.zk_mem.specs.declared.fault.Fault.{Fault}
use Rattle.zk_mem.specs.declared.fault.Fault.TheVariants.{BadAddress}
use Rattle.zk_mem.specs.Results.{◌>>=◌}
use Rattle.zk_mem.specs.Map.{byte_at, byte_put, word_put}
use Rattle.zk_code.specs.declared.opcode.Stream.{Stream}
use Rattle.zk_code.specs.declared.opcode.Stream.TheVariants.{OutputStream, InputStream}
use Rattle.zk_step.specs.declared.output.streams.OpenTable.{OpenTable}
use Rattle.zk_step.specs.declared.state.game_state.GameState.{GameState}
use Rattle.zk_step.specs.Streams.{OutputStreams, with_screen, opened, newest_of, closed}
use Rattle.zk_step.specs.Values.{first}
use Rattle.zk_step.specs.Variables.{with_memory}

-- a game state with other streams
abbrev pub with_streams : GameState → OutputStreams → GameState
with_streams w s = record w { streams = s }

-- stream 2, the transcript, is on while bit 0 of Flags 2 is set (section 7.4)
abbrev pub flags_2 : ℕ
flags_2 = 0x11

-- the byte with its bit 0 set or cleared
abbrev pub with_bit_0 : Bool → ℕ → ℕ
with_bit_0 true flags = bit_or flags 0b00000001
with_bit_0 false flags = bit_and flags 0b11111110

-- the transcript is turned on or off
abbrev pub transcript_set : Bool → GameState → Result GameState Fault
transcript_set on w = byte_at w.memory flags_2 >>= λ flags. byte_put w.memory flags_2 (with_bit_0 on flags) >>=
    λ m. Ok (with_memory w m)

-- a table is opened, where its address is given
abbrev pub table_opened : GameState → Option ℕ → Result GameState Fault
table_opened w None = opened w.streams 0 >>= λ s. Err BadAddress
table_opened w (Some address) = opened w.streams address >>= λ s. Ok (with_streams w s)

-- the newest table is closed: its first word says how many codes it got (section 7.1.2.1)
abbrev pub table_closed : GameState → Option OpenTable → Result GameState Fault
table_closed w None = Ok w
table_closed w (Some t) =
    word_put w.memory t.address t.count >>= λ m. Ok (with_streams (with_memory w m) (closed w.streams))

-- a negative number in 16 bits
abbrev pub minus : ℕ → ℕ
minus n = 65536 - n

-- a stream is selected, or deselected by its negative number (section 15, `output_stream`)
unfoldable pub stream_selected : GameState → List ℕ → Result GameState Fault
stream_selected w vs =
    if first vs == 1 then Ok (with_streams w (with_screen true w.streams))
    else if first vs == minus 1 then Ok (with_streams w (with_screen false w.streams))
    else if first vs == 2 then transcript_set true w
    else if first vs == minus 2 then transcript_set false w
    else if first vs == 3 then table_opened w (slice_get vs 1)
    else if first vs == minus 3 then table_closed w (newest_of w.streams.tables)
    else Ok w

-- what opcodes of streams change; input comes from the keyboard always
unfoldable pub stream_changed : Stream → GameState → List ℕ → Result GameState Fault
stream_changed OutputStream w vs = stream_selected w vs
stream_changed InputStream w vs = Ok w
