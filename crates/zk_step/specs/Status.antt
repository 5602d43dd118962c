-- The status line (Standard, section 8.2).
use Rattle.std.specs.Prelude.{◌≡◌, IsOk, Bool, false, ℕ, ◌/◌, ◌%◌, List, [], ◌∷◌, ◌++◌, map, Option, Some, None, Result}
use Rattle.std.specs.Prelude.{Ok, Err, if◌then◌else◌, ◌==◌, nat_lt}
use Rattle.std.specs.Int.{cast_signed, w16}
use Rattle.std.specs.Fmt.{decimal, signed_decimal}
use Rattle.zk_mem.specs.declared.fault.Fault.{Fault}
use Rattle.zk_mem.specs.Map.{MemoryMap, byte_at, word_at}
use Rattle.zk_mem.specs.Results.{◌>>=◌}
use Rattle.zk_text.specs.declared.unit.Unit as text
use Rattle.zk_text.specs.declared.unit.Unit.TheVariants.{Code}
use Rattle.zk_text.specs.Meaning.{text_units, checked_end}
use Rattle.zk_tables.specs.Properties.{name_of}
use Rattle.zk_step.specs.declared.output.status.StatusLine.{StatusLine}
use Rattle.zk_step.specs.Variables.{global_address}

-- units of ZSCII codes
abbrev pub code_units : List ℕ → List text.Unit
code_units cs = map (λ (c : ℕ). Code c) cs

-- the units of an object's short name
abbrev pub named : MemoryMap → Option ℕ → Result (List text.Unit) Fault
named m None = Ok []
named m (Some a) = checked_end m a >>= λ end. text_units m a

-- at least two digits
abbrev pub two_digits : ℕ → List ℕ
two_digits n = if nat_lt n 10 then 48 ∷ decimal n else decimal n

-- bit 1 of a byte is set
abbrev pub is_bit_1_set : Result ℕ Fault → Bool
is_bit_1_set (Ok flags) = flags / 2 % 2 == 1
is_bit_1_set (Err f) = false

-- bit 1 of Flags 1 says that a game of version 3 shows a time (section 8.2.3.2)
abbrev pub is_time_game : MemoryMap → Bool
is_time_game m = is_bit_1_set (byte_at m 1)

-- the score and the turns, or hours and minutes (section 8.2.3)
abbrev pub figures : Bool → ℕ → ℕ → List ℕ
figures time a b =
    if time then two_digits a ++ 58 ∷ two_digits b
    else signed_decimal (cast_signed w16 a) ++ 47 ∷ signed_decimal (cast_signed w16 b)

-- a status line of a name and figures (section 8.2.2)
abbrev pub line_units : List text.Unit → Bool → ℕ → ℕ → List text.Unit
line_units name time a b = Code 91 ∷ name ++ code_units (93 ∷ 32 ∷ figures time a b)

-- the short name of the object in the first global variable, and the figures in the next two (section 8.2.2)
unfoldable pub status_units : MemoryMap → Result (List text.Unit) Fault
status_units m = do
  object ← word_at m (global_address m 16)
  name ← name_of m object
  units ← named m name
  a ← word_at m (global_address m 17)
  b ← word_at m (global_address m 18)
  Ok (line_units units (is_time_game m) a b)

-- the parts that a status line is made of
pub record IsLineOf (m : MemoryMap) (s : StatusLine) : Type 0 where
  pub named_is : IsOk (named m s.name)
  pub units_are : (units : List text.Unit) → named m s.name ≡ Ok units
      → status_units m ≡ Ok (line_units units s.is_time s.first s.second)
