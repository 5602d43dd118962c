-- What is typed (Standard, sections 3.8 and 10.5).
use Rattle.std.specs.Prelude.{ℕ, Bool, not, ◌&&◌, ◌||◌, List, length, Some, nat_le, nat_lt, ◌==◌, if◌then◌else◌}
use Rattle.std.specs.List.{list_all}
use Rattle.zk_text.specs.Extra.{ExtraTable}
use Rattle.zk_term.specs.Characters.{typed_code}

-- no byte is a new line
abbrev pub is_plain : List ℕ → Bool
is_plain bytes = list_all (λ b. not (b == 10)) bytes

-- bytes are a line: none is a new line, and they are fewer than 65,536
abbrev pub is_line : List ℕ → Bool
is_line bytes = nat_lt (length bytes) 65536 && is_plain bytes

-- keys that give no character: delete, escape and the function keys (section 3.8)
abbrev pub is_key : ℕ → Bool
is_key c = c == 8 || c == 27 || nat_le 129 c && nat_le c 154

-- a typed character as a ZSCII code: 13 for a new line; where there are such keys, each is its own
abbrev pub character_code : ExtraTable → Bool → ℕ → ℕ
character_code t keys c =
    if c == 10 || c == 13 then 13 else if keys && is_key c then c else typed_code t (Some c)
