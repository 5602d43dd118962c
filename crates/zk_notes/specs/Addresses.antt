-- Addresses in lines.
use Rattle.std.specs.Prelude.{ℕ, ◌^◌, ◌&&◌, Bool, List, length, nat_le, nat_lt, if◌then◌else◌, Option, Some, None}
use Rattle.std.specs.List.{list_all}
use Rattle.std.specs.Char.{is_digit}
use Rattle.std.specs.Str.Parse.{digits_value}

abbrev pub is_hex_digit : ℕ → Bool
is_hex_digit b = is_digit b 16

-- a word is an address if it has hexadecimal digits alone, five at least, and 32 bits hold its value
unfoldable pub address_of : List ℕ → Option ℕ
address_of word =
    if (nat_le 5 (length word) && list_all is_hex_digit word) && nat_lt (digits_value 16 word) (2 ^ 32)
    then Some (digits_value 16 word)
    else None
