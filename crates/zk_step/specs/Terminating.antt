-- The codes that end a line (Standard, section 10.5.2.1): a new line, and from version 5 on the function keys that the
-- story lists in its table of terminating characters.
use Rattle.std.specs.Prelude.{ℕ, Bool, ◌&&◌, ◌||◌, List, [], ◌∷◌, take, drop, if◌then◌else◌, ◌==◌, nat_le}
use Rattle.std.specs.List.{list_any}
use Rattle.zk_mem.specs.Header.{header_of}
use Rattle.zk_mem.specs.Map.{MemoryMap, readable_end}

-- the codes of cursor keys, of F1 to F12, of the digits of a number pad, and of a mouse (section 3.8.4)
abbrev pub is_function_key : ℕ → Bool
is_function_key code = nat_le 129 code && nat_le code 154 || nat_le 252 code && nat_le code 254

-- bytes up to the first 0
unfoldable pub up_to_zero : List ℕ → List ℕ
up_to_zero [] = []
up_to_zero (b ∷ bs) = if b == 0 then [] else b ∷ up_to_zero bs

-- the table at an address: what readable memory has from there on, up to a 0; none where the address is 0
unfoldable pub terminating_at : MemoryMap → ℕ → List ℕ
terminating_at m address =
    if address == 0 then [] else up_to_zero (drop address (take (readable_end m) m.bytes))

-- a code stands for a key: it is the key's, or 255, which stands for all function keys
abbrev pub stands_for : ℕ → ℕ → Bool
stands_for key code = code == key || code == 255

-- a key is among codes up to the first 0
abbrev pub is_among : ℕ → List ℕ → Bool
is_among key bytes = list_any (stands_for key) (up_to_zero bytes)

-- a key ends a line
unfoldable pub is_terminating : MemoryMap → ℕ → Bool
is_terminating m key = key == 13 || is_function_key key
    && list_any (stands_for key) (terminating_at m (header_of m.file).terminating_characters)
