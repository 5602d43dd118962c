-- The characters of bytes that should be UTF-8 (Unicode Standard, definition D92), and a typed line's codes.
use Rattle.std.specs.Prelude.{◌≡◌, ℕ, zero, suc, ◌-◌, Bool, ◌&&◌, List, [], ◌∷◌, ◌++◌, length, take, map, slice_get}
use Rattle.std.specs.Prelude.{Option, Some, None, chars, encode_utf8, nat_le, ◌==◌, unwrap_or, if◌then◌else◌}
use Rattle.std.specs.Char.{IsScalar, len_utf8}
use Rattle.std.specs.Str.{is_utf8}
use Rattle.zk_text.specs.Extra.{ExtraTable, code_of}

-- bytes spell characters: each is a character in UTF-8, or a single byte with which no character begins
pub data Spells : List ℕ → List (Option ℕ) → Type 0 where
  Ends : Spells [] []
  Character : (c : ℕ) (bytes : List ℕ) (characters : List (Option ℕ)) → IsScalar c → Spells bytes characters
      → Spells (encode_utf8 c ++ bytes) (Some c ∷ characters)
  Stray : (b : ℕ) (bytes : List ℕ) (characters : List (Option ℕ))
      → ((c : ℕ) (rest : List ℕ) → IsScalar c → b ∷ bytes ≡ encode_utf8 c ++ rest → ⊥) → Spells bytes characters
      → Spells (b ∷ bytes) (None ∷ characters)

-- ---- the same, from the front of the bytes on

-- the first n bytes are one or more characters
unfoldable pub begins_with_characters : ℕ → List ℕ → Bool
begins_with_characters n bytes = nat_le n (length bytes) && is_utf8 (take n bytes)

-- how many bytes the character takes with which bytes begin, or 0: one to four
unfoldable pub character_length : List ℕ → ℕ
character_length bytes =
    if begins_with_characters 1 bytes then 1
    else if begins_with_characters 2 bytes then 2
    else if begins_with_characters 3 bytes then 3
    else if begins_with_characters 4 bytes then 4
    else 0

-- the first character of the first n bytes: none where n is 0
abbrev pub character_of : ℕ → List ℕ → Option ℕ
character_of n bytes = slice_get (chars (take n bytes)) 0

-- how many bytes a character takes, and a stray byte
abbrev pub character_step : Option ℕ → ℕ
character_step None = 1
character_step (Some c) = len_utf8 c

-- the characters of bytes of which the first so many belong to a character before them
unfoldable pub characters_past : ℕ → List ℕ → List (Option ℕ)
characters_past n [] = []
characters_past (suc n) (b ∷ bytes) = characters_past n bytes
characters_past zero (b ∷ bytes) =
    character_of (character_length (b ∷ bytes)) (b ∷ bytes) ∷ characters_past (character_length (b ∷ bytes) - 1) bytes

-- the characters of bytes
unfoldable pub characters_of : List ℕ → List (Option ℕ)
characters_of bytes = characters_past 0 bytes

-- ---- codes

-- a typed character as a ZSCII code: a tab is a space, and what has no code is a question mark (Standard, section
-- 3.8)
abbrev pub typed_code : ExtraTable → Option ℕ → ℕ
typed_code t None = 63
typed_code t (Some c) = if c == 9 then 32 else unwrap_or (code_of t c) 63

-- the codes of a line: of its first 255 characters
unfoldable pub line_codes : ExtraTable → List ℕ → List ℕ
line_codes t bytes = take 255 (map (typed_code t) (characters_of bytes))

-- ---- laws

-- what is computed is what the bytes spell
abbrev pub CharactersAreSpelled : Type 0
CharactersAreSpelled = (bytes : List ℕ) → Spells bytes (characters_of bytes)

-- bytes spell one list of characters
abbrev pub CharactersAreDetermined : Type 0
CharactersAreDetermined = (bytes : List ℕ) (cs ds : List (Option ℕ)) → Spells bytes cs → Spells bytes ds → cs ≡ ds
