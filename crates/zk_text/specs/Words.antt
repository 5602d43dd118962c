-- The Z-characters of a text's words (Standard, section 3.2).
use Rattle.std.specs.Prelude.{ℕ, ◌/◌, ◌%◌, List, [], ◌∷◌}

-- the three Z-characters of each word, high to low
unfoldable pub z_characters : List ℕ → List ℕ
z_characters [] = []
z_characters (w ∷ ws) = w / 1024 % 32 ∷ w / 32 % 32 ∷ w % 32 ∷ z_characters ws
