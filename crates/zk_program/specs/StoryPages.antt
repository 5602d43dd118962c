-- What the page of a story takes.
use Rattle.std.specs.Prelude.{ℕ, ◌==◌, ◌||◌, Bool, List, [], ◌∷◌}
use Rattle.std.specs.List.{starts_with}

-- bytes begin as a PNG picture (section 5.2 of its specification), or as a JPEG one (section B.1.1.3 of ITU-T T.81)
abbrev pub is_picture : List ℕ → Bool
is_picture bytes =
    starts_with ◌==◌ bytes (137 ∷ 80 ∷ 78 ∷ 71 ∷ 13 ∷ 10 ∷ 26 ∷ 10 ∷ [])
    || starts_with ◌==◌ bytes (255 ∷ 216 ∷ 255 ∷ [])
