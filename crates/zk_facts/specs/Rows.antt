-- Rows: how fields are written, so that each new line ends a row and each tab a field.
use Rattle.std.specs.Prelude.{ℕ, ◌==◌, List, [], ◌∷◌, if◌then◌else◌}

-- a byte of a field: a tab (9), a new line (10) and a backslash (92) are a backslash and a sign
abbrev pub escaped : ℕ → List ℕ
escaped b =
    if b == 9 then 92 ∷ 116 ∷ []
    else if b == 10 then 92 ∷ 110 ∷ []
    else if b == 92 then 92 ∷ 92 ∷ []
    else b ∷ []
