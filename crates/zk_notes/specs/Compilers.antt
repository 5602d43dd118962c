-- Compilers, by the headers of stories.
use Rattle.std.specs.Prelude.{ℕ, ◌==◌, ◌&&◌, Bool, false, List, [], ◌∷◌, take, drop, if◌then◌else◌, Option, Some, None}
use Rattle.std.specs.Char.{is_ascii_digit}

-- a digit, a full stop (46) and two digits
abbrev pub is_version : List ℕ → Bool
is_version (a ∷ b ∷ c ∷ d ∷ []) = is_ascii_digit a && (b == 46) && is_ascii_digit c && is_ascii_digit d
is_version _ = false

-- the version of Inform at the bytes 60 to 63 of a story's header
unfoldable pub compiler_of : List ℕ → Option (List ℕ)
compiler_of header =
    let version = take 4 (drop 60 header) in
    if is_version version then Some version else None
