-- What is shown of the lines that are read.
use Rattle.std.specs.Prelude.{◌≡◌, ℕ, Bool, true, false, not, List, [], ◌∷◌, Option, nat_eq}
use Rattle.std.specs.Io.KnownBytes.{Appends}
use Rattle.zk_term.specs.Devices.{TookPart}

-- the bytes that were read; at the end of the input (none was read) a new line, where the last line has none
abbrev pub shown_of : List ℕ → Bool → List ℕ
shown_of [] true = 10 ∷ []
shown_of [] false = []
shown_of (b ∷ bs) in_line = b ∷ bs

-- whether a line is open after what is shown of a byte, or of the end of the input
abbrev pub in_line_after : List ℕ → Bool
in_line_after [] = false
in_line_after (b ∷ bs) = not (nat_eq b 10)

-- a screen took all bytes, or where one of its writes has failed a first part
pub record TookAll (old new : Option (List ℕ)) (failed : Bool) (bytes : List ℕ) : Type 0 where
  pub part : TookPart old new bytes
  pub all : failed ≡ false → Appends old new bytes
