-- The files of a story's source.
use Rattle.std.specs.Prelude.{◌≡◌, ◌⊎◌, ℕ, List, [], length, map, take, drop, codes}
use Rattle.std.specs.Char.{to_ascii_lowercase}

-- a text with small letters in place of the capital ones of ASCII
abbrev pub small : List ℕ → List ℕ
small text = map to_ascii_lowercase text

-- what a file's name may have behind the name that the source gives
abbrev pub IsEnding : List ℕ → Type 0
IsEnding ending = (ending ≡ []) ⊎ (small ending ≡ codes ".h") ⊎ (small ending ≡ codes ".inf")

-- a file's name is one that the source gives, with an ending behind it or none, in any case of letters
pub record IsSourceName (name given : List ℕ) : Type 0 where
  pub stem : small (take (length given) name) ≡ small given
  pub ending : IsEnding (drop (length given) name)
