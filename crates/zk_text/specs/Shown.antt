-- The characters that units show (Standard, sections 3.8 and 7.1).
use Rattle.std.specs.Prelude.{ℕ, List, [], ◌∷◌, ◌++◌, Option, Some, None, if◌then◌else◌, ◌==◌, nat_lt}
use Rattle.zk_text.specs.declared.unit.Unit.{Unit}
use Rattle.zk_text.specs.declared.unit.Unit.TheVariants.{Code, Character}
use Rattle.zk_text.specs.declared.shown.Shown.{Shown}
use Rattle.zk_text.specs.declared.shown.Shown.TheVariants.{Nothing, One, TwoSpaces}
use Rattle.zk_text.specs.Extra.{ExtraTable, character}

-- a character, and a question mark for a control character and for half of a surrogate pair
abbrev pub visible : ℕ → ℕ
visible c =
    if nat_lt c 32 then 63
    else if nat_lt c 127 then c
    else if nat_lt c 160 then 63
    else if nat_lt c 0xd800 then c
    else if nat_lt c 0xe000 then 63
    else c

-- a question mark where there is no character
abbrev pub visible_or_mark : Option ℕ → ℕ
visible_or_mark None = 63
visible_or_mark (Some c) = visible c

-- what a unit shows: null nothing, a tab a space, a sentence space two, a new line itself, other
-- codes and characters one character (sections 3.8.2 to 3.8.5)
unfoldable pub shown : ExtraTable → Unit → List ℕ
shown t (Code code) =
    if code == 0 then []
    else if code == 9 then 32 ∷ []
    else if code == 11 then 32 ∷ 32 ∷ []
    else if code == 13 then 10 ∷ []
    else visible_or_mark (character t code) ∷ []
shown t (Character c) = visible c ∷ []

-- what units show, one after another
unfoldable pub shown_all : ExtraTable → List Unit → List ℕ
shown_all t [] = []
shown_all t (u ∷ us) = shown t u ++ shown_all t us

-- the characters that the code's answer stands for
abbrev pub characters_shown : Shown → List ℕ
characters_shown Nothing = []
characters_shown (One c) = c ∷ []
characters_shown TwoSpaces = 32 ∷ 32 ∷ []
