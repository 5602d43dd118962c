-- The tables of the Standard: the letters of its alphabets, and the extra characters of ZSCII.
use Rattle.std.specs.Prelude.{ℕ, List, ◌∷◌, ◌++◌, codes, zip}

-- A0, A1 and A2, each from Z-character 6 on; the first of A2 is no letter (section 3.5.3)
unfoldable pub standard_letters : List ℕ
standard_letters =
    codes "abcdefghijklmnopqrstuvwxyz"
    ++ codes "ABCDEFGHIJKLMNOPQRSTUVWXYZ"
    ++ (32 ∷ 13 ∷ codes "0123456789.,!?_#'\"/\\-:()")

-- the characters of the codes from 155 on (section 3.8.5.3)
unfoldable pub standard_characters : List ℕ
standard_characters =
    codes "äöüÄÖÜß»«ëïÿËÏ"
    ++ codes "áéíóúýÁÉÍÓÚÝ"
    ++ codes "àèìòùÀÈÌÒÙ"
    ++ codes "âêîôûÂÊÎÔÛ"
    ++ codes "åÅøØãñõÃÑÕ"
    ++ codes "æÆçÇþðÞÐ£œŒ¡¿"

-- the capitals of ASCII, each with its small letter
unfoldable pub ascii_capitals : List (ℕ × ℕ)
ascii_capitals =
    zip (codes "ABCDEFGHIJKLMNOPQRSTUVWXYZ")
    (codes "abcdefghijklmnopqrstuvwxyz")

-- those of the extra characters
unfoldable pub extra_capitals : List (ℕ × ℕ)
extra_capitals =
    zip (codes "ÄÖÜËÏÁÉÍÓÚÝÀÈÌÒÙÂÊÎÔÛÅØÃÑÕÆÇÞÐŒ")
    (codes "äöüëïáéíóúýàèìòùâêîôûåøãñõæçþðœ")

-- those of both
abbrev pub capitals : List (ℕ × ℕ)
capitals = ascii_capitals ++ extra_capitals
