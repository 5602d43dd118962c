-- The pieces into which the Z-characters of a text are cut (Standard, sections 3.2 to 3.6).
use Rattle.std.specs.Prelude.{ℕ, zero, suc, ◌+◌, ◌*◌, ◌-◌, List, [], ◌∷◌, Option, Some, None, nat_lt, ◌==◌}
use Rattle.std.specs.Prelude.{if◌then◌else◌}
use Rattle.zk_text.specs.declared.alphabet.Row.TheVariants.{A0, A1, A2}
use Rattle.zk_text.specs.declared.pieces.Piece.{Piece}
use Rattle.zk_text.specs.declared.pieces.Piece.TheVariants.{Letter, Code, Abbreviation}

-- A piece, and how many further Z-characters it takes. None is a piece that shows nothing.
abbrev pub Cut : Type 0
Cut = Option Piece × ℕ

-- after 1, 2 or 3: an abbreviation, with any Z-character (section 3.3)
abbrev pub abbreviation_cut : ℕ → List ℕ → Cut
abbreviation_cut z [] = (None, 0)
abbreviation_cut z (x ∷ zs) = (Some (Abbreviation (32 * (z - 1) + x)), 1)

-- after 5 and 6: a code in two halves; cut off, it takes all that is left (sections 3.4 and 3.6.1)
abbrev pub code_cut : List ℕ → Cut
code_cut [] = (None, 1)
code_cut (high ∷ []) = (None, 2)
code_cut (high ∷ low ∷ zs) = (Some (Code (32 * high + low)), 3)

-- after 4: one letter of A1; before 0 to 5 the 4 is a piece by itself (sections 3.2.3 and 3.2.4)
abbrev pub a1_cut : List ℕ → Cut
a1_cut [] = (None, 0)
a1_cut (x ∷ zs) = if nat_lt x 6 then (None, 0) else (Some (Letter A1 x), 1)

-- after 5: one letter of A2, or a code
abbrev pub a2_cut : List ℕ → Cut
a2_cut [] = (None, 0)
a2_cut (x ∷ zs) =
    if nat_lt x 6 then (None, 0) else if x == 6 then code_cut zs else (Some (Letter A2 x), 1)

-- the piece that z begins, where zs follow; 0 is a space (section 3.5.1)
abbrev pub cut : ℕ → List ℕ → Cut
cut z zs =
    if z == 0 then (Some (Code 32), 0)
    else if nat_lt z 4 then abbreviation_cut z zs
    else if z == 4 then a1_cut zs
    else if z == 5 then a2_cut zs
    else (Some (Letter A0 z), 0)

-- a piece before others
abbrev pub piece_before : Option Piece → List Piece → List Piece
piece_before None ps = ps
piece_before (Some p) ps = p ∷ ps

-- the pieces of a list of which the first n Z-characters belong to a piece before it
unfoldable pub pieces_past : List ℕ → ℕ → List Piece
pieces_past [] n = []
pieces_past (z ∷ zs) zero = piece_before (cut z zs).0 (pieces_past zs (cut z zs).1)
pieces_past (z ∷ zs) (suc n) = pieces_past zs n

-- the pieces of a whole list of Z-characters
abbrev pub pieces : List ℕ → List Piece
pieces zs = pieces_past zs 0
