-- Rows that are not shown: they are blank, and stay so.
use Rattle.std.proofs.Common.{◌≡◌, ◌∙◌, ◌≤◌, ◌&&◌, ℕ, Bool, true, false, List, get_or, arith, ap, sym, inl, inr, refl}
use Rattle.std.proofs.Common.{cond, nat_le, take, length-take}
use Rattle.std.proofs.lemmas.Bool.{cases_lt, lt-ltb}
use Rattle.std.proofs.lemmas.List.{get_or-take, get_or_past}
use Rattle.zk_term.specs.declared.windows.Cell.{Cell}
use Rattle.zk_term.specs.Grid.{blank}
use Rattle.zk_term.specs.Places.{cells_of}
use Rattle.zk_term.proofs.Grids.{AreEmptied, cells_of-same}

-- all cells from a place on are blank
abbrev pub IsBlankFrom : ℕ → List Cell → Type 0
IsBlankFrom n items = (k : ℕ) → n ≤ k → get_or items k blank ≡ blank

pub either : (b : Bool) (x : Cell) → x ≡ blank → cond b blank x ≡ blank
either true x e = refl
either false x e = e

-- cells are emptied up to the last where the others are blank
pub emptied_all : (old new : List Cell) (from n : ℕ) → n ≤ 65025 → AreEmptied old new from n → IsBlankFrom n old
    → AreEmptied old new from 65025
emptied_all old new from n high given none k = elim (cases_lt k n) [
  | inl inside ↦ given k ∙ ap (λ (b : Bool). cond (nat_le from k && b) blank (get_or old k blank))
      (lt-ltb k n inside ∙ sym (lt-ltb k 65025 (omega arith)))
  | inr outside ↦
      let e = none k outside in
      given k ∙ (either _ (get_or old k blank) e ∙ sym (either _ (get_or old k blank) e))
]

-- past the places that are taken there are blanks anyway
taken_or_blank : (items : List Cell) (n k : ℕ) → IsBlankFrom n items → get_or (take n items) k blank
    ≡ get_or items k blank
taken_or_blank items n k none = elim (cases_lt k n) [
  | inl inside ↦ get_or-take n items k blank inside
  | inr outside ↦ get_or_past (take n items) k blank (omega (arith, length-take n items)) ∙ sym (none k outside)
]

pub cells_of-take : (items : List Cell) (n : ℕ) → IsBlankFrom n items → cells_of (take n items) ≡ cells_of items
cells_of-take items n none = cells_of-same items (take n items) (λ k. taken_or_blank items n k none)
