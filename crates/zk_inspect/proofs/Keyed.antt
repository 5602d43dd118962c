-- The words of keys.
use Rattle.std.specs.List.{flat_map}
use Rattle.std.proofs.Common.{arith, ◌≡◌, ◌∙◌, ◌-◌, ◌≤◌, ℕ, zero, suc, List, [], ◌∷◌, ◌++◌, Option, Some, None, length}
use Rattle.std.proofs.Common.{get_or, take, drop, refl, sym, ap, ap₂}
use Rattle.std.specs.Prelude.{min}
use Rattle.std.proofs.lemmas.List.{take_rest}
use Rattle.zk_mem.specs.Map.{MemoryMap}
use Rattle.zk_text.specs.declared.pieces.Piece.{Piece}
use Rattle.zk_text.specs.declared.unit.Unit.{Unit}
use Rattle.zk_text.specs.Pieces.{cut, piece_before, pieces, pieces_past}
use Rattle.zk_inspect.specs.DictionaryLines.{piece_units, word_units}

-- the first of some Z-characters belong to a piece before
past_is_rest : (zs : List ℕ) (n : ℕ) → pieces_past zs n ≡ pieces (drop n zs)
unfolding pieces_past
past_is_rest [] zero = refl
past_is_rest [] (suc n) = refl
past_is_rest (z ∷ zs) zero = refl
past_is_rest (z ∷ zs) (suc n) = past_is_rest zs n

drop_none : (n : ℕ) → drop {A = ℕ} n [] ≡ []
drop_none zero = refl
drop_none (suc n) = refl

drop_past : (zs : List ℕ) (n : ℕ) → drop (min n (length zs)) zs ≡ drop n zs
drop_past [] n = drop_none (min n 0) ∙ sym (drop_none n)
drop_past (z ∷ zs) zero = let e : min 0 (length (z ∷ zs)) ≡ 0 = omega arith in ap (λ (k : ℕ). drop k (z ∷ zs)) e
drop_past (z ∷ zs) (suc n) = let e : min (suc n) (length (z ∷ zs)) ≡ suc (min n (length zs)) = omega arith in
    ap (λ (k : ℕ). drop k (z ∷ zs)) e ∙ drop_past zs n

with_piece : (m : MemoryMap) (p : Option Piece) (ps : List Piece) → flat_map (λ q. piece_units m (Some q))
    (piece_before p ps) ≡ piece_units m p ++ flat_map (λ q. piece_units m (Some q)) ps
with_piece m None ps = refl
with_piece m (Some p) ps = refl

-- what the first piece stands for, and what the Z-characters after it do
units_step : (m : MemoryMap) (z : ℕ) (zs : List ℕ) → word_units m (z ∷ zs) ≡ piece_units m (cut z zs).0
    ++ word_units m (drop (cut z zs).1 zs)
unfolding word_units pieces_past
units_step m z zs = with_piece m (cut z zs).0 (pieces_past zs (cut z zs).1)
    ∙ ap (λ (ps : List Piece). piece_units m (cut z zs).0 ++ flat_map (λ q. piece_units m (Some q)) ps)
    (past_is_rest zs (cut z zs).1)

-- the same of a slice
pub word_on : (m : MemoryMap) (xs : List ℕ) (d n : ℕ) (p : Option Piece) (rest : List ℕ) → 1 ≤ length xs
    → rest ≡ take (length xs - 1) (drop 1 xs) → p ≡ (cut (get_or xs 0 d) rest).0 → n ≡ (cut (get_or xs 0 d) rest).1
    → word_units m xs ≡ piece_units m p ++ word_units m (drop (min n (length rest)) rest)
word_on m [] d n p rest le r e f = absurd (omega arith)
word_on m (z ∷ zs) d n p rest le r e f =
    let same : rest ≡ zs = r ∙ take_rest (z ∷ zs) 1 in
    let pe : piece_units m (cut z zs).0 ≡ piece_units m p = ap (λ (l : List ℕ). piece_units m (cut z l).0)
    (sym same) ∙ ap (piece_units m) (sym e) in
    let re : drop (cut z zs).1 zs ≡ drop (min n (length rest)) rest = ap (λ (l : List ℕ). drop (cut z l).1 l)
    (sym same) ∙ ap (λ (k : ℕ). drop k rest) (sym f) ∙ sym (drop_past rest n) in
    units_step m z zs ∙ ap₂ (λ (us : List Unit) (l : List ℕ). us ++ word_units m l) pe re

-- no Z-characters are left
pub word_end : (m : MemoryMap) (xs : List ℕ) → length xs ≡ 0 → word_units m xs ≡ []
unfolding word_units pieces_past
word_end m [] h = refl
word_end m (x ∷ xs) h = absurd (omega arith)
