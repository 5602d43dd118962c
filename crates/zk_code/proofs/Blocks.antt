-- Where texts end, by blocks.
use Rattle.std.proofs.Common.{◌≡◌, ◌∙◌, ◌⊎◌, inl, inr, ℕ, ◌<◌, ◌≤◌, List, length, Option, Some, None, sym, ap, subst}
use Rattle.std.proofs.Common.{arith}
use Rattle.std.specs.Prelude.{slice_get, slice_set, IfSome}
use Rattle.std.proofs.lemmas.Bool.{cases_eq}
use Rattle.std.proofs.lemmas.Grind.{get_or-set_at}
use Rattle.std.proofs.lemmas.List.{get_or-set_other, length-set}
use Rattle.std.proofs.lemmas.Option.{get_or_from_slice_get, slice_get-get_or, slice_get_within}
use Rattle.zk_mem.specs.Map.{MemoryMap}
use Rattle.zk_mem.specs.Words.{text_end_at}
use Rattle.zk_mem.proofs.TextWords.{end_inside}
use Rattle.zk_code.specs.declared.ends.BlockEnds.{BlockEnds}
use Rattle.zk_code.specs.Ends.{AreEnds, IsOfBlock}

-- what stands in a list after a change
set_cases : {A : Type 0} (xs : List A) (x y : A) (i k : ℕ) → i < length xs
    → slice_get (slice_set xs i x) k ≡ Some y → ((k ≡ i) × (x ≡ y)) ⊎ (slice_get xs k ≡ Some y)
set_cases {A} xs x y i k lt h =
    let now = get_or_from_slice_get (slice_set xs i x) k y y h in
    elim (cases_eq k i) [
      | inl e ↦ inl (e, sym (get_or-set_at xs i k x y e lt) ∙ now)
      | inr ne ↦
          let within = slice_get_within (slice_set xs i x) k y h in
          let size = length-set xs i x in
          inr (slice_get-get_or xs k y (omega arith) ∙ ap (λ (z : A). Some z)
          (sym (get_or-set_other xs i k x y ne) ∙ now))
    ]

-- one block more
pub block_more : (m : MemoryMap) (blocks : List (Option BlockEnds)) (i : ℕ) (ends : BlockEnds) → i < length blocks
    → AreEnds m blocks → IsOfBlock m i ends → AreEnds m (slice_set blocks i (Some ends))
block_more m blocks i ends lt h now k others e = elim (set_cases blocks (Some ends) (Some others) i k lt e) [
  | inl same ↦ let one : ends ≡ others = (let some = same.1 in cc) in
      subst (λ (x : ℕ). IsOfBlock m x others) (sym same.0) (subst (IsOfBlock m i) one now)
  | inr old ↦ h k others old
]

-- an end lies in the story
pub end_within : (m : MemoryMap) (a b : ℕ) (o : Option ℕ) → o ≡ text_end_at m b
    → text_end_at m b ≡ text_end_at m a → IfSome o (λ end. end ≤ length m.bytes)
end_within m a b None e f = tt
end_within m a b (Some end) e f = end_inside m b end (sym e)
