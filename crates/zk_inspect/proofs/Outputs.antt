-- Texts that are written one after another.
use Rattle.std.specs.List.{flat_map}
use Rattle.std.proofs.Common.{◌≤◌, ◌-◌, drop, take, arith, length, get_or, ◌≡◌, ℕ, List, [], ◌∷◌, ◌++◌, refl, ap}
use Rattle.std.proofs.lemmas.List.{take_rest}
use Rattle.zk_mem.specs.Map.{MemoryMap}
use Rattle.zk_code.specs.declared.instr.Instr.{Instr}
use Rattle.zk_code.specs.declared.operands.Operand.{Operand}
use Rattle.zk_inspect.specs.Listing.{first_text, further_text, operands_text}

-- the operands of an instruction
pub first_operand : (m : MemoryMap) (i : Instr) (os xs : List Operand) (d : Operand) → xs ≡ os → 1 ≤ length xs
    → operands_text m i os ≡ (32 ∷ first_text m i (get_or xs 0 d)) ++ flat_map further_text
    (take (length xs - 1) (drop 1 xs))
unfolding operands_text
first_operand m i [] xs d e le = let n : length xs ≡ 0 = ap length e in absurd (omega arith)
first_operand m i (o ∷ os) xs d e le = rw e (rw take_rest refl)

-- a text that is two, one after the other
pub wrote_on : {S : Type 0} (wrote : S → S → List ℕ → Type 0) (twice : (x y z : S) (s t : List ℕ) → wrote x y s
    → wrote y z t → wrote x z (s ++ t)) (a b c : S) (s t u : List ℕ) → u ≡ s ++ t → wrote a b s → wrote b c t
    → wrote a c u
wrote_on {S} wrote twice a b c s t u whole h k = rw whole (twice a b c s t h k)
