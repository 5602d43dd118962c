-- Which reasons a file is refused for.
use Rattle.std.proofs.Common.{◌≡◌, ℕ, Bool, true, false, List, Some, ◌∷◌, []}
use Rattle.zk_mem.specs.declared.story.OpenError.TheVariants.{FirstInstruction, OutOfMemory, StaticBase, TooLong}
use Rattle.zk_mem.specs.declared.story.OpenError.TheVariants.{TooShort, Version}
use Rattle.zk_mem.specs.Story.{first_of, refusal}

by_tests : (a b c d e : Bool) (v : ℕ) → first_of ((a, TooShort) ∷ (b, Version v) ∷ (c, TooLong) ∷ (d, StaticBase)
    ∷ (e, FirstInstruction) ∷ []) ≡ Some OutOfMemory → ⊥
by_tests true b c d e v h = absurd cc
by_tests false true c d e v h = absurd cc
by_tests false false true d e v h = absurd cc
by_tests false false false true e v h = absurd cc
by_tests false false false false true v h = absurd cc
by_tests false false false false false v h = absurd cc

-- lack of memory is none of a file's own
pub never_memory : (file : List ℕ) → refusal file ≡ Some OutOfMemory → ⊥
unfolding refusal
never_memory file h = by_tests _ _ _ _ _ _ h
