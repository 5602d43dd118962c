-- Worked examples of code that a run may rewrite, by the Standard's sections 1.1.1, 5.2 and 6.4, worked out by hand.
use Rattle.std.specs.Prelude.{◌≡◌, ℕ, List, [], ◌∷◌}
use Rattle.zk_mem.specs.Fresh.{plain_setup}
use Rattle.zk_mem.specs.Map.{MemoryMap}
use Rattle.zk_code.specs.guards.CleanExamples.{calling_from}
use Rattle.zk_inspect.specs.declared.check.finding.Number.TheVariants.{CodeBelowTheStaticBase}
use Rattle.zk_inspect.specs.Findings.{Finds}

-- of a story that begins at 8 nothing is low where dynamic memory ends there; a byte more, and it has the first
-- instruction's first byte, and no other's (section 1.1.1)
abbrev pub LowInstructions : Type 0
LowInstructions =
    ((a : ℕ) → Finds (calling_from 8) CodeBelowTheStaticBase a → ⊥)
    × Finds (calling_from 9) CodeBelowTheStaticBase 8
    × ((a : ℕ) → Finds (calling_from 9) CodeBelowTheStaticBase a → a ≡ 8)

-- a story of version 3 that begins at 10: there the routine at 8 is called, whose packed address is 4, and at 15 stands
-- a `quit`. The routine has no local variable, and at 9 a return.
abbrev pub calling_back : List ℕ
calling_back =
    3 ∷ 0 ∷ 0 ∷ 0 ∷ 0 ∷ 0 ∷ 0 ∷ 10
    ∷ 0
    ∷ 0xb0
    ∷ 0xe0 ∷ 0x3f ∷ 0 ∷ 4 ∷ 0
    ∷ 0xba ∷ []

-- with dynamic memory up to here
abbrev pub calling_back_from : ℕ → MemoryMap
calling_back_from base =
    record { version = 3; static_base = base; bytes = calling_back; file = calling_back; setup = plain_setup 0 }

-- the call is low where the byte at 8 is one of dynamic memory, and neither the return nor what stands after the call
-- is (sections 1.1.1, 5.2 and 6.4)
abbrev pub LowRoutines : Type 0
LowRoutines =
    Finds (calling_back_from 9) CodeBelowTheStaticBase 10
    × (Finds (calling_back_from 9) CodeBelowTheStaticBase 9 → ⊥)
    × (Finds (calling_back_from 9) CodeBelowTheStaticBase 15 → ⊥)
    × (Finds (calling_back_from 8) CodeBelowTheStaticBase 10 → ⊥)
