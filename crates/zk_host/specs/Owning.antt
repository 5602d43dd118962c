-- What a handle owns.
use Rattle.std.specs.Prelude.{Bool, true, false, Option, Some, None}
use mir.Syntax.{Ty}
use base.Fml.{Fml, ftrue, ffalse}
use denote.RattleType.{RattleType}
use denote.RawPtr.{Ptr}
use Rattle.std_alloc.specs.Box.Ownership.{box_owns}
use Rattle.std_heap.specs.declared.Global.{Global}
use Rattle.std_heap.specs.contracts.GlobalAllocator.TheImpl.{ghosts}

-- the library's allocator
abbrev pub heap : Global
heap = record { memory = record { seal = tt } }

-- a pointer's block may be given back to it
abbrev pub token : Ty → Ptr → Fml
token = ghosts.dealloc_token heap

-- an open handle owns the box of its value, a closed one nothing
abbrev pub holds : (Ty → Ptr → Fml) → (R : RattleType) → Bool → Ptr → Option R.Denot → Fml
holds token R true at (Some value) = box_owns token R at value
holds token R true at None = ffalse
holds token R false at (Some value) = ffalse
holds token R false at None = ftrue
