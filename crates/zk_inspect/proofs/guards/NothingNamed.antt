-- Code where nothing is named.
use Rattle.std.proofs.Common.{◌≡◌, ℕ, List, [], refl, subst}
use Rattle.zk_mem.specs.Map.{MemoryMap}
use Rattle.zk_code.specs.Reach.{IsCalledFrom, first_alone}
use Rattle.zk_inspect.specs.declared.reach.code.Code.{Code}
use Rattle.zk_inspect.specs.Beside.{NothingNamedAddsNothing, inside, roots_of, starts}
use Rattle.zk_inspect.specs.Codes.{IsCodeFrom, IsCodeOf, IsRoutineFrom}
use Rattle.zk_inspect.specs.Codes.IsRoutineFrom.{Called, Named}
use Rattle.zk_inspect.proofs.Searching.{nothing_in}

alone : (m : MemoryMap) → roots_of m [] [] ≡ first_alone m
unfolding inside starts
alone m = refl

called : (m : MemoryMap) (roots : List ℕ) (r : ℕ) → IsRoutineFrom m roots [] r → IsCalledFrom m roots r
called m roots r (Named h) = absurd (nothing_in r h.1)
called m roots r (Called h) = h

from_first : (m : MemoryMap) (code : Code) → IsCodeFrom m (first_alone m) [] code → IsCodeOf m code
from_first m code h = record {
  addresses = h.addresses;
  routines = record {
    listed = λ r there. called m (first_alone m) r (h.routines.listed r there);
    whole = λ r is. h.routines.whole r (Called is);
    ascending = h.routines.ascending;
  };
}

pub nothing_named_adds_nothing : NothingNamedAddsNothing
nothing_named_adds_nothing m code h =
    from_first m code (subst (λ (roots : List ℕ). IsCodeFrom m roots [] code) (alone m) h)
