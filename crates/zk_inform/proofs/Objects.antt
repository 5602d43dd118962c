-- The last of objects that are told from 1 on.
use Rattle.std.proofs.Common.{◌≡◌, ◌+◌, ℕ, zero, suc, List, map, refl, sym, arith, ◌∙◌, subst}
use Rattle.std.specs.List.{range_with_len}
use Rattle.zk_mem.specs.Map.{MemoryMap}
use Rattle.zk_inspect.specs.declared.fact.Fact.{Fact}
use Rattle.zk_inspect.specs.declared.fact.Fact.TheVariants as fact
use Rattle.zk_inspect.specs.ObjectLines.{AreObjectFacts}
use Rattle.zk_inspect.specs.ObjectTests.{IsCounted}
use Rattle.zk_inform.specs.Last.{last_object}

last_of_more : (before a n : ℕ) → before + 1 ≡ a
    → last_object before (map fact.Object (range_with_len a n)) ≡ before + n
last_of_more before a zero h = omega arith
last_of_more before a (suc n) h = last_of_more a (a + 1) n refl ∙ omega (arith, h)

from_none : (n : ℕ) → 0 + n ≡ n
from_none n = omega arith

pub last_is_count : (m : MemoryMap) (facts : List Fact) (last : ℕ) → AreObjectFacts m facts
    → last ≡ last_object 0 facts → IsCounted m last
last_is_count m facts last are h =
    let told : last_object 0 (map fact.Object (range_with_len 1 are.count)) ≡ 0 + are.count =
    last_of_more 0 1 are.count refl in
    let all : last_object 0 facts ≡ 0 + are.count = rw are.are told in
    let same : last ≡ are.count = h ∙ all ∙ from_none are.count in
    subst (λ (n : ℕ). IsCounted m n) (sym same) are.counted
