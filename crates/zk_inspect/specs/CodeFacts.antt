-- Which facts a listing of code has.
use Rattle.std.specs.Prelude.{◌≡◌, ℕ, List}
use Rattle.zk_mem.specs.Map.{MemoryMap}
use Rattle.zk_inspect.specs.Beside.{IsNamedCode, IsWhole}
use Rattle.zk_inspect.specs.Listing.{code_facts, whole_facts}
use Rattle.zk_inspect.specs.declared.fact.Fact.{Fact}
use Rattle.zk_inspect.specs.declared.reach.code.Code.{Code}
use Rattle.zk_inspect.specs.declared.whole.Whole.{Whole}

-- what is reached where addresses of code and of routines are named
pub record AreReachedFacts (m : MemoryMap) (addresses routines : List ℕ) (facts : List Fact) : Type 0 where
  pub code : Code
  pub code_is : IsNamedCode m addresses routines code
  pub are : facts ≡ code_facts code

-- with the routines that lie beside
pub record AreWholeFacts (m : MemoryMap) (addresses routines : List ℕ) (facts : List Fact) : Type 0 where
  pub whole : Whole
  pub whole_is : IsWhole m addresses routines whole
  pub are : facts ≡ whole_facts whole
