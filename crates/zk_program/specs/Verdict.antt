-- What is asked of a memory whose story's runs are judged, and what is known of them.
use Rattle.std.specs.Prelude.{◌≡◌, [], None}
use Rattle.zk_mem.specs.Fresh.{fresh}
use Rattle.zk_mem.specs.Map.{MemoryMap, HasBytes}
use Rattle.zk_mem.specs.Story.{refusal}
use Rattle.zk_code.specs.Clean.{IsClean}
use Rattle.zk_code.specs.Reach.{IsReached}
use Rattle.zk_inspect.specs.Findings.{AreFindings}
use Rattle.zk_vm.specs.Inside.{StaysClean, StopsRead}

-- a memory at the start of a story (Standard, section 11.1)
pub record IsStart (m : MemoryMap) : Type 0 where
  pub story : refusal m.file ≡ None
  pub fresh_is : m ≡ fresh m.file m.setup

-- the code that a story reaches is clean, and so are its runs
pub record HasCleanRuns (m : MemoryMap) : Type 0 where
  pub code : IsClean m (IsReached m)
  pub runs : StaysClean m.file (IsReached m)
  pub stops : StopsRead m.file (IsReached m)

-- so it is where nothing is wrong with a story
abbrev pub CleanWhereNone : Type 0
CleanWhereNone = (m : MemoryMap) → HasBytes m → IsStart m → AreFindings m [] → HasCleanRuns m
