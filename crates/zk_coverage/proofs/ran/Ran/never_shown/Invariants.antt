use Rattle.std.proofs.Common.{◌≡◌, take}
use Rattle.std.specs.Prelude.{filter}
use Rattle.zk_coverage.specs.Coverage.{AreInOrder, never_shown}
use Rattle.zk_coverage.proofs.ran.Ran.never_shown.Given as goal

abbrev pub invariant-loop-text : goal.invariant-loop-text
invariant-loop-text l =
    AreInOrder l.self → l.missed.items ≡ filter (never_shown l.self) (take l.text-index l.texts)
