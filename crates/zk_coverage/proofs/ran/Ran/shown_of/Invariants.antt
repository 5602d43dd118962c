use Rattle.std.proofs.Common.{◌≡◌, ◌≤◌, take, count_by}
use Rattle.zk_coverage.specs.Coverage.{AreInOrder, has_run}
use Rattle.zk_coverage.proofs.ran.Ran.shown_of.Given as goal

abbrev pub invariant-loop-text : goal.invariant-loop-text
invariant-loop-text l =
    (l.ran ≤ l.text-index)
    × (AreInOrder l.self → l.ran ≡ count_by (λ t. has_run l.self.covered.now t.address) (take l.text-index l.texts))
