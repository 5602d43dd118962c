use Rattle.std.proofs.Common.{◌≡◌, ◌≤◌, take, count_by}
use Rattle.zk_coverage.specs.Coverage.{AreInOrder, is_of, text_ran}
use Rattle.zk_coverage.proofs.tally.texts_of.Given as goal

abbrev pub invariant-loop-placed : goal.invariant-loop-placed
invariant-loop-placed l = record {
  bound : (l.share.ran ≤ l.share.listed) × (l.share.listed ≤ l.placed-index);
  listed : l.share.listed ≡ count_by (λ t. is_of l.file t.place) (take l.placed-index l.texts);
  ran : AreInOrder l.ran → l.share.ran
      ≡ count_by (text_ran l.ran.covered.now l.file) (take l.placed-index l.texts);
}
