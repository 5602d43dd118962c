use Rattle.std.proofs.Common.{◌≡◌, ◌≤◌, length}
use Rattle.zk_names.specs.Documents.{Progress, ReadsAll, length_before, nothing, pieces, progress_of}
use Rattle.zk_names.proofs.document.read_pieces.Given as goal

abbrev pub invariant-loop-end : goal.invariant-loop-end
invariant-loop-end l = record {
  end : l.end ≡ length_before 60 l.rest;
  goes : (after : Progress) → ReadsAll (progress_of l.reading) (pieces l.rest) after
      → ReadsAll nothing (pieces l.body) after;
  within : length l.rest ≤ length l.body;
}

abbrev pub decreases-loop-end : goal.decreases-loop-end
decreases-loop-end l = length l.rest
