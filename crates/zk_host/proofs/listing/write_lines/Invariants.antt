use Rattle.std.proofs.Common.{◌≡◌}
use Rattle.zk_host.specs.declared.listing.LinesEnd.TheVariants as end
use Rattle.zk_host.specs.Listings.{AreWritten}
use Rattle.zk_host.proofs.listing.write_lines.Given as goal

abbrev pub invariant-loop-fact : goal.invariant-loop-fact
invariant-loop-fact l = record {
  written : AreWritten l.memory l.facts l.part.lines l.words l.part.words l.fn.target.text.bytes l.target.text.bytes;
  index : l.part.lines ≡ l.fact-index;
  over : l.part.end ≡ end.Over;
  begun : l.part.lines ≡ 0 → l.used ≡ 0;
}
