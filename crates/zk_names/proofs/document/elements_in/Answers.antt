use Rattle.std.proofs.Common.{◌≡◌, [], rules}
use Rattle.std.proofs.lemmas.Bool.Decides.{Decides-eqb}
use Rattle.std.proofs.lemmas.List.{nil_from_length}
use Rattle.std.proofs.lemmas.Slice.Eq.{strip_prefix_is}
use Rattle.zk_names.specs.Documents.{declaration}
use Rattle.zk_names.proofs.document.elements_in.Goals as goal

pub returns-then-is_empty : goal.returns-then-is_empty
returns-then-is_empty c =
    let none : c.in_ok-reading.reading.names.items ≡ [] =
    nil_from_length c.in_ok-reading.reading.names.items (search rules) in
    record {
      body = c.in-Some-strip_prefix.body.now;
      whole = rw c.in-Some-strip_prefix.is at (strip_prefix_is Decides-eqb c.args.bytes.now declaration
          c.strip_prefix.result c.strip_prefix.ensures.cases);
      read = rw none at c.in_ok-reading.ensures;
    }
