use Rattle.std.proofs.Common.{refl}
use Rattle.zk_inspect.proofs.listing.object_lines.list_objects.Goals as goal

pub returns : goal.returns
returns g c = record {
  facts = _;
  is = record {
    count = c.count_objects-count.result;
    counted = record { listed = c.count_objects-count.ensures.listed; whole = c.count_objects-count.ensures.whole };
    are = refl;
  };
  given = c.list_first_objects.ensures;
}
