use Rattle.std.proofs.Common.{◌∙◌}
use Rattle.zk_inspect.proofs.listing.object_lines.write_attributes.Goals as goal

pub returns : goal.returns
returns g c = rw (c.as_slice.ensures.value ∙ c.attributes_of-attributes.ensures) at c.write_numbers.ensures
