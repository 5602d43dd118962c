use Rattle.std.proofs.Common.{◌∙◌}
use Rattle.zk_text.specs.Meaning.{text_units}
use Rattle.zk_inspect.proofs.Shortening.{short_of}
use Rattle.zk_inspect.proofs.listing.shortening.write_short_meaning.Goals as goal

pub returns : goal.returns
returns g c = rw (short_of c.args.memory.now (text_units c.args.memory.now c.args.address) c.requires)
    (c.write_shortened.ensures _ (c.as_slice.ensures.value ∙ c.beginning_of-beginning.ensures))
